-- What a search finds in a region in the grammar.
use Rattle.std.proofs.Common.{◌≡◌, ℕ, zero, suc, ◌+◌, ◌-◌, ◌<◌, List, [], ◌∷◌, length, get_or, refl, sym, ◌∙◌, subst, arith, Some, Ok, Err}
use Rattle.std.specs.Prelude.{Result, slice_get}
use Rattle.std.proofs.lemmas.Nat.{mul-le}
use Rattle.log_disk.specs.Disk.{Eye}
use Rattle.fine_model.specs.declared.Header.{Header}
use Rattle.fine_model.specs.declared.NodeId.{NodeId}
use Rattle.fine_model.specs.declared.Part.{Part}
use Rattle.fine_model.specs.declared.Row.{Row}
use Rattle.fine_model.specs.RowBytes.{FitsRow}
use Rattle.fine_model.specs.Merge.{nodes_in}
use Rattle.fine_model.specs.Regions.{body_in}
use Rattle.fine_model.specs.Seek.{RowSpan, entry_at, span_at}
use Rattle.fine_model.proofs.Ordered.Order.{all_map}
use Rattle.partition_index.specs.Entries.{model_of, entry_for, row_span_of}
use Rattle.partition_index.specs.Parts.{IsSeen, LiesIn}
use Rattle.partition_index.specs.Search.{TellsRows, IsEntryAt, IsSpanAt, IsBadAt, span_for}
use Rattle.partition_index.specs.declared.entries.IndexEntry.{IndexEntry}
use Rattle.partition_index.specs.declared.entries.Span.{Span}
use Rattle.partition_index.specs.declared.entries.SeekFault.{SeekFault}
use Rattle.partition_index.specs.declared.entries.SeekFault.TheVariants as fault
use Rattle.partition_index.proofs.BodyPlaces.{laid}
use Rattle.partition_index.proofs.Looking.{told_as}
use Rattle.partition_index.proofs.InGrammar.{HoldsRows, entry_is, span_is}

pub area_small : (region_len : ℕ) (header : Header) → LiesIn region_len header → header.area < 4294967296
area_small region_len header l =
    let r = laid region_len header l in
    let small = l.small in
    let most = mul-le (header.regions - 1) (region_len - 1) 7 67108864 (omega (arith, r.few)) (omega arith) in
    omega (arith, r.room, most)

pub nodes_small : (region_len : ℕ) (header : Header) → LiesIn region_len header → header.nodes + 1 < 4294967296
nodes_small region_len header l =
    let r = laid region_len header l in
    let small = l.small in
    let most = mul-le (header.regions - 1) (region_len - 1) 7 67108864 (omega (arith, r.few)) (omega arith) in
    omega (arith, r.room, most)

pub holds_rows : (eye : Eye) (p : Part) (rows : List Row) → IsSeen eye p → (t : TellsRows eye p rows) → HoldsRows p.header (body_in t.image p.region p.header) rows
holds_rows eye p rows seen t =
    let area : t.sealed.header.area < 4294967296 = subst (λ h. h.area < 4294967296) (sym t.of_part) (area_small eye.region_len p.header seen.lies) in
    subst (λ h. HoldsRows h (body_in t.image p.region h) rows) t.of_part (record {
      counted = t.sealed.of_rows.0;
      nodes = t.sealed.of_rows.1;
      area = t.sealed.of_rows.2;
      small = omega (arith, area, t.sealed.of_rows.2);
      fit = all_map (FitsRow t.sealed.header.mark) (λ r. (r.node.bucket < 256) × (r.node.number < 1048576)) (λ r f. (f.bucket, f.number)) rows t.sealed.rows_fit;
      rest = t.sealed.spelled.0;
      spelled = t.sealed.spelled.1;
    })

-- no entry is bad
pub never_bad : (eye : Eye) (p : Part) (rows : List Row) (at : ℕ) → IsSeen eye p → TellsRows eye p rows → IsBadAt eye.told p at → ⊥
never_bad eye p rows at seen t b =
    let w : (i : ℕ) × (i < p.header.nodes) × (span_at p.header (body_in t.image p.region p.header) i ≡ Err at) =
    told_as (λ j. (i : ℕ) × (i < p.header.nodes) × (span_at p.header (body_in j p.region p.header) i ≡ Err at)) eye.told t.image t.told b.told in
    let d : NodeId = record { bucket = 0; number = 0 } in
    let good = span_is p.header (body_in t.image p.region p.header) rows (holds_rows eye p rows seen t) w.0 d w.1 in
    let clash : ◌≡◌ {A = Result RowSpan ℕ} (Err at) (Ok (row_span_of (span_for rows (get_or (nodes_in rows) w.0 d)))) = sym w.2 ∙ good in cc

-- so only the eye can fail
pub only_failed : (eye : Eye) (p : Part) (rows : List Row) (f : SeekFault) → IsSeen eye p → TellsRows eye p rows → ((at : ℕ) → f ≡ fault.BadIndex at → IsBadAt eye.told p at) → f ≡ fault.Failed
only_failed eye p rows fault.Failed seen t bad = refl
only_failed eye p rows (fault.BadIndex at) seen t bad = absurd (never_bad eye p rows at seen t (bad at refl))

pub entry_exact : (eye : Eye) (p : Part) (rows : List Row) (i : ℕ) (entry : IndexEntry) (d : NodeId) → IsSeen eye p → TellsRows eye p rows → i < p.header.nodes → IsEntryAt eye.told p i entry → entry ≡ entry_for rows (get_or (nodes_in rows) i d)
entry_exact eye p rows i entry d seen t here e =
    let told : entry_at p.header (body_in t.image p.region p.header) i ≡ model_of entry = told_as (λ j. entry_at p.header (body_in j p.region p.header) i ≡ model_of entry) eye.told t.image t.told e.told in
    let same : model_of entry ≡ model_of (entry_for rows (get_or (nodes_in rows) i d)) = sym told ∙ entry_is p.header (body_in t.image p.region p.header) rows (holds_rows eye p rows seen t) i d here in
    λ k. record { node = (same k).node; offset = (same k).offset; rows = (same k).rows }

pub span_exact : (eye : Eye) (p : Part) (rows : List Row) (i : ℕ) (span : Span) (d : NodeId) → IsSeen eye p → TellsRows eye p rows → i < p.header.nodes → IsSpanAt eye.told p i span → span ≡ span_for rows (get_or (nodes_in rows) i d)
span_exact eye p rows i span d seen t here e =
    let told : span_at p.header (body_in t.image p.region p.header) i ≡ Ok (row_span_of span) = told_as (λ j. span_at p.header (body_in j p.region p.header) i ≡ Ok (row_span_of span)) eye.told t.image t.told e.told in
    let oks : ◌≡◌ {A = Result RowSpan ℕ} (Ok (row_span_of span)) (Ok (row_span_of (span_for rows (get_or (nodes_in rows) i d)))) = sym told ∙ span_is p.header (body_in t.image p.region p.header) rows (holds_rows eye p rows seen t) i d here in
    let same : row_span_of span ≡ row_span_of (span_for rows (get_or (nodes_in rows) i d)) = cc in
    λ k. record { at = (same k).at; end = (same k).end; rows = (same k).rows }

pub there_in : (eye : Eye) (p : Part) (rows : List Row) (i : ℕ) → IsSeen eye p → TellsRows eye p rows → i < p.header.nodes → i < length (nodes_in rows)
there_in eye p rows i seen t here = omega (arith, here, (holds_rows eye p rows seen t).nodes)

pub get_is : (ids : List NodeId) (i : ℕ) (d : NodeId) → i < length ids → slice_get ids i ≡ Some (get_or ids i d)
get_is [] i d here = absurd (omega (arith, here))
get_is (id ∷ ids) zero d here = refl
get_is (id ∷ ids) (suc i) d here = get_is ids i d (omega (arith, here))
