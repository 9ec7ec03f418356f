-- What was read of a part is its rows, or no rows are those of the part; and those of parts, one after the other.
use Rattle.std.proofs.Common.{◌≡◌, ◌≢◌, ◌⊎◌, ℕ, zero, suc, ◌+◌, ◌-◌, ◌*◌, ◌<◌, ◌≤◌, List, [], ◌∷◌, ◌++◌, length, take, drop, refl, sym, ap, ◌∙◌, inl, inr, arith, subst, sum_by, append-nil, append_assoc, length-drop, length-take, take_at, take-append-drop, slice_range, flat_map, Option, Some, None, IfSome, Ok}
use Rattle.std.specs.Prelude.{Any, Result, slice_index_or}
use Rattle.std.specs.List.{AllByRecursion}
use Rattle.std.proofs.Math.Seq.{take-add}
use Rattle.std.proofs.lemmas.Grind.{common_steps}
use Rattle.std.proofs.lemmas.List.{drop-append-le, take_more, take-append-le}
use Rattle.std.proofs.lemmas.List.Sums.{sum_by_push}
use Rattle.fine_model.specs.declared.Header.{Header}
use Rattle.fine_model.specs.declared.Mark.{Mark}
use Rattle.fine_model.specs.declared.Mark.TheVariants as mark
use Rattle.fine_model.specs.declared.Part.{Part}
use Rattle.fine_model.specs.declared.Row.{Row}
use Rattle.fine_model.specs.Chain.{AreRowsOf}
use Rattle.fine_model.specs.Merge.{nodes_in}
use Rattle.fine_model.specs.Regions.{BeginsWithRows, HasHeader, Image, IsBadItem, IsSealed, Place, body_in, body_len, body_start, continuations, index_area, index_bytes, place_of, region_of, row_area}
use Rattle.fine_model.specs.RowBytes.{FitsRow, kind, last_kind, rows_bytes, rows_len}
use Rattle.fine_model.proofs.Chain.Grammar.{rows_bytes-append, rows_long, sealed_not_bad}
use Rattle.fine_model.proofs.Chain.Longer.{rows_more}
use Rattle.fine_model.proofs.Ordered.Order.{all_map}
use Rattle.fine_model.proofs.Ordered.Sets.{all_append}
use Rattle.log_disk.specs.Disk.{Disk, Told}
use Rattle.log_partition.specs.Bodies.{HasRows}
use Rattle.log_partition.proofs.Costs.{cost_none, cost_together}
use Rattle.log_partition.proofs.Sealed.{nodes_some}
use Rattle.node_record.specs.declared.key.RowAt.{RowAt}
use Rattle.row_gathering.specs.Gathering.{bodies_len}
use Rattle.row_gathering.specs.Steps.{AddsBody, AddsRows, AreRead, FitTogether, HasPart, IsBadBody, LacksPart, keys_from}
use Rattle.row_gathering.proofs.KeysFrom.{keys_both}

-- ---- what is bad of a body is bad with bytes behind it

module _ (header : Header) (body rest : List ℕ) (long : length body ≡ body_len header) where
  rows_alike : row_area header (body ++ rest) ≡ row_area header body
  rows_alike = take-append-le header.area body rest (omega (arith, long))

  index_alike : index_area header (body ++ rest) ≡ index_area header body
  index_alike =
      ap (take (14 * header.nodes)) (drop-append-le header.area body rest (omega (arith, long)))
      ∙ take-append-le (14 * header.nodes) (drop header.area body) rest (omega (arith, long, length-drop header.area body))

  longer : (rows : List Row) (more : List ℕ) → BeginsWithRows header body rows more → BeginsWithRows header (body ++ rest) rows more
  longer rows more b = record { fit = b.fit; ordered = b.ordered; spelled = rows_alike ∙ b.spelled; counted = b.counted }

  shorter : (rows : List Row) (more : List ℕ) → BeginsWithRows header (body ++ rest) rows more → BeginsWithRows header body rows more
  shorter rows more b = record { fit = b.fit; ordered = b.ordered; spelled = sym rows_alike ∙ b.spelled; counted = b.counted }

  bad_longer : (at : ℕ) → IsBadItem header body at → IsBadItem header (body ++ rest) at
  bad_longer at (inl row) = inl (record {
    rows = row.rows;
    rest = row.rest;
    good = longer row.rows row.rest row.good;
    place = row.place;
    unfinished = row.unfinished;
    last = λ next more b. row.last next more (shorter (row.rows ++ next ∷ []) more b);
  })
  bad_longer at (inr entry) = inr (record {
    rows = entry.rows;
    good = longer entry.rows [] entry.good;
    all = entry.all;
    entry = entry.entry;
    there = entry.there;
    place = entry.place;
    before = ap (take (14 * entry.entry)) index_alike ∙ entry.before;
    bad = elim entry.bad as (λ _. (take (14 * (entry.entry + 1)) (index_area header (body ++ rest)) ≢ take (14 * (entry.entry + 1)) (index_bytes entry.rows)) ⊎ ((entry.entry + 1 ≡ header.nodes) × (entry.entry + 1 < length (nodes_in entry.rows)))) [
      | inl differ ↦ inl (λ same. differ (ap (take (14 * (entry.entry + 1))) (sym index_alike) ∙ same))
      | inr fewer ↦ inr fewer
    ];
  })

-- ---- one part

two_row : (m : Mark) (row : Row) → FitsRow m row → FitsRow mark.Two row
two_row m row fits = record {
  of_format = by m fits.of_format;
  bucket = fits.bucket;
  number = fits.number;
  head = fits.head;
  version_low = fits.version_low;
  version_high = fits.version_high;
  rec = fits.rec;
}
  where
    by : (m : Mark) → kind row.rec ≤ last_kind m → kind row.rec ≤ 9
    by mark.One low = omega (arith, low)
    by mark.Two low = low
    by mark.Three low = low

same_header : (a b : Header) → ◌≡◌ {A = Result (Option Header) ℕ} (Ok (Some a)) (Ok (Some b)) → a ≡ b
same_header a b e = cc

named_some : (rows : List Row) → length (nodes_in rows) ≡ 0 → length rows ≡ 0
named_some [] none = refl
named_some (row ∷ rows) none = absurd (omega (arith, none, nodes_some row rows))

-- bytes are the body of a part, as it stands on the disk where that tells its bytes
abbrev pub IsBodyOf : Disk → Part → List ℕ → Type 0
IsBodyOf disk part body = IfSome disk.told (λ told. body ≡ slice_range (region_of told.bytes part.region) (body_start part.header.mark) (body_start part.header.mark + length body))

module _ (disk : Disk) (part : Part) (body : List ℕ) (one : part.header.regions ≡ 1) where
  -- behind the body of a part in one region there are bytes of no meaning
  stands : (image : Image) → body ≡ slice_range (region_of image part.region) (body_start part.header.mark) (body_start part.header.mark + length body)
      → (rest : List ℕ) × (body_in image part.region part.header ≡ body ++ rest)
  unfolding body_in
  stands image same =
      let behind : List ℕ = drop (body_start part.header.mark) (region_of image part.region) in
      let len : (body_start part.header.mark + length body) - body_start part.header.mark ≡ length body = omega arith in
      let front : body ≡ take (length body) behind = same ∙ ap (λ n. take n behind) len in
      let none : flat_map (λ region. drop 1 (region_of image region)) (continuations part.header) ≡ [] = ap (λ n. flat_map (λ region. drop 1 (region_of image region)) (take (n - 1) part.header.more)) one in
      (drop (length body) behind, ap (λ xs. behind ++ xs) none ∙ append-nil behind ∙ sym (take-append-drop (length body) behind) ∙ ap (λ xs. xs ++ drop (length body) behind) (sym front))

  pub has_part : (rows : List Row) → HasRows part.header body rows → IsBodyOf disk part body → HasPart disk part rows
  has_part rows has is = record {
    fit = all_map (FitsRow part.header.mark) (FitsRow mark.Two) (two_row part.header.mark) rows has.fit;
    costs = omega (arith, has.area, has.nodes);
    told = by disk.told is;
  }
    where
      by : (told : Option Told) → IfSome told (λ t. body ≡ slice_range (region_of t.bytes part.region) (body_start part.header.mark) (body_start part.header.mark + length body))
          → IfSome told (λ t. HasHeader disk.region_len t.bytes part.region part.header → IsSealed disk.region_len t.bytes part.region part.header.range rows)
      by None same = tt
      by (Some t) same = λ header.
          let s = stands t.bytes same in record {
            header = part.header;
            has_header = header;
            of_range = refl;
            of_rows = (has.count, has.nodes, has.area);
            rows_fit = has.fit;
            ordered = has.ordered;
            spelled = (s.0, s.1 ∙ ap (λ xs. xs ++ s.0) has.spelled);
          }

  pub lacks_part : length body ≡ body_len part.header → IsBadBody part.header body → IsBodyOf disk part body → LacksPart disk part
  lacks_part long bad is = by disk.told is
    where
      by : (told : Option Told) → IfSome told (λ t. body ≡ slice_range (region_of t.bytes part.region) (body_start part.header.mark) (body_start part.header.mark + length body))
          → IfSome told (λ t. HasHeader disk.region_len t.bytes part.region part.header → (rows : List Row) → IsSealed disk.region_len t.bytes part.region part.header.range rows → ⊥)
      by None same = tt
      by (Some t) same = λ header rows sealed.
          let s = stands t.bytes same in
          let is_part : sealed.header ≡ part.header = same_header sealed.header part.header (sym sealed.has_header ∙ header) in
          let nodes : part.header.nodes ≡ length (nodes_in rows) = ap (λ (h : Header). h.nodes) (sym is_part) ∙ sealed.of_rows.1 in
          let count : part.header.rows ≡ length rows = ap (λ (h : Header). h.rows) (sym is_part) ∙ sealed.of_rows.0 in
          let item = bad (λ none. count ∙ named_some rows (sym nodes ∙ none)) in
          let place : Place = place_of disk.region_len part.region part.header item.0 in
          sealed_not_bad disk.region_len t.bytes part.region place.region place.at part.header.range rows sealed (inr (record {
            header = part.header;
            has_header = header;
            at = item.0;
            is_bad = subst (λ bytes. IsBadItem part.header bytes item.0) (sym s.1) (bad_longer part.header body s.0 long item.0 item.1);
            stands = refl;
          }))

  -- the rows of a body stand at its front
  pub adds_rows : (start : ℕ) (bytes : List ℕ) (old new : List RowAt) (rest : List ℕ) → drop start bytes ≡ body ++ rest → IsBodyOf disk part body → AddsBody part.header body start old new → AddsRows disk part start bytes old new
  adds_rows start bytes old new rest at is adds = record {
    rows = adds.rows;
    spelled = ap (take part.header.area) (at ∙ ap (λ xs. xs ++ rest) adds.has.spelled ∙ append_assoc (rows_bytes adds.rows) (index_bytes adds.rows) rest)
        ∙ take_at (rows_bytes adds.rows) (index_bytes adds.rows ++ rest) part.header.area (rows_long adds.rows ∙ sym adds.has.area);
    keys = adds.keys;
    has = has_part adds.rows adds.has is;
  }

-- ---- all parts

-- what stands behind the last part
abbrev pub no_part : Part
no_part = record { region = 0; header = record { mark = mark.One; range = record { first = 0; last = 0 }; rows = 0; nodes = 0; area = 0; regions = 0; more = [] } }

-- what holds of all parts holds of the one at a place
pub all_at : (P : Part → Type 0) (parts : List Part) (i : ℕ) (d : Part) → AllByRecursion P parts → i < length parts → P (slice_index_or parts i d)
all_at P [] i d all here = absurd (omega (arith, here))
all_at P (part ∷ parts) zero d all here = all.0
all_at P (part ∷ parts) (suc i) d all here = all_at P parts i d all.1 (omega (arith, here))

-- the bodies of one part more
pub bodies_more : (parts : List Part) (i : ℕ) → i < length parts → bodies_len (take i parts) + body_len (slice_index_or parts i no_part).header ≡ bodies_len (take (i + 1) parts)
bodies_more parts i here = omega (arith, ap bodies_len (take_more parts i no_part here), sum_by_push (λ (p : Part). body_len p.header) (take i parts) (slice_index_or parts i no_part))

-- what holds of the part at a place holds of some part
pub any_at : (P : Part → Type 0) (parts : List Part) (i : ℕ) (d : Part) → i < length parts → P (slice_index_or parts i d) → Any P parts
any_at P parts i d here p = (i, slice_index_or parts i d, here, grind (arith, common_steps), p)

pub read_none : (disk : Disk) (bytes : List ℕ) (keys : List RowAt) → bytes ≡ [] → keys ≡ [] → AreRead disk [] bytes keys
unfolding rows_bytes AreRowsOf
read_none disk bytes keys none no_keys = record { rows = []; are = record { spelled = none; fit = tt }; keyed = no_keys; costs = omega (arith, cost_none); told = by disk.told }
  where
    by : (told : Option Told) → IfSome told (λ t. AllByRecursion (λ (p : Part). HasHeader disk.region_len t.bytes p.region p.header) [] → AreRowsOf disk.region_len t.bytes [] [])
    by None = tt
    by (Some t) = λ all. refl

all_front : {A : Type 0} (P : A → Type 0) (xs : List A) (x : A) → AllByRecursion P (xs ++ x ∷ []) → AllByRecursion P xs × P x
all_front P [] x all = (tt, all.0)
all_front P (y ∷ ys) x all = let rest = all_front P ys x all.1 in ((all.0, rest.0), rest.1)

-- behind the rows of parts those of one part more were read
module _ (disk : Disk) (parts more : List Part) (part : Part) (e : more ≡ parts ++ part ∷ []) where
  pub read_more : (old new : List ℕ) (start : ℕ) (keys keys' : List RowAt) → start ≤ length old → take start new ≡ take start old → AreRead disk parts (take start old) keys → AddsRows disk part start new keys keys'
      → AreRead disk more (take (start + part.header.area) new) keys'
  read_more old new start keys keys' within same read adds =
      let place : start ≡ 0 + rows_len read.rows = omega (arith, within, length-take start old, ap length read.are.spelled, rows_long read.rows) in
      record {
        rows = read.rows ++ adds.rows;
        are = record {
          spelled = take-add start part.header.area new ∙ (λ i. (same ∙ read.are.spelled) i ++ adds.spelled i) ∙ sym (rows_bytes-append read.rows adds.rows);
          fit = all_append (FitsRow mark.Two) read.rows adds.rows read.are.fit adds.has.fit;
        };
        keyed = adds.keys ∙ (λ i. read.keyed i ++ keys_from (place i) adds.rows) ∙ sym (keys_both 0 read.rows adds.rows);
        costs = omega (arith, cost_together read.rows adds.rows, read.costs, adds.has.costs, ap (sum_by (λ (p : Part). body_len p.header)) e, sum_by_push (λ (p : Part). body_len p.header) parts part);
        told = by disk.told read.told adds.has.told;
      }
    where
      by : (told : Option Told) → IfSome told (λ t. AllByRecursion (λ p. HasHeader disk.region_len t.bytes p.region p.header) parts → AreRowsOf disk.region_len t.bytes parts read.rows)
          → IfSome told (λ t. HasHeader disk.region_len t.bytes part.region part.header → IsSealed disk.region_len t.bytes part.region part.header.range adds.rows)
          → IfSome told (λ t. AllByRecursion (λ p. HasHeader disk.region_len t.bytes p.region p.header) more → AreRowsOf disk.region_len t.bytes more (read.rows ++ adds.rows))
      by None all own = tt
      by (Some t) all own = λ headers.
          let both = all_front (λ p. HasHeader disk.region_len t.bytes p.region p.header) parts part (subst (λ ps. AllByRecursion (λ p. HasHeader disk.region_len t.bytes p.region p.header) ps) e headers) in
          subst (λ ps. AreRowsOf disk.region_len t.bytes ps (read.rows ++ adds.rows)) (sym e) (rows_more disk.region_len t.bytes parts part read.rows adds.rows (all both.0) (own both.1))

pub bodies_small : (region_len : ℕ) (parts : List Part) (len : ℕ) → FitTogether region_len parts len → len ≤ 67108864
bodies_small region_len [] len fit = omega (arith, fit.sum)
bodies_small region_len (part ∷ parts) len fit = omega (arith, fit.fit, fit.alone.0.lies.small)
