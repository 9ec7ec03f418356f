-- What fetches find and blame, in the words of the model.
use Rattle.std.proofs.Common.{◌≡◌, ◌⊎◌, inl, inr, ℕ, zero, suc, ◌-◌, ◌<◌, true, true≢false, List, [], ◌∷◌, ◌++◌, map, length, get_or, Option, Some, Ok, Err, sym, ap, ◌∙◌, subst, arith}
use Rattle.std.specs.Prelude.{flat_map, Result, IsTrue, slice_index_or}
use Rattle.std.specs.List.{AllByRecursion}
use Rattle.log_disk.specs.Disk.{Eye}
use Rattle.fine_model.specs.declared.Damage.TheVariants as damage
use Rattle.fine_model.specs.declared.Header.{Header}
use Rattle.fine_model.specs.declared.Node.TheVariants as node
use Rattle.fine_model.specs.declared.NodeId.{NodeId}
use Rattle.fine_model.specs.declared.Part.{Part}
use Rattle.fine_model.specs.declared.Row.{Row}
use Rattle.fine_model.specs.Chain.{AreRowsOf}
use Rattle.fine_model.specs.Damages.{IsBadPlace, LacksEntry, HasEntryWith, FindsRows, has_image_first, FindsContent}
use Rattle.fine_model.specs.Merge.{is_node_below, nodes_in}
use Rattle.fine_model.specs.Nodes.{Content, base, replay, rows_of, content}
use Rattle.fine_model.specs.Regions.{Image, Place, body_in, HasHeader, IsSealed}
use Rattle.fine_model.specs.Seek.{RowSpan, entry_at, is_entry, SpanHolds, IsBadInSpan}
use Rattle.fine_model.specs.Trees.{nodes_of}
use Rattle.fine_model.proofs.Trees.FoundUnfit.{found_unfit, soundly_fit}
use Rattle.fine_model.proofs.Trees.NodeLaws.{replay-append, rows_of-append}
use Rattle.fine_model.proofs.Chain.Grammar.{sealed_not_bad}
use Rattle.fine_model.proofs.Chain.Replaced.{rows_split}
use Rattle.fine_model.proofs.Ordered.Order.{all_map}
use Rattle.fine_model.proofs.Ordered.Zip.{all_right}
use Rattle.partition_index.specs.declared.entries.IndexEntry.{IndexEntry}
use Rattle.partition_index.specs.declared.entries.Span.{Span}
use Rattle.partition_index.specs.Entries.{row_span_of}
use Rattle.partition_index.specs.Parts.{IsSeen}
use Rattle.partition_index.specs.Search.{IsEntryAt, IsSoughtSpan, LacksNode, span_for}
use Rattle.partition_index.proofs.Exact.{holds_rows}
use Rattle.partition_index.proofs.InGrammar.{entry_is, span_is}
use Rattle.partition_index.proofs.InSpan.{own_in_span}
use Rattle.node_fetch.specs.Fetched.{HoldsRows, ReadsRows}
use Rattle.node_fetch.specs.Blames.{FoundLaw, RowLaw, EntryLaw, GoodLaw, ExactLaw, SoundLaw}
use Rattle.node_fetch.proofs.SpanLaws.{never_bad}
use Rattle.node_fetch.proofs.Parts.{forgets}

-- ---- from what was read to what a reader finds

pub same_header : (region_len : ℕ) (image : Image) (p : Part) (own : List Row) (sealed : IsSealed region_len image p.region p.header.range own) → HasHeader region_len image p.region p.header → sealed.header ≡ p.header
same_header region_len image p own sealed has = let both : ◌≡◌ {A = Result (Option Header) ℕ} (Ok (Some sealed.header)) (Ok (Some p.header)) = sym sealed.has_header ∙ has in cc

module _ (image : Image) (p : Part) (id : NodeId) where
  abbrev body : List ℕ
  body = body_in image p.region p.header

  lacks : LacksNode (Some image) p id → LacksEntry p.header body id
  lacks l = record { number = l.number; within = l.within; before = before l.before; behind = behind l.behind; sought = l.sought }
    where
      before : (l.number ≡ 0) ⊎ ((entry : IndexEntry) × IsEntryAt (Some image) p (l.number - 1) entry × (is_node_below entry.node id ≡ true))
          → (l.number ≡ 0) ⊎ ((is_entry p.header (entry_at p.header body (l.number - 1)) ≡ true) × (is_node_below (entry_at p.header body (l.number - 1)).node id ≡ true))
      before (inl none) = inl none
      before (inr (entry, at, low)) = inr (subst (λ m. is_entry p.header m ≡ true) (sym at.told) at.sound, subst (λ m. is_node_below m.node id ≡ true) (sym at.told) low)

      behind : (l.number ≡ p.header.nodes) ⊎ ((entry : IndexEntry) × IsEntryAt (Some image) p l.number entry × (is_node_below id entry.node ≡ true))
          → (l.number ≡ p.header.nodes) ⊎ ((is_entry p.header (entry_at p.header body l.number) ≡ true) × (is_node_below id (entry_at p.header body l.number).node ≡ true))
      behind (inl none) = inl none
      behind (inr (entry, at, high)) = inr (subst (λ m. is_entry p.header m ≡ true) (sym at.told) at.sound, subst (λ m. is_node_below id m.node ≡ true) (sym at.told) high)

  has_entry : (span : Span) (rows : List Row) → IsSoughtSpan (Some image) p id span → HoldsRows (Some image) p id span rows → HasEntryWith p.header body id rows
  has_entry span rows is h = record {
    entry = is.is_span.entry;
    there = is.is_span.there;
    names = is.is_span.names;
    span = row_span_of span;
    is_span = is.is_span.is_span.told;
    holds = subst (λ b. SpanHolds p.header b (row_span_of span) id rows) h.is_body h.holds;
    sought = is.sought;
  }

  finds : (eye : Eye) (rows : List Row) → eye.told ≡ Some image → ReadsRows eye id p rows → FindsRows eye.region_len image id p rows
  finds eye rows told r = record {
    found = by r.read;
    exact = λ own has sealed. r.exact own (record { image = image; told = told; sealed = sealed; of_part = same_header eye.region_len image p own sealed has });
  }
    where
      by : ((rows ≡ []) × LacksNode eye.told p id) ⊎ ((span : Span) × IsSoughtSpan eye.told p id span × HoldsRows eye.told p id span rows) → ((rows ≡ []) × LacksEntry p.header body id) ⊎ HasEntryWith p.header body id rows
      by (inl (none, l)) = inl (none, lacks (subst (λ k. LacksNode k p id) told l))
      by (inr (span, is, h)) = inr (has_entry span rows (subst (λ k. IsSoughtSpan k p id span) told is) (subst (λ k. HoldsRows k p id span rows) told h))

pub found_law : FoundLaw
found_law eye image parts id found told r = record {
  skipped = r.skipped;
  read = r.read;
  whole = r.whole;
  each = all_map (λ x. ReadsRows eye id x.0 x.1) (λ x. FindsRows eye.region_len image id x.0 x.1) (λ x h. finds image x.0 id eye x.1 told h) r.read r.each;
  why = r.why;
  replayed = r.replayed;
}

-- ---- what is blamed

pub row_law : RowLaw
row_law image region_len p id place h =
    let b = subst (λ b. IsBadInSpan p.header b (row_span_of h.span) id h.is_bad.at) h.is_bad.is_body h.is_bad.is_bad in
    inr (inr (record {
      entry = h.is_span.entry;
      there = h.is_span.there;
      span = row_span_of h.span;
      is_span = h.is_span.is_span.told;
      at = h.is_bad.at;
      is_bad = subst (λ n. IsBadInSpan p.header (body_in image p.region p.header) (row_span_of h.span) n h.is_bad.at) (sym h.is_span.names) b;
      stands = h.is_bad.stands;
    }))

pub entry_law : EntryLaw
entry_law image region_len p place h = let w = h.is_bad.told in inr (inl (record { entry = w.0; there = w.1; at = h.at; is_bad = w.2; stands = h.stands }))

-- ---- in the grammar

pub good_law : GoodLaw
good_law eye p rows place seen t (inl holds) = sealed_not_bad eye.region_len t.image p.region place.region place.at p.header.range rows t.sealed (inr holds)
good_law eye p rows place seen t (inr (inl b)) =
    let d : NodeId = record { bucket = 0; number = 0 } in
    let good = span_is p.header (body_in t.image p.region p.header) rows (holds_rows eye p rows seen t) b.entry d b.there in
    let clash : ◌≡◌ {A = Result RowSpan ℕ} (Err b.at) (Ok (row_span_of (span_for rows (get_or (nodes_in rows) b.entry d)))) = sym b.is_bad ∙ good in cc
good_law eye p rows place seen t (inr (inr b)) =
    let d : NodeId = record { bucket = 0; number = 0 } in
    let id = get_or (nodes_in rows) b.entry d in
    let holds = holds_rows eye p rows seen t in
    let good = span_is p.header (body_in t.image p.region p.header) rows holds b.entry d b.there in
    let same : ◌≡◌ {A = Result RowSpan ℕ} (Ok b.span) (Ok (row_span_of (span_for rows id))) = sym b.is_span ∙ good in
    let span : b.span ≡ row_span_of (span_for rows id) = cc in
    let named : (entry_at p.header (body_in t.image p.region p.header) b.entry).node ≡ id = ap (λ e. e.node) (entry_is p.header (body_in t.image p.region p.header) rows holds b.entry d b.there) in
    never_bad p.header (body_in t.image p.region p.header) (row_span_of (span_for rows id)) id (rows_of id rows) (own_in_span eye p rows id seen t) b.at
    (subst (λ n. IsBadInSpan p.header (body_in t.image p.region p.header) (row_span_of (span_for rows id)) n b.at) named
    (subst (λ s. IsBadInSpan p.header (body_in t.image p.region p.header) s (entry_at p.header (body_in t.image p.region p.header) b.entry).node b.at) span b.is_bad))

module _ (region_len : ℕ) (image : Image) where
  abbrev HasIts : Part → Type 0
  HasIts p = HasHeader region_len image p.region p.header

  -- what is found in parts in the grammar are the node's rows there
  found_rows : (id : NodeId) (read : List (Part × List Row)) (rows : List Row) → AreRowsOf region_len image (map (λ r. r.0) read) rows → AllByRecursion HasIts (map (λ r. r.0) read)
      → AllByRecursion (λ r. FindsRows region_len image id r.0 r.1) read → flat_map (λ r. r.1) read ≡ rows_of id rows
  unfolding AreRowsOf
  found_rows id [] rows are has each = ap (rows_of id) (sym are)
  found_rows id (r ∷ read) rows (own, more, is, sealed, rest) has each =
      ap (λ xs. xs ++ flat_map (λ x. x.1) read) (let f = each.0 in f.exact own has.0 sealed) ∙ ap (λ xs. rows_of id own ++ xs) (found_rows id read more rest has.1 each.1)
      ∙ sym (rows_of-append id own more) ∙ ap (rows_of id) (sym is)

  no_rows : (parts : List Part) (rows : List Row) → parts ≡ [] → AreRowsOf region_len image parts rows → rows ≡ []
  unfolding AreRowsOf
  no_rows parts rows none are = of (subst (λ ps. AreRowsOf region_len image ps rows) none are)
    where
      of : AreRowsOf region_len image [] rows → rows ≡ []
      of is = is

  found_content : (parts : List Part) (rows : List Row) (id : NodeId) (found : Content) → AllByRecursion HasIts parts → AreRowsOf region_len image parts rows → FindsContent region_len image parts id found → found ≡ content rows id
  unfolding content AreRowsOf replay
  found_content parts rows id found has are f =
      let both = rows_split region_len image f.skipped (map (λ r. r.0) f.read) rows (subst (λ ps. AreRowsOf region_len image ps rows) f.whole are) in
      let own = found_rows id f.read both.second both.of_back (all_right HasIts f.skipped (map (λ r. r.0) f.read) (subst (AllByRecursion HasIts) f.whole has)) f.each in
      f.replayed ∙ from both.first both.second both.of_front own f.why ∙ sym (replay-append (base id) (rows_of id both.first) (rows_of id both.second))
      ∙ ap (replay (base id)) (sym (rows_of-append id both.first both.second) ∙ ap (rows_of id) (sym both.joined))
    where
      by_image : (read : List (Part × List Row)) (c : Content) → IsTrue (has_image_first read) → replay (base id) (flat_map (λ r. r.1) read) ≡ replay c (flat_map (λ r. r.1) read)
      by_image [] c none = absurd (true≢false (sym none))
      by_image (r ∷ read) c first =
          replay-append (base id) r.1 (flat_map (λ x. x.1) read) ∙ ap (λ x. replay x (flat_map (λ y. y.1) read)) (forgets (base id) c r.1 first) ∙ sym (replay-append c r.1 (flat_map (λ x. x.1) read))

      from : (first second : List Row) → AreRowsOf region_len image f.skipped first → flat_map (λ r. r.1) f.read ≡ rows_of id second → (f.skipped ≡ []) ⊎ IsTrue (has_image_first f.read)
          → replay (base id) (flat_map (λ r. r.1) f.read) ≡ replay (replay (base id) (rows_of id first)) (rows_of id second)
      from first second of_front own (inl none) = ap (replay (base id)) own ∙ ap (λ xs. replay (replay (base id) (rows_of id xs)) (rows_of id second)) (sym (no_rows f.skipped first none of_front))
      from first second of_front own (inr image) = by_image f.read (replay (base id) (rows_of id first)) image ∙ ap (replay (replay (base id) (rows_of id first))) own

pub exact_law : ExactLaw
exact_law eye parts rows id found t f = found_content eye.region_len t.image parts rows id found t.headers t.are_rows f

-- each of the parts is told
tells_one : (eye : Eye) (image : Image) → eye.told ≡ Some image → (p : Part) (place : Place) (parts : List Part) (rows : List Row) → AllByRecursion (IsSeen eye) parts → AllByRecursion (HasIts eye.region_len image) parts → AreRowsOf eye.region_len image parts rows
    → (k : ℕ) → k < length parts → slice_index_or parts k p ≡ p → IsBadPlace eye.region_len image p place → ⊥
unfolding AreRowsOf
tells_one eye image told p place [] rows seen has are k low is bad = absurd (omega (arith, low))
tells_one eye image told p place (q ∷ parts) rows seen has (own, more, whole, sealed, rest) zero low is bad =
    good_law eye q own place seen.0 (record { image = image; told = told; sealed = sealed; of_part = same_header eye.region_len image q own sealed has.0 }) (subst (λ r. IsBadPlace eye.region_len image r place) (sym is) bad)
tells_one eye image told p place (q ∷ parts) rows seen has (own, more, whole, sealed, rest) (suc k) low is bad = tells_one eye image told p place parts more seen.1 has.1 rest k (omega (arith, low)) is bad

pub sound_law : SoundLaw
sound_law eye parts rows (damage.Region region at) seen t sound (p, (k, low, is), bad) = tells_one eye t.image t.told p (record { region = region; at = at }) parts rows seen t.headers t.are_rows k low is bad
sound_law eye parts rows (damage.Node id) seen t sound u =
    soundly_fit rows id u.in_bucket sound (found_unfit u.nodes (nodes_of rows id.bucket) id (λ number. each number (u.each number)) (exact_law eye parts rows id (u.nodes id.number) t u.itself) u.unfit)
  where
    each : (number : ℕ) → FindsContent eye.region_len t.image parts (record { bucket = id.bucket; number = number }) (u.nodes number) ⊎ (u.nodes number ≡ (node.Broken, 0))
        → (u.nodes number ≡ nodes_of rows id.bucket number) ⊎ (u.nodes number ≡ (node.Broken, 0))
    each number (inl f) = inl (exact_law eye parts rows (record { bucket = id.bucket; number = number }) (u.nodes number) t f)
    each number (inr broken) = inr broken
sound_law eye parts rows (damage.Gap after region) seen t sound none = none
sound_law eye parts rows (damage.Overlap region other) seen t sound none = none
