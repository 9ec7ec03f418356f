-- In a part in the grammar each node's rows are found.
use Rattle.std.proofs.Common.{◌≡◌, ◌⊎◌, inl, inr, ℕ, zero, suc, ◌-◌, ◌<◌, ◌≤◌, Bool, true, false, cond, ◌||◌, List, [], ◌∷◌, map, length, get_or, Ok, refl, sym, ap, subst, ◌∙◌, true≢false, arith}
use Rattle.std.specs.List.{list_any}
use Rattle.std.proofs.lemmas.Bool.{cases_lt}
use Rattle.log_disk.specs.Disk.{Eye}
use Rattle.fine_model.specs.declared.NodeId.{NodeId}
use Rattle.fine_model.specs.declared.Part.{Part}
use Rattle.fine_model.specs.declared.Row.{Row}
use Rattle.fine_model.specs.Damages.{FindsRows, HasEntryWith, LacksEntry}
use Rattle.fine_model.specs.Merge.{is_node_below, nodes_in}
use Rattle.fine_model.specs.Nodes.{is_node, rows_of}
use Rattle.fine_model.specs.Regions.{body_in}
use Rattle.fine_model.specs.Seek.{entry_at, is_entry}
use Rattle.fine_model.proofs.Merging.NodeOrder.{below-other, below-trans}
use Rattle.fine_model.proofs.Merging.NodesAscend.{AllAbove, Ascend, nodes_ascend}
use Rattle.fine_model.proofs.Merging.NodesIn.{node_cases, same_node, times, times-nodes_in}
use Rattle.fine_model.proofs.Chain.Unique.{IsSealed-unique}
use Rattle.partition_index.specs.Entries.{row_span_of}
use Rattle.partition_index.specs.Parts.{IsSeen}
use Rattle.partition_index.specs.Search.{TellsRows, span_for}
use Rattle.partition_index.proofs.Exact.{holds_rows}
use Rattle.partition_index.proofs.InGrammar.{HoldsRows, entry_is, entry_stands, span_is}
use Rattle.partition_index.proofs.InSpan.{own_in_span}
use Rattle.partition_index.proofs.Halving.{AreAround, around_sought}
use Rattle.partition_index.proofs.Sorted.{Stands, ascend_at}

-- a node that is not among others, and the place where it would stand
record IsPlaced (id : NodeId) (ids : List NodeId) : Type 0 where
  number : ℕ
  within : number ≤ length ids
  before : (number ≡ 0) ⊎ (is_node_below (get_or ids (number - 1) id) id ≡ true)
  behind : (number ≡ length ids) ⊎ (is_node_below id (get_or ids number id) ≡ true)
  none : times id ids ≡ []

none_above : (id : NodeId) (ids : List NodeId) → AllAbove id ids → times id ids ≡ []
none_above id [] above = refl
none_above id (i ∷ ids) above = ap (λ t. cond t (i ∷ times id ids) (times id ids)) (below-other id i above.0).0 ∙ none_above id ids above.1

all_above : (id low : NodeId) (ids : List NodeId) → is_node_below id low ≡ true → AllAbove low ids → AllAbove id ids
all_above id low [] below above = tt
all_above id low (i ∷ ids) below above = (below-trans id low i below above.0, all_above id low ids below above.1)

module _ (id : NodeId) where
  -- what stands before a place that is one higher
  before_more : (i : NodeId) (ids : List NodeId) (n : ℕ) → is_node_below i id ≡ true → (n ≡ 0) ⊎ (is_node_below (get_or ids (n - 1) id) id ≡ true) → is_node_below (get_or (i ∷ ids) n id) id ≡ true
  before_more i ids zero low before = low
  before_more i ids (suc n) low (inl none) = absurd (omega (arith, none))
  before_more i ids (suc n) low (inr below) = let same : suc n - 1 ≡ n = omega arith in subst (λ k. is_node_below (get_or ids k id) id ≡ true) same below

  behind_more : (i : NodeId) (ids : List NodeId) (n : ℕ) → (n ≡ length ids) ⊎ (is_node_below id (get_or ids n id) ≡ true) → (suc n ≡ length (i ∷ ids)) ⊎ (is_node_below id (get_or (i ∷ ids) (suc n) id) ≡ true)
  behind_more i ids n (inl end) = inl (ap suc end)
  behind_more i ids n (inr above) = inr above

  place : (ids : List NodeId) → Ascend ids → Stands id ids ⊎ IsPlaced id ids
  place [] up = inr (record { number = 0; within = omega arith; before = inl refl; behind = inl refl; none = refl })
  place (i ∷ ids) up = by (place ids up.1) (is_node id i) refl
    where
      further : is_node id i ≡ false → is_node_below i id ≡ true → Stands id ids ⊎ IsPlaced id ids → Stands id (i ∷ ids) ⊎ IsPlaced id (i ∷ ids)
      further other low (inl s) = inl (record { at = suc s.at; there = omega (arith, s.there); is = s.is })
      further other low (inr p) = inr (record {
        number = suc p.number;
        within = omega (arith, p.within);
        before = inr (let same : suc p.number - 1 ≡ p.number = omega arith in subst (λ k. is_node_below (get_or (i ∷ ids) k id) id ≡ true) (sym same) (before_more i ids p.number low p.before));
        behind = behind_more i ids p.number p.behind;
        none = ap (λ t. cond t (i ∷ times id ids) (times id ids)) other ∙ p.none;
      })

      by_order : Stands id ids ⊎ IsPlaced id ids → is_node id i ≡ false → ((is_node_below id i ≡ true) × (is_node_below i id ≡ false)) ⊎ ((is_node_below i id ≡ true) × (is_node_below id i ≡ false)) → Stands id (i ∷ ids) ⊎ IsPlaced id (i ∷ ids)
      by_order rest other (inl above) = inr (record {
        number = 0;
        within = omega arith;
        before = inl refl;
        behind = inr above.0;
        none = none_above id (i ∷ ids) (above.0, all_above id i ids above.0 up.0);
      })
      by_order rest other (inr below) = further other below.0 rest

      by : Stands id ids ⊎ IsPlaced id ids → (t : Bool) → is_node id i ≡ t → Stands id (i ∷ ids) ⊎ IsPlaced id (i ∷ ids)
      by rest true same = inl (record { at = 0; there = omega arith; is = λ d. sym (same_node id i same) })
      by rest false other = by_order rest other (node_cases id i other)

  -- a node that no row names
  no_rows : (rows : List Row) → list_any (is_node id) (map (λ r. r.node) rows) ≡ false → rows_of id rows ≡ []
  no_rows [] none = refl
  no_rows (row ∷ rows) none = by (no_rows rows) (is_node id row.node) refl none
    where
      by : (list_any (is_node id) (map (λ r. r.node) rows) ≡ false → rows_of id rows ≡ []) → (t : Bool) → is_node id row.node ≡ t → (t || list_any (is_node id) (map (λ r. r.node) rows)) ≡ false → cond t (row ∷ rows_of id rows) (rows_of id rows) ≡ []
      by rest true e none = absurd (true≢false none)
      by rest false e none = rest none

  not_named : (rows : List Row) → times id (nodes_in rows) ≡ [] → rows_of id rows ≡ []
  not_named rows none = by (list_any (is_node id) (map (λ r. r.node) rows)) refl (sym (times-nodes_in id rows) ∙ none)
    where
      by : (t : Bool) → list_any (is_node id) (map (λ r. r.node) rows) ≡ t → cond t (id ∷ []) [] ≡ [] → rows_of id rows ≡ []
      by true e none = absurd (let clash : ◌≡◌ {A = List NodeId} (id ∷ []) [] = none in cc)
      by false e none = no_rows rows e

module _ (eye : Eye) (p : Part) (rows : List Row) (id : NodeId) (seen : IsSeen eye p) (t : TellsRows eye p rows) where
  abbrev body : List ℕ
  body = body_in t.image p.region p.header

  held : HoldsRows p.header body rows
  held = holds_rows eye p rows seen t

  entry_good : (i : ℕ) → i < length (nodes_in rows) → is_entry p.header (entry_at p.header body i) ≡ true
  entry_good i low = let there : i < p.header.nodes = omega (arith, low, held.nodes) in ap (is_entry p.header) (entry_is p.header body rows held i id there) ∙ entry_stands p.header body rows held i id there

  entry_node : (i : ℕ) → i < length (nodes_in rows) → (entry_at p.header body i).node ≡ get_or (nodes_in rows) i id
  entry_node i low = let there : i < p.header.nodes = omega (arith, low, held.nodes) in ap (λ e. e.node) (entry_is p.header body rows held i id there)

  -- the entries below and above the node's own, or its place
  below_at : (i j : ℕ) → i < j → j < length (nodes_in rows) → is_node_below (get_or (nodes_in rows) i id) (get_or (nodes_in rows) j id) ≡ true
  below_at i j low there = ascend_at (nodes_in rows) i j id (nodes_ascend rows) low there

  around_own : (s : Stands id (nodes_in rows)) → AreAround p.header body id s.at 1
  around_own s = record {
    good = λ i here. entry_good i (omega (arith, here, held.nodes));
    below = λ i low here.
        (let there : i < length (nodes_in rows) = omega (arith, here, held.nodes) in
        ap (λ n. is_node_below n id) (entry_node i there) ∙ subst (λ n. is_node_below (get_or (nodes_in rows) i id) n ≡ true) (s.is id) (below_at i s.at low s.there));
    at = λ i low high. let same : i ≡ s.at = omega (arith, low, high) in ap (λ k. (entry_at p.header body k).node) same ∙ entry_node s.at s.there ∙ s.is id;
    above = λ i low here.
        (let there : i < length (nodes_in rows) = omega (arith, here, held.nodes) in
        ap (is_node_below id) (entry_node i there) ∙ subst (λ n. is_node_below n (get_or (nodes_in rows) i id) ≡ true) (s.is id) (below_at s.at i (omega (arith, low)) there));
  }

  around_none : (s : IsPlaced id (nodes_in rows)) → AreAround p.header body id s.number 0
  around_none s = record {
    good = λ i here. entry_good i (omega (arith, here, held.nodes));
    below = λ i low here. let there : i < length (nodes_in rows) = omega (arith, here, held.nodes) in ap (λ n. is_node_below n id) (entry_node i there) ∙ by_before i low s.before (cases_lt i (s.number - 1));
    at = λ i low high. absurd (omega (arith, low, high));
    above = λ i low here. let there : i < length (nodes_in rows) = omega (arith, here, held.nodes) in ap (is_node_below id) (entry_node i there) ∙ by_behind i (omega (arith, low)) there s.behind (cases_lt s.number i);
  }
    where
      by_before : (i : ℕ) → i < s.number → (s.number ≡ 0) ⊎ (is_node_below (get_or (nodes_in rows) (s.number - 1) id) id ≡ true) → (i < s.number - 1) ⊎ (s.number - 1 ≤ i) → is_node_below (get_or (nodes_in rows) i id) id ≡ true
      by_before i low (inl none) rest = absurd (omega (arith, low, none))
      by_before i low (inr below) (inl lower) =
          below-trans (get_or (nodes_in rows) i id) (get_or (nodes_in rows) (s.number - 1) id) id (below_at i (s.number - 1) lower (omega (arith, lower, s.within))) below
      by_before i low (inr below) (inr last) = let same : s.number - 1 ≡ i = omega (arith, low, last) in subst (λ k. is_node_below (get_or (nodes_in rows) k id) id ≡ true) same below

      by_behind : (i : ℕ) → s.number ≤ i → i < length (nodes_in rows) → (s.number ≡ length (nodes_in rows)) ⊎ (is_node_below id (get_or (nodes_in rows) s.number id) ≡ true) → (s.number < i) ⊎ (i ≤ s.number)
          → is_node_below id (get_or (nodes_in rows) i id) ≡ true
      by_behind i low there (inl end) rest = absurd (omega (arith, low, there, end))
      by_behind i low there (inr above) (inl higher) = below-trans id (get_or (nodes_in rows) s.number id) (get_or (nodes_in rows) i id) above (below_at s.number i higher there)
      by_behind i low there (inr above) (inr first) = let same : s.number ≡ i = omega (arith, low, first) in subst (λ k. is_node_below id (get_or (nodes_in rows) k id) ≡ true) same above

  lacks : IsPlaced id (nodes_in rows) → LacksEntry p.header body id
  lacks s = record { number = s.number; within = omega (arith, s.within, held.nodes); before = by_before (cases_lt 0 s.number) s.before; behind = by_behind (cases_lt s.number (length (nodes_in rows))) s.behind; sought = around_sought p.header body id s.number 0 (around_none s) (omega arith) (omega (arith, s.within, held.nodes)) }
    where
      by_before : (0 < s.number) ⊎ (s.number ≤ 0) → (s.number ≡ 0) ⊎ (is_node_below (get_or (nodes_in rows) (s.number - 1) id) id ≡ true)
          → (s.number ≡ 0) ⊎ ((is_entry p.header (entry_at p.header body (s.number - 1)) ≡ true) × (is_node_below (entry_at p.header body (s.number - 1)).node id ≡ true))
      by_before (inr none) h = inl (omega (arith, none))
      by_before (inl some) (inl none) = inl none
      by_before (inl some) (inr below) =
          let low : s.number - 1 < length (nodes_in rows) = omega (arith, some, s.within) in
          inr (entry_good (s.number - 1) low, ap (λ n. is_node_below n id) (entry_node (s.number - 1) low) ∙ below)

      by_behind : (s.number < length (nodes_in rows)) ⊎ (length (nodes_in rows) ≤ s.number) → (s.number ≡ length (nodes_in rows)) ⊎ (is_node_below id (get_or (nodes_in rows) s.number id) ≡ true)
          → (s.number ≡ p.header.nodes) ⊎ ((is_entry p.header (entry_at p.header body s.number) ≡ true) × (is_node_below id (entry_at p.header body s.number).node ≡ true))
      by_behind (inr end) h = inl (omega (arith, end, s.within, held.nodes))
      by_behind (inl more) (inl end) = inl (omega (arith, end, held.nodes))
      by_behind (inl more) (inr above) = inr (entry_good s.number more, ap (is_node_below id) (entry_node s.number more) ∙ above)

  has_entry : Stands id (nodes_in rows) → HasEntryWith p.header body id (rows_of id rows)
  has_entry s = let there : s.at < p.header.nodes = omega (arith, s.there, held.nodes) in record {
    entry = s.at;
    there = there;
    names = entry_node s.at s.there ∙ s.is id;
    span = row_span_of (span_for rows id);
    is_span = span_is p.header body rows held s.at id there ∙ ap (λ n. Ok (row_span_of (span_for rows n))) (s.is id);
    holds = own_in_span eye p rows id seen t;
    sought = around_sought p.header body id s.at 1 (around_own s) (omega arith) (omega (arith, there));
  }

  pub good_finds : FindsRows eye.region_len t.image id p (rows_of id rows)
  good_finds = record {
    found = by (place id (nodes_in rows) (nodes_ascend rows));
    exact = λ own has sealed. let same = IsSealed-unique eye.region_len t.image p.region p.header.range p.header.range rows own t.sealed sealed in ap (rows_of id) same.same_rows;
  }
    where
      by : Stands id (nodes_in rows) ⊎ IsPlaced id (nodes_in rows) → ((rows_of id rows ≡ []) × LacksEntry p.header body id) ⊎ HasEntryWith p.header body id (rows_of id rows)
      by (inl s) = inr (has_entry s)
      by (inr s) = inl (not_named id rows s.none, lacks s)
