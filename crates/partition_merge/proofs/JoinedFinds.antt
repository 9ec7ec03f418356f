-- The rows of each node among joined lists that are in order: what a look for it finds in both parts, merged.
use Rattle.std.proofs.Common.{◌≡◌, ◌⊎◌, inl, inr, ℕ, ◌+◌, ◌-◌, ◌<◌, ◌≤◌, true, false, Bool, List, [], ◌∷◌, ◌++◌, length, Some, None, refl, sym, ap, ◌∙◌, subst, arith, true≢false, append-nil}
use Rattle.std.specs.Prelude.{Option}
use Rattle.std.proofs.lemmas.Bool.{cases_lt}
use Rattle.fine_model.specs.declared.NodeId.{NodeId}
use Rattle.fine_model.specs.declared.Part.{Part}
use Rattle.fine_model.specs.declared.Row.{Row}
use Rattle.fine_model.specs.Damages.{HasEntryWith, LacksEntry}
use Rattle.fine_model.specs.Merge.{is_node_below}
use Rattle.fine_model.specs.Nodes.{is_node, rows_of}
use Rattle.fine_model.specs.Regions.{Image}
use Rattle.fine_model.specs.Seek.{entry_at, is_entry}
use Rattle.fine_model.proofs.Trees.NodeLaws.{rows_of-append}
use Rattle.fine_model.proofs.Merging.NodeOrder.{below-trans}
use Rattle.fine_model.proofs.Merging.NodesIn.{is_node-self, is_node_below-self, node_cases, same_node}
use Rattle.fine_model.proofs.Ordered.Order.{all_map, filter_all, filter_none}
use Rattle.partition_index.proofs.Halving.{AreAround, answer, around_sought}
use Rattle.partition_merge.specs.Merging.{follows, last_node, merged_of}
use Rattle.partition_merge.specs.Mergers.{all_of, are_apart, at_front}
use Rattle.partition_merge.specs.Joined.{BodyIsMeasured, IsFoundIn}
use Rattle.partition_merge.proofs.Ascending.{last_own}
use Rattle.partition_merge.proofs.JoinedBody.{both_true, counted}
use Rattle.partition_merge.proofs.Joining.{AreOwn}
use Rattle.partition_merge.proofs.ToldJoins.{Joins, One, Steps, Took, body_of, joins_of, merged_nothing, node_at, one_own}

-- the rows of a node among rows of one
mine : (id : NodeId) (rows : List Row) → AreOwn id rows → rows_of id rows ≡ rows
mine id rows own = filter_all (λ (r : Row). is_node id r.node) rows (all_map (λ (r : Row). r.node ≡ id) (λ (r : Row). is_node id r.node ≡ true) (λ r same. subst (λ n. is_node id n ≡ true) (sym same) (is_node-self id)) rows own)

others : (id other : NodeId) (rows : List Row) → is_node id other ≡ false → AreOwn other rows → rows_of id rows ≡ []
others id other rows differs own = filter_none (λ (r : Row). is_node id r.node) rows (all_map (λ (r : Row). r.node ≡ other) (λ (r : Row). is_node id r.node ≡ false) (λ r same. subst (λ n. is_node id n ≡ false) (sym same) differs) rows own)

module _ (image : Image) where
  -- ---- the entries that are left

  -- one that is behind a node
  abbrev Over : Option NodeId → NodeId → Type 0
  Over None id = Unit {0}
  Over (Some k) id = is_node_below k id ≡ true

  -- all entries from one on may stand there, and are behind a node
  abbrev AllOver : Part → ℕ → Option NodeId → Type 0
  AllOver p i last = (x : ℕ) → i ≤ x → x < p.header.nodes → (is_entry p.header (entry_at p.header (body_of image p) x) ≡ true) × Over last (node_at image p x)

  over_then : (last : Option NodeId) (id other : NodeId) → Over last id → is_node_below id other ≡ true → Over last other
  over_then None id other over below = tt
  over_then (Some k) id other over below = below-trans k id other over below

  over_first : (last : Option NodeId) (id : NodeId) (rows : List Row) → 1 ≤ length rows → AreOwn id rows → follows last rows ≡ true → Over last id
  over_first None id rows some own up = tt
  over_first (Some k) id [] some own up = absurd (omega (arith, some))
  over_first (Some k) id (row ∷ rows) some own up = subst (λ n. is_node_below k n ≡ true) own.0 up

  over_step : (p : Part) (id : NodeId) (i k : ℕ) (rows : List Row) (last : Option NodeId) → Steps image p id i k rows → Over last id → AllOver p k (Some id) → AllOver p i last
  over_step p id i k rows last (inl (passed, stays)) over rest x low there = let h = rest x (omega (arith, low, stays)) there in (h.0, over_then last id (node_at image p x) over h.1)
  over_step p id i k rows last (inr (took, moves)) over rest x low there = by (cases_lt i x)
    where
      by : (i < x) ⊎ (x ≤ i) → (is_entry p.header (entry_at p.header (body_of image p) x) ≡ true) × Over last (node_at image p x)
      by (inl above) = let h = rest x (omega (arith, above, moves)) there in (h.0, over_then last id (node_at image p x) over h.1)
      by (inr at) = let same : i ≡ x = omega (arith, at, low) in (subst (λ n. is_entry p.header (entry_at p.header (body_of image p) n) ≡ true) same took.good, subst (λ n. Over last (node_at image p n)) same (subst (Over last) (sym took.names) over))

  all_over : (p q : Part) (i j : ℕ) (joins : List (List Row)) (last : Option NodeId) → Joins image p q i j joins → are_apart last joins ≡ true → AllOver p i last × AllOver q j last
  all_over p q i j [] last ends apart = (λ x low there. absurd (omega (arith, low, there, ends.0)), λ x low there. absurd (omega (arith, low, there, ends.1)))
  all_over p q i j (rows ∷ later) last (k, l, one, all) apart =
      let parts = both_true (follows last rows) (are_apart (last_node rows) later) apart in
      let own = one_own image p q i j k l rows one in
      let first = over_first last one.node rows one.some own parts.0 in
      let rest = all_over p q k l later (Some one.node) all (subst (λ n. are_apart n later ≡ true) (last_own one.node rows one.some own) parts.1) in
      (over_step p one.node i k one.older last one.of_older first rest.0, over_step q one.node j l one.newer last one.of_newer first rest.1)

  -- ---- a look for a node

  -- From an entry on all may stand there; those below a number name lower nodes, and from it on higher ones, but for the node's own, where there is one,
  -- whose rows these are.
  record Reads (p : Part) (i : ℕ) (id : NodeId) (rows : List Row) : Type 0 where
    number : ℕ
    own : ℕ
    few : own ≤ 1
    low : i ≤ number
    within : number + own ≤ p.header.nodes
    good : (x : ℕ) → i ≤ x → x < p.header.nodes → is_entry p.header (entry_at p.header (body_of image p) x) ≡ true
    below : (x : ℕ) → i ≤ x → x < number → x < p.header.nodes → is_node_below (node_at image p x) id ≡ true
    at : (x : ℕ) → number ≤ x → x < number + own → node_at image p x ≡ id
    above : (x : ℕ) → number + own ≤ x → x < p.header.nodes → is_node_below id (node_at image p x) ≡ true
    found : ((own ≡ 0) × (rows ≡ [])) ⊎ ((own ≡ 1) × Took image p id number rows)

  -- no entry names the node, but higher ones
  none_from : (p : Part) (i : ℕ) (id : NodeId) → i ≤ p.header.nodes → AllOver p i (Some id) → Reads p i id []
  none_from p i id within over = record {
    number = i;
    own = 0;
    few = omega arith;
    low = omega arith;
    within = omega (arith, within);
    good = λ x low there. (over x low there).0;
    below = λ x low high there. absurd (omega (arith, low, high));
    at = λ x low high. absurd (omega (arith, low, high));
    above = λ x low there. (over x (omega (arith, low)) there).1;
    found = inl (refl, refl);
  }

  -- the next entry names the node, or is higher
  here : (p : Part) (i k : ℕ) (id : NodeId) (rows : List Row) → i ≤ p.header.nodes → Steps image p id i k rows → AllOver p k (Some id) → Reads p i id rows
  here p i k id rows within (inl (passed, stays)) over = subst (Reads p i id) (sym passed.none) (none_from p i id within (subst (λ n. AllOver p n (Some id)) stays over))
  here p i k id rows within (inr (took, moves)) over = record {
    number = i;
    own = 1;
    few = omega arith;
    low = omega arith;
    within = (let there = took.there in omega (arith, there));
    good = λ x low there. by x low there (cases_lt i x);
    below = λ x low high there. absurd (omega (arith, low, high));
    at = λ x low high. subst (λ n. node_at image p n ≡ id) (let same : i ≡ x = omega (arith, low, high) in same) took.names;
    above = λ x low there. (over x (omega (arith, low, moves)) there).1;
    found = inr (refl, took);
  }
    where
      by : (x : ℕ) → i ≤ x → x < p.header.nodes → (i < x) ⊎ (x ≤ i) → is_entry p.header (entry_at p.header (body_of image p) x) ≡ true
      by x low there (inl above) = (over x (omega (arith, above, moves)) there).0
      by x low there (inr at) = subst (λ n. is_entry p.header (entry_at p.header (body_of image p) n) ≡ true) (let same : i ≡ x = omega (arith, at, low) in same) took.good

  -- so behind an entry of a lower node
  further : (p : Part) (i k : ℕ) (id other : NodeId) (own rows : List Row) → Steps image p other i k own → is_node_below other id ≡ true → Reads p k id rows → Reads p i id rows
  further p i k id other own rows (inl (passed, stays)) lower r = subst (λ n. Reads p n id rows) stays r
  further p i k id other own rows (inr (took, moves)) lower r = record {
    number = r.number;
    own = r.own;
    few = r.few;
    low = (let low = r.low in omega (arith, low, moves));
    within = r.within;
    good = λ x low there. good x low there (cases_lt i x);
    below = λ x low high there. below x low high there (cases_lt i x);
    at = r.at;
    above = r.above;
    found = r.found;
  }
    where
      good : (x : ℕ) → i ≤ x → x < p.header.nodes → (i < x) ⊎ (x ≤ i) → is_entry p.header (entry_at p.header (body_of image p) x) ≡ true
      good x low there (inl above) = r.good x (omega (arith, above, moves)) there
      good x low there (inr at) = subst (λ n. is_entry p.header (entry_at p.header (body_of image p) n) ≡ true) (let same : i ≡ x = omega (arith, at, low) in same) took.good

      below : (x : ℕ) → i ≤ x → x < r.number → x < p.header.nodes → (i < x) ⊎ (x ≤ i) → is_node_below (node_at image p x) id ≡ true
      below x low high there (inl above) = r.below x (omega (arith, above, moves)) high there
      below x low high there (inr at) = subst (λ n. is_node_below (node_at image p n) id ≡ true) (let same : i ≡ x = omega (arith, at, low) in same) (subst (λ n. is_node_below n id ≡ true) (sym took.names) lower)

  -- none where all entries name higher nodes
  none_read : (p : Part) (i : ℕ) (id : NodeId) (rows : List Row) → AllOver p i (Some id) → Reads p i id rows → rows ≡ []
  none_read p i id rows over r = elim r.found as (λ _. rows ≡ []) [
    | inl none ↦ none.1
    | inr some ↦ let took = some.1 in absurd (true≢false (sym (over r.number r.low took.there).1 ∙ ap (is_node_below id) took.names ∙ is_node_below-self id))
  ]

  -- what a look for a node finds in both parts, and its rows among the joined ones
  record Both (p q : Part) (i j : ℕ) (id : NodeId) (rows : List Row) : Type 0 where
    older : List Row
    newer : List Row
    of_older : Reads p i id older
    of_newer : Reads q j id newer
    joined : rows ≡ merged_of id (older ++ newer)

  -- no rows
  no_rows : (p q : Part) (i j : ℕ) (id : NodeId) (rows : List Row) → AllOver p i (Some id) → AllOver q j (Some id) → Both p q i j id rows → rows ≡ []
  no_rows p q i j id rows of_p of_q b =
      b.joined ∙ (λ t. merged_of id (none_read p i id b.older of_p b.of_older t ++ none_read q j id b.newer of_q b.of_newer t)) ∙ merged_nothing id

  over_lower : (p : Part) (i : ℕ) (id other : NodeId) → is_node_below id other ≡ true → AllOver p i (Some other) → AllOver p i (Some id)
  over_lower p i id other below over x low there = let h = over x low there in (h.0, below-trans id other (node_at image p x) below h.1)

  moved : (p : Part) (id : NodeId) (i k : ℕ) (rows : List Row) → i ≤ p.header.nodes → Steps image p id i k rows → k ≤ p.header.nodes
  moved p id i k rows within (inl (passed, stays)) = omega (arith, within, stays)
  moved p id i k rows within (inr (took, moves)) = let there = took.there in omega (arith, there, moves)

  -- the rows of one node in front of others
  module _ (p q : Part) (i j k l : ℕ) (rows : List Row) (later : List (List Row)) (id : NodeId) (p_within : i ≤ p.header.nodes) (q_within : j ≤ q.header.nodes) (one : One image p q i j k l rows)
      (over : AllOver p k (Some one.node) × AllOver q l (Some one.node)) (rest : Both p q k l id (rows_of id (all_of later))) where
    own : AreOwn one.node rows
    own = one_own image p q i j k l rows one

    cut : rows_of id (all_of (rows ∷ later)) ≡ rows_of id rows ++ rows_of id (all_of later)
    cut = rows_of-append id rows (all_of later)

    -- no entry is left of the node or a lower one
    nothing : is_node id one.node ≡ false → AllOver p i (Some id) → AllOver q j (Some id) → AllOver p k (Some id) → AllOver q l (Some id) → Both p q i j id (rows_of id (all_of (rows ∷ later)))
    nothing differs p_over q_over p_later q_later = record {
      older = [];
      newer = [];
      of_older = none_from p i id p_within p_over;
      of_newer = none_from q j id q_within q_over;
      joined = cut ∙ (λ t. others id one.node rows differs own t ++ no_rows p q k l id (rows_of id (all_of later)) p_later q_later rest t) ∙ sym (merged_nothing id);
    }

    reads_by : (t : Bool) → is_node id one.node ≡ t → Both p q i j id (rows_of id (all_of (rows ∷ later)))
    reads_by true e =
        let same : one.node ≡ id = sym (same_node id one.node e) in
        let p_over = subst (λ n. AllOver p k (Some n)) same over.0 in
        let q_over = subst (λ n. AllOver q l (Some n)) same over.1 in
        record {
          older = one.older;
          newer = one.newer;
          of_older = here p i k id one.older p_within (subst (λ n. Steps image p n i k one.older) same one.of_older) p_over;
          of_newer = here q j l id one.newer q_within (subst (λ n. Steps image q n j l one.newer) same one.of_newer) q_over;
          joined = cut ∙ (λ t. mine id rows (subst (λ n. AreOwn n rows) same own) t ++ no_rows p q k l id (rows_of id (all_of later)) p_over q_over rest t) ∙ append-nil rows ∙ one.joined ∙ ap (λ n. merged_of n (one.older ++ one.newer)) same;
        }
    reads_by false e = elim (node_cases id one.node e) [
      | inl lower ↦
          let p_later = over_lower p k id one.node lower.0 over.0 in
          let q_later = over_lower q l id one.node lower.0 over.1 in
          nothing e (over_step p one.node i k one.older (Some id) one.of_older lower.0 over.0) (over_step q one.node j l one.newer (Some id) one.of_newer lower.0 over.1) p_later q_later
      | inr higher ↦ record {
        older = rest.older;
        newer = rest.newer;
        of_older = further p i k id one.node one.older rest.older one.of_older higher.0 rest.of_older;
        of_newer = further q j l id one.node one.newer rest.newer one.of_newer higher.0 rest.of_newer;
        joined = cut ∙ ap (λ xs. xs ++ rows_of id (all_of later)) (others id one.node rows e own) ∙ rest.joined;
      }
    ]

  reads : (p q : Part) (i j : ℕ) (joins : List (List Row)) (last : Option NodeId) (id : NodeId) → i ≤ p.header.nodes → j ≤ q.header.nodes → Joins image p q i j joins → are_apart last joins ≡ true → Both p q i j id (rows_of id (all_of joins))
  reads p q i j [] last id p_within q_within ends apart = record {
    older = [];
    newer = [];
    of_older = none_from p i id p_within (λ x low there. absurd (omega (arith, low, there, ends.0)));
    of_newer = none_from q j id q_within (λ x low there. absurd (omega (arith, low, there, ends.1)));
    joined = sym (merged_nothing id);
  }
  reads p q i j (rows ∷ later) last id p_within q_within (k, l, one, all) apart =
      let parts = both_true (follows last rows) (are_apart (last_node rows) later) apart in
      let own = one_own image p q i j k l rows one in
      let later_apart : are_apart (Some one.node) later ≡ true = subst (λ n. are_apart n later ≡ true) (last_own one.node rows one.some own) parts.1 in
      reads_by p q i j k l rows later id p_within q_within one (all_over p q k l later (Some one.node) all later_apart)
      (reads p q k l later (Some one.node) id (moved p one.node i k one.older p_within one.of_older) (moved q one.node j l one.newer q_within one.of_newer) all later_apart) (is_node id one.node) refl

  -- ---- by the search of the whole index

  found_in : (p : Part) (id : NodeId) (rows : List Row) → Reads p 0 id rows → IsFoundIn image p id rows
  found_in p id rows r = elim r.found as (λ _. IsFoundIn image p id rows) [
    | inl none ↦ inl (none.1, lacks none.0)
    | inr some ↦ inr (has some.0 some.1)
  ]
    where
      around : AreAround p.header (body_of image p) id r.number r.own
      around = record { good = λ x there. r.good x (omega arith) there; below = λ x low there. r.below x (omega arith) low there; at = r.at; above = r.above }

      lacks : r.own ≡ 0 → LacksEntry p.header (body_of image p) id
      lacks none = record {
        number = r.number;
        within = (let within = r.within in omega (arith, within));
        before = before (cases_lt 0 r.number);
        behind = behind (cases_lt r.number p.header.nodes);
        sought = around_sought p.header (body_of image p) id r.number r.own around r.few r.within ∙ ap (answer p.header (body_of image p) id r.number) none;
      }
        where
          before : (0 < r.number) ⊎ (r.number ≤ 0) → (r.number ≡ 0) ⊎ ((is_entry p.header (entry_at p.header (body_of image p) (r.number - 1)) ≡ true) × (is_node_below (node_at image p (r.number - 1)) id ≡ true))
          before (inl some) = let within = r.within in inr (r.good (r.number - 1) (omega arith) (omega (arith, some, within)), r.below (r.number - 1) (omega arith) (omega (arith, some)) (omega (arith, some, within)))
          before (inr zero_) = inl (omega (arith, zero_))

          behind : (r.number < p.header.nodes) ⊎ (p.header.nodes ≤ r.number) → (r.number ≡ p.header.nodes) ⊎ ((is_entry p.header (entry_at p.header (body_of image p) r.number) ≡ true) × (is_node_below id (node_at image p r.number) ≡ true))
          behind (inl there) = inr (r.good r.number (omega arith) there, r.above r.number (omega (arith, none)) there)
          behind (inr end) = let within = r.within in inl (omega (arith, end, within))

      has : r.own ≡ 1 → Took image p id r.number rows → HasEntryWith p.header (body_of image p) id rows
      has one took = record {
        entry = r.number;
        there = took.there;
        names = took.names;
        span = took.span;
        is_span = took.is_span;
        holds = took.holds;
        sought = around_sought p.header (body_of image p) id r.number r.own around r.few r.within ∙ ap (answer p.header (body_of image p) id r.number) one;
      }

pub measured_law : BodyIsMeasured
measured_law image older newer region_len measure bytes m ordered b len =
    let c = counted image (at_front older newer region_len) measure bytes m ordered b len in
    let joins = joins_of image (at_front older newer region_len) b.joins b.all in
    record {
      rows = all_of b.joins;
      body = c.body;
      ordered = c.ordered;
      measured = c.measured;
      fit = c.fit;
      each = λ id.
          let r = reads image older newer 0 0 b.joins None id (omega arith) (omega arith) joins c.apart in
          record {
            of_older = r.older;
            of_newer = r.newer;
            found_older = found_in image older id r.older r.of_older;
            found_newer = found_in image newer id r.newer r.of_newer;
            joined = r.joined;
          };
    }
