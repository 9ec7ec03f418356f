-- Keys that a stable sort put in the order of their nodes, and that ascend, are the keys of arranged rows.
use Rattle.std.proofs.Common.{◌≡◌, inl, inr, ℕ, zero, suc, ◌+◌, ◌<◌, Bool, true, false, cond, not, ◌&&◌, IsPermutation, List, [], ◌∷◌, ◌++◌, length, get_or, refl, sym, ap, ◌∙◌, subst, arith, true≢false, filter, is_lt, nat_cmp}
use Rattle.std.specs.Prelude.{IsSortedBy}
use Rattle.std.specs.Cmp.{IsStrictWeakOrder}
use Rattle.std.specs.List.{AllByRecursion}
use Rattle.std.specs.List.Sorted.{IsStableBy, ties}
use Rattle.std.specs.Ordering.{ordering_then}
use Rattle.std.proofs.lemmas.List.Elements.{filter_agree}
use Rattle.std.proofs.lemmas.List.MinMax.{ranks_by}
use Rattle.fine_model.specs.declared.Mark.TheVariants as mark
use Rattle.fine_model.specs.declared.NodeId.{NodeId}
use Rattle.fine_model.specs.declared.Row.{Row}
use Rattle.fine_model.specs.Merge.{is_node_below, is_ordered, is_row_below, node_cmp}
use Rattle.fine_model.specs.Nodes.{is_node, rows_of}
use Rattle.fine_model.specs.RowBytes.{FitsRow}
use Rattle.fine_model.specs.VersionLaws.{HaveSameRows}
use Rattle.fine_model.proofs.Chain.Grammar.{ordered_front}
use Rattle.fine_model.proofs.Merging.NodesIn.{is_node-self, is_node_below-self, node_cases, nodes_total, same_node}
use Rattle.fine_model.proofs.Ordered.Order.{first_of_both, less}
use Rattle.fine_model.proofs.Ordered.Permuted.{permuted_law}
use Rattle.fine_model.proofs.Ordered.Sets.{all_filter}
use Rattle.fine_model.proofs.Chain.Spelling.{row_spelling}
use Rattle.node_record.specs.Keys.{AreKeysOf, AreRows, AreSorted, IsKeyOf, is_key_below}
use Rattle.node_record.specs.declared.key.RowAt.{RowAt}
use Rattle.node_record.proofs.Fronts.{sorted_law}
use Rattle.partition_index.proofs.RowOrder.{higher_than, lower_than, parted}
use Rattle.row_gathering.specs.Steps.{Arranges, NoneInOrder, are_up}
use Rattle.row_gathering.specs.declared.gathering.Gathered.{Gathered}

-- ---- the order of nodes

abbrev pub is_lower : RowAt → RowAt → Bool
is_lower a b = is_node_below a.node b.node

pub keys_ranked : IsStrictWeakOrder is_lower
keys_ranked = ranks_by nodes_total (λ k. k.node)

tie_is : (id n : NodeId) → (not (is_node_below id n) && not (is_node_below n id)) ≡ is_node id n
tie_is id n = by (is_node id n) refl
  where
    by : (t : Bool) → is_node id n ≡ t → (not (is_node_below id n) && not (is_node_below n id)) ≡ is_node id n
    by true h = ap (λ m. not (is_node_below id m) && not (is_node_below m id)) (sym (same_node id n h)) ∙ ap (λ b. not b && not b) (is_node_below-self id) ∙ sym h
    by false h = elim (node_cases id n h) as (λ _. (not (is_node_below id n) && not (is_node_below n id)) ≡ is_node id n) [
      | inl a ↦ ap (λ b. not b && not (is_node_below n id)) a.0 ∙ sym h
      | inr a ↦ ap (λ b. not (is_node_below id n) && not b) a.0 ∙ ap (λ b. not b && false) a.1 ∙ sym h
    ]

-- ---- keys and the rows of a node

keys_of_node : (bytes : List ℕ) (id : NodeId) (rows : List Row) (keys : List RowAt) → AreKeysOf bytes rows keys → AreKeysOf bytes (rows_of id rows) (filter (λ k. is_node id k.node) keys)
keys_of_node bytes id [] [] are = tt
keys_of_node bytes id [] (k ∷ keys) are = elim are [ ]
keys_of_node bytes id (r ∷ rows) [] are = elim are [ ]
keys_of_node bytes id (r ∷ rows) (k ∷ keys) are = by (is_node id r.node) (is_node id k.node) (ap (is_node id) are.0.node) (keys_of_node bytes id rows keys are.1)
  where
    by : (t u : Bool) → u ≡ t → AreKeysOf bytes (rows_of id rows) (filter (λ x. is_node id x.node) keys)
        → AreKeysOf bytes (cond t (r ∷ rows_of id rows) (rows_of id rows)) (cond u (k ∷ filter (λ x. is_node id x.node) keys) (filter (λ x. is_node id x.node) keys))
    by true true e rest = (are.0, rest)
    by false false e rest = rest
    by true false e rest = absurd (true≢false (sym e))
    by false true e rest = absurd (true≢false e)

-- rows are told by where they lie
rows_alike : (bytes : List ℕ) (a b : List Row) (keys : List RowAt) → AreKeysOf bytes a keys → AreKeysOf bytes b keys → AllByRecursion (FitsRow mark.Two) a → AllByRecursion (FitsRow mark.Two) b → a ≡ b
rows_alike bytes [] [] keys x y f g = refl
rows_alike bytes [] (s ∷ b) [] x y f g = elim y [ ]
rows_alike bytes [] (s ∷ b) (k ∷ keys) x y f g = elim x [ ]
rows_alike bytes (r ∷ a) b [] x y f g = elim x [ ]
rows_alike bytes (r ∷ a) [] (k ∷ keys) x y f g = elim y [ ]
rows_alike bytes (r ∷ a) (s ∷ b) (k ∷ keys) x y f g =
    let here = row_spelling mark.Two r s [] [] f.0 g.0 (ap (λ xs. xs ++ []) (sym x.0.spelled ∙ y.0.spelled)) in
    let rest = rows_alike bytes a b keys x.1 y.1 f.1 g.1 in λ i. here.0 i ∷ rest i

same_rows : (bytes : List ℕ) (rows arranged : List Row) (keys sorted : List RowAt) → AreKeysOf bytes rows keys → AreKeysOf bytes arranged sorted
    → AllByRecursion (FitsRow mark.Two) rows → AllByRecursion (FitsRow mark.Two) arranged → IsStableBy is_lower keys sorted → HaveSameRows rows arranged
same_rows bytes rows arranged keys sorted are in_order fit fit' stable = record { of_each = by }
  where
    some : NodeId → RowAt
    some id = record { node = id; version = 0; at = 0; len = 0 }

    kept : (id : NodeId) → filter (λ k. is_node id k.node) sorted ≡ filter (λ k. is_node id k.node) keys
    kept id =
        sym (filter_agree (ties is_lower (some id)) (λ k. is_node id k.node) (λ k. tie_is id k.node) sorted) ∙ stable (some id)
        ∙ filter_agree (ties is_lower (some id)) (λ k. is_node id k.node) (λ k. tie_is id k.node) keys

    by : (id : NodeId) → rows_of id arranged ≡ rows_of id rows
    by id =
        rows_alike bytes (rows_of id arranged) (rows_of id rows) (filter (λ k. is_node id k.node) keys)
        (subst (AreKeysOf bytes (rows_of id arranged)) (kept id) (keys_of_node bytes id arranged sorted in_order))
        (keys_of_node bytes id rows keys are) (all_filter (FitsRow mark.Two) (λ r. is_node id r.node) arranged fit') (all_filter (FitsRow mark.Two) (λ r. is_node id r.node) rows fit)

-- ---- the order of rows

ascends : (a b : RowAt) (keys : List RowAt) → is_key_below a b ≡ true → are_up (b ∷ keys) ≡ true → are_up (a ∷ b ∷ keys) ≡ true
ascends a b keys below up = ap (λ t. t && are_up (b ∷ keys)) below ∙ up

-- keys of which each is below the next
pub up_from : (keys : List RowAt) → ((k : ℕ) (d : RowAt) → k + 1 < length keys → true ≡ is_key_below (get_or keys k d) (get_or keys (k + 1) d)) → are_up keys ≡ true
up_from [] up = refl
up_from (a ∷ []) up = refl
up_from (a ∷ b ∷ keys) up =
    let e : (k : ℕ) → suc k + 1 ≡ suc (k + 1) = λ k. omega arith in
    ascends a b keys (sym (up 0 a (omega arith)))
    (up_from (b ∷ keys) (λ k d high. subst (λ n. true ≡ is_key_below (get_or (b ∷ keys) k d) (get_or (a ∷ b ∷ keys) n d)) (e k) (up (suc k) d (omega (arith, high)))))

-- and keys of which one is not
pub not_up : (keys : List RowAt) (k : ℕ) → k + 1 < length keys → ((d : RowAt) → false ≡ is_key_below (get_or keys k d) (get_or keys (k + 1) d)) → are_up keys ≡ false
not_up [] k high low = absurd (omega (arith, high))
not_up (a ∷ []) k high low = absurd (omega (arith, high))
not_up (a ∷ b ∷ keys) zero high low = ap (λ t. t && are_up (b ∷ keys)) (sym (low a))
not_up (a ∷ b ∷ keys) (suc k) high low =
    let e : suc k + 1 ≡ suc (k + 1) = omega arith in
    ap (λ t. is_key_below a b && t) (not_up (b ∷ keys) k (omega (arith, high)) (λ d. subst (λ n. false ≡ is_key_below (get_or (b ∷ keys) k d) (get_or (a ∷ b ∷ keys) n d)) e (low d))) ∙ none (is_key_below a b)
  where
    none : (t : Bool) → (t && false) ≡ false
    none true = refl
    none false = refl

below_alike : (bytes : List ℕ) (r s : Row) (k l : RowAt) → IsKeyOf bytes r k → IsKeyOf bytes s l → is_row_below r s ≡ is_key_below k l
below_alike bytes r s k l a b i = is_lt (ordering_then (node_cmp (sym a.node i) (sym b.node i)) (nat_cmp (sym a.version i) (sym b.version i)))

-- rows are in order where their keys ascend
rows_alike_up : (bytes : List ℕ) (rows : List Row) (keys : List RowAt) → AreKeysOf bytes rows keys → is_ordered rows ≡ are_up keys
rows_alike_up bytes [] [] are = refl
rows_alike_up bytes [] (k ∷ keys) are = elim are [ ]
rows_alike_up bytes (r ∷ rows) [] are = elim are [ ]
rows_alike_up bytes (r ∷ []) (k ∷ []) are = refl
rows_alike_up bytes (r ∷ []) (k ∷ l ∷ keys) are = elim are.1 [ ]
rows_alike_up bytes (r ∷ s ∷ rows) (k ∷ []) are = elim are.1 [ ]
rows_alike_up bytes (r ∷ s ∷ rows) (k ∷ l ∷ keys) are = λ i. below_alike bytes r s k l are.0 are.1.0 i && rows_alike_up bytes (s ∷ rows) (l ∷ keys) are.1 i

-- ---- when rows that were sorted by node are in order

ordered_back : (front more : List Row) → is_ordered (front ++ more) ≡ true → is_ordered more ≡ true
ordered_back [] more h = h
ordered_back (r ∷ []) [] h = refl
ordered_back (r ∷ []) (s ∷ more) h = (first_of_both (is_row_below r s) (is_ordered (s ∷ more)) h).1
ordered_back (r ∷ s ∷ front) more h = ordered_back (s ∷ front) more (first_of_both (is_row_below r s) (is_ordered (s ∷ front ++ more)) h).1

-- the rows of one node among rows in order are in order
pub of_node : (id : NodeId) (rows : List Row) → is_ordered rows ≡ true → is_ordered (rows_of id rows) ≡ true
of_node id rows h =
    ordered_front (rows_of id rows) (higher_than id rows)
    (ordered_back (lower_than id rows) (rows_of id rows ++ higher_than id rows) (subst (λ rs. is_ordered rs ≡ true) (parted id rows h) h))

-- rows that are in order at each node, and of which none is of a lower node than the one before
by_node : (bytes : List ℕ) (rows : List Row) (keys : List RowAt) → AreKeysOf bytes rows keys → IsSortedBy is_lower keys → ((id : NodeId) → is_ordered (rows_of id rows) ≡ true) → is_ordered rows ≡ true
by_node bytes [] keys are sorted each = refl
by_node bytes (a ∷ []) keys are sorted each = refl
by_node bytes (a ∷ b ∷ rows) [] are sorted each = elim are [ ]
by_node bytes (a ∷ b ∷ rows) (k ∷ []) are sorted each = elim are.1 [ ]
by_node bytes (a ∷ b ∷ rows) (k ∷ l ∷ keys) are sorted each =
    ap (λ t. t && is_ordered (b ∷ rows)) (by (is_node a.node b.node) refl) ∙ by_node bytes (b ∷ rows) (l ∷ keys) are.1 behind (λ id. rest id (is_node id a.node) (each id))
  where
    behind : IsSortedBy is_lower (l ∷ keys)
    behind i d low high = let e : suc i + 1 ≡ suc (i + 1) = omega arith in subst (λ n. is_lower (get_or (k ∷ l ∷ keys) n d) (get_or (l ∷ keys) i d) ≡ false) e (sorted (suc i) d (omega arith) (omega (arith, high)))

    rest : (id : NodeId) (t : Bool) → is_ordered (cond t (a ∷ rows_of id (b ∷ rows)) (rows_of id (b ∷ rows))) ≡ true → is_ordered (rows_of id (b ∷ rows)) ≡ true
    rest id true h = ordered_back (a ∷ []) (rows_of id (b ∷ rows)) h
    rest id false h = h

    not_lower : is_node_below b.node a.node ≡ false
    not_lower = (λ i. is_node_below (sym are.1.0.node i) (sym are.0.node i)) ∙ sorted 0 k (omega arith) (omega arith)

    by : (t : Bool) → is_node a.node b.node ≡ t → is_row_below a b ≡ true
    by true e =
        let two : is_ordered (a ∷ b ∷ rows_of a.node rows) ≡ true =
        subst (λ rs. is_ordered rs ≡ true) (ap (λ t. cond t (a ∷ rows_of a.node (b ∷ rows)) (rows_of a.node (b ∷ rows))) (is_node-self a.node) ∙ ap (λ t. a ∷ cond t (b ∷ rows_of a.node rows) (rows_of a.node rows)) e) (each a.node) in
        (first_of_both (is_row_below a b) (is_ordered (b ∷ rows_of a.node rows)) two).0
    by false e = elim (node_cases a.node b.node e) as (λ _. is_row_below a b ≡ true) [
      | inl p ↦ ap (λ o. is_lt (ordering_then o (nat_cmp a.version b.version))) (less (node_cmp a.node b.node) p.0)
      | inr p ↦ absurd (true≢false (sym p.0 ∙ not_lower))
    ]

-- ---- keys that were sorted by node

module _ (bytes : List ℕ) (rows : List Row) (keys sorted : List RowAt) (of_bytes : AreRows bytes rows) (are : AreKeysOf bytes rows keys) (permuted : IsPermutation keys sorted) (stable : IsStableBy is_lower keys sorted) where
  arranged : AreSorted bytes rows sorted
  arranged = sorted_law bytes rows keys sorted are permuted

  same : HaveSameRows rows arranged.arranged
  same = same_rows bytes rows arranged.arranged keys sorted are arranged.keys of_bytes.fit ((permuted_law rows arranged.arranged arranged.permuted).fit mark.Two of_bytes.fit) stable

  pub arranges : (gathered : Gathered) → gathered.bytes.items ≡ bytes → gathered.keys.items ≡ sorted → are_up sorted ≡ true → Arranges bytes rows gathered
  arranges gathered kept in_order up = record {
    rows = arranged.arranged;
    kept = kept;
    are = subst (AreKeysOf bytes arranged.arranged) (sym in_order) arranged.keys;
    ordered = rows_alike_up bytes arranged.arranged sorted arranged.keys ∙ up;
    permuted = arranged.permuted;
    same = same;
  }

  pub none_in_order : IsSortedBy is_lower sorted → are_up sorted ≡ false → NoneInOrder rows
  none_in_order low no_up others ordered alike =
      let each : (id : NodeId) → is_ordered (rows_of id arranged.arranged) ≡ true =
      λ id. ap is_ordered (same.of_each id ∙ sym (alike.of_each id)) ∙ of_node id others ordered in
      true≢false (sym (by_node bytes arranged.arranged sorted arranged.keys low each) ∙ rows_alike_up bytes arranged.arranged sorted arranged.keys ∙ no_up)
