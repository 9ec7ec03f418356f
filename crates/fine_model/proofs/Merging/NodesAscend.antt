-- The nodes of rows ascend strictly, and are known by which nodes are among them.
use Rattle.std.proofs.Common.{◌≡◌, ◌⊎◌, inl, inr, Bool, true, false, cond, ◌||◌, List, [], ◌∷◌, ◌++◌, map, refl, sym, ap, ◌∙◌, subst, true≢false}
use Rattle.std.specs.Prelude.{filter, fold}
use Rattle.std.specs.List.{AllByRecursion, list_any}
use Rattle.fine_model.specs.Types.{NodeId, Row}
use Rattle.fine_model.specs.Nodes.{is_node}
use Rattle.fine_model.specs.Merge.{is_node_below, with_node, nodes_in}
use Rattle.fine_model.proofs.Merging.NodesIn.{is_node-self, same_node, times}
use Rattle.fine_model.proofs.Ordered.Order.{all_map}
use Rattle.fine_model.proofs.Ordered.Sets.{all_filter, all_append, all_pass}
use Rattle.fine_model.proofs.Merging.NodeOrder.{AllBelow, below-trans, below-asym}

abbrev pub AllAbove : NodeId → List NodeId → Type 0
AllAbove id ids = AllByRecursion (λ i. is_node_below id i ≡ true) ids

-- nodes ascend strictly
abbrev pub Ascend : List NodeId → Type 0
Ascend [] = Unit {0}
Ascend (id ∷ ids) = AllAbove id ids × Ascend ids

ascend-filter : (p : NodeId → Bool) (ids : List NodeId) → Ascend ids → Ascend (filter p ids)
ascend-filter p [] up = tt
ascend-filter p (id ∷ ids) up = by (p id) (ascend-filter p ids up.1)
  where
    by : (b : Bool) → Ascend (filter p ids) → Ascend (cond b (id ∷ filter p ids) (filter p ids))
    by true rest = (all_filter (λ i. is_node_below id i ≡ true) p ids up.0, rest)
    by false rest = rest

ascend-around : (id : NodeId) (front back : List NodeId) → Ascend front → AllBelow id front → Ascend back → AllAbove id back → Ascend (front ++ id ∷ back)
ascend-around id [] back up below up' above = (above, up')
ascend-around id (f ∷ front) back up below up' above = (
  all_append (λ i. is_node_below f i ≡ true) front (id ∷ back) up.0 (below.0, all_map (λ i. is_node_below id i ≡ true) (λ i. is_node_below f i ≡ true) (λ i h. below-trans f id i below.0 h) back above),
  ascend-around id front back up.1 below.1 up' above,
)

ascend-with_node : (ids : List NodeId) (id : NodeId) → Ascend ids → Ascend (with_node ids id)
ascend-with_node ids id up =
    ascend-around id (filter (λ i. is_node_below i id) ids) (filter (λ i. is_node_below id i) ids) (ascend-filter (λ i. is_node_below i id) ids up) (all_pass (λ i. is_node_below i id) ids)
    (ascend-filter (λ i. is_node_below id i) ids up) (all_pass (λ i. is_node_below id i) ids)

ascend-fold : (acc ids : List NodeId) → Ascend acc → Ascend (fold with_node acc ids)
ascend-fold acc [] up = up
ascend-fold acc (id ∷ ids) up = ascend-fold (with_node acc id) ids (ascend-with_node acc id up)

pub nodes_ascend : (rows : List Row) → Ascend (nodes_in rows)
unfolding nodes_in
nodes_ascend rows = ascend-fold [] (map (λ r. r.node) rows) tt

-- ascending nodes are known by which nodes are among them
some_of : List NodeId → Bool
some_of [] = false
some_of (id ∷ ids) = true

any-times : (id : NodeId) (ids : List NodeId) → list_any (is_node id) ids ≡ some_of (times id ids)
unfolding some_of
any-times id [] = refl
any-times id (i ∷ ids) = by (is_node id i) (any-times id ids)
  where
    by : (b : Bool) → list_any (is_node id) ids ≡ some_of (times id ids) → (b || list_any (is_node id) ids) ≡ some_of (cond b (i ∷ times id ids) (times id ids))
    by true rest = refl
    by false rest = rest

all_at : (P : NodeId → Type 0) (id : NodeId) (ids : List NodeId) → AllByRecursion P ids → list_any (is_node id) ids ≡ true → P id
all_at P id [] all there = absurd (true≢false (sym there))
all_at P id (i ∷ ids) all there = by (is_node id i) refl there (all_at P id ids all.1)
  where
    by : (b : Bool) → is_node id i ≡ b → (b || list_any (is_node id) ids) ≡ true → (list_any (is_node id) ids ≡ true → P id) → P id
    by true e h rest = subst P (sym (same_node id i e)) all.0
    by false e h rest = rest h

-- a node that is among ascending ones is the first of them or above it
first_or_above : (id i : NodeId) (ids : List NodeId) → AllAbove i ids → list_any (is_node id) (i ∷ ids) ≡ true → (id ≡ i) ⊎ (is_node_below i id ≡ true)
first_or_above id i ids above there = by (is_node id i) refl there
  where
    by : (b : Bool) → is_node id i ≡ b → (b || list_any (is_node id) ids) ≡ true → (id ≡ i) ⊎ (is_node_below i id ≡ true)
    by true e h = inl (same_node id i e)
    by false e h = inr (all_at (λ j. is_node_below i j ≡ true) id ids above h)

pub same_nodes : (xs ys : List NodeId) → Ascend xs → Ascend ys → ((id : NodeId) → times id xs ≡ times id ys) → xs ≡ ys
same_nodes [] [] up up' same = refl
same_nodes [] (y ∷ ys) up up' same = absurd (let e = same y in let h : times y (y ∷ ys) ≡ y ∷ times y ys = ap (λ b. cond b (y ∷ times y ys) (times y ys)) (is_node-self y) in cc)
same_nodes (x ∷ xs) [] up up' same = absurd (let e = same x in let h : times x (x ∷ xs) ≡ x ∷ times x xs = ap (λ b. cond b (x ∷ times x xs) (times x xs)) (is_node-self x) in cc)
same_nodes (x ∷ xs) (y ∷ ys) up up' same =
    let first : x ≡ y = by (first_or_above x y ys up'.0 (in_other x (x ∷ xs) (y ∷ ys) (same x) (ap (λ b. b || list_any (is_node x) xs) (is_node-self x))))
    (first_or_above y x xs up.0 (in_other y (y ∷ ys) (x ∷ xs) (sym (same y)) (ap (λ b. b || list_any (is_node y) ys) (is_node-self y)))) in
    let rest = same_nodes xs ys up.1 up'.1 (λ id. others first id (is_node id x) refl (same id)) in λ k. first k ∷ rest k
  where
    in_other : (id : NodeId) (is js : List NodeId) → times id is ≡ times id js → list_any (is_node id) is ≡ true → list_any (is_node id) js ≡ true
    in_other id is js e there = any-times id js ∙ ap some_of (sym e) ∙ sym (any-times id is) ∙ there

    by : (x ≡ y) ⊎ (is_node_below y x ≡ true) → (y ≡ x) ⊎ (is_node_below x y ≡ true) → x ≡ y
    by (inl e) other = e
    by (inr h) (inl e) = sym e
    by (inr h) (inr k) = absurd (true≢false (sym k ∙ below-asym y x h))

    others : x ≡ y → (id : NodeId) → (b : Bool) → is_node id x ≡ b → times id (x ∷ xs) ≡ times id (y ∷ ys) → times id xs ≡ times id ys
    others first id b e all = tails b
        (ap (λ t. cond t (x ∷ times id xs) (times id xs)) (sym e) ∙ all ∙ ap (λ k. cond (is_node id k) (k ∷ times id ys) (times id ys)) (sym first) ∙ ap (λ t. cond t (x ∷ times id ys) (times id ys)) e)
      where
        tails : (t : Bool) → cond t (x ∷ times id xs) (times id xs) ≡ cond t (x ∷ times id ys) (times id ys) → times id xs ≡ times id ys
        tails true h = cc
        tails false h = h
