-- The nodes of rows ascend strictly, and each row's node is one of them.
use Rattle.std.proofs.Common.{◌≡◌, ℕ, zero, suc, ◌<◌, ◌≤◌, Bool, true, false, cond, ◌||◌, List, [], ◌∷◌, map, length, get_or, refl, sym, ap, ◌∙◌, subst, arith}
use Rattle.std.specs.Prelude.{filter, fold}
use Rattle.std.specs.List.{AllByRecursion, list_any}
use Rattle.std.proofs.lemmas.Bool.{true≢false}
use Rattle.fine_model.specs.declared.NodeId.{NodeId}
use Rattle.fine_model.specs.declared.Row.{Row}
use Rattle.fine_model.specs.Nodes.{is_node, rows_of}
use Rattle.fine_model.specs.Merge.{is_node_below, with_node, nodes_in}
use Rattle.fine_model.proofs.Ordered.Sets.{all_append, all_filter}
use Rattle.fine_model.proofs.Merging.NodesIn.{times, times-nodes_in, is_node-self, same_node}
pub use Rattle.fine_model.proofs.Merging.NodesAscend.{AllAbove, Ascend, nodes_ascend}

-- what holds of each item holds of the one at a place
pub all_at : {A : Type 0} (P : A → Type 0) (xs : List A) (i : ℕ) (d : A) → AllByRecursion P xs → i < length xs → P (get_or xs i d)
all_at P [] i d all h = absurd (omega (arith, h))
all_at P (x ∷ xs) zero d all h = all.0
all_at P (x ∷ xs) (suc i) d all h = all_at P xs i d all.1 (omega (arith, h))

pub ascend_at : (ids : List NodeId) (i j : ℕ) (d : NodeId) → Ascend ids → i < j → j < length ids → is_node_below (get_or ids i d) (get_or ids j d) ≡ true
ascend_at [] i j d up low here = absurd (omega (arith, here))
ascend_at (k ∷ ids) i zero d up low here = absurd (omega (arith, low))
ascend_at (k ∷ ids) zero (suc j) d up low here = all_at (λ x. is_node_below k x ≡ true) ids j d up.0 (omega (arith, here))
ascend_at (k ∷ ids) (suc i) (suc j) d up low here = ascend_at ids i j d up.1 (omega (arith, low)) (omega (arith, here))

-- a node that stands among nodes has a place there
pub record Stands (id : NodeId) (ids : List NodeId) : Type 0 where
  pub at : ℕ
  pub there : at < length ids
  pub is : (d : NodeId) → get_or ids at d ≡ id

stands_times : (id : NodeId) (ids rest : List NodeId) → times id ids ≡ id ∷ rest → Stands id ids
stands_times id [] rest h = absurd (cc)
stands_times id (i ∷ ids) rest h = by (stands_times id ids rest) (is_node id i) refl
  where
    by : (times id ids ≡ id ∷ rest → Stands id ids) → (t : Bool) → is_node id i ≡ t → Stands id (i ∷ ids)
    by more true e = record { at = 0; there = omega arith; is = λ d. sym (same_node id i e) }
    by more false e =
        let s = more (sym (ap (λ t. cond t (i ∷ times id ids) (times id ids)) e) ∙ h) in
        record { at = suc s.at; there = omega (arith, s.there); is = λ d. s.is d }

named : (rows : List Row) (id : NodeId) (i : ℕ) (d : Row) → i < length rows → (get_or rows i d).node ≡ id → list_any (is_node id) (map (λ r. r.node) rows) ≡ true
named [] id i d here is = absurd (omega (arith, here))
named (r ∷ rows) id zero d here is = ap (λ t. t || list_any (is_node id) (map (λ x. x.node) rows)) (subst (λ k. is_node k r.node ≡ true) is (is_node-self r.node))
named (r ∷ rows) id (suc i) d here is = by (is_node id r.node) (named rows id i d (omega (arith, here)) is)
  where
    by : (t : Bool) → list_any (is_node id) (map (λ x. x.node) rows) ≡ true → (t || list_any (is_node id) (map (λ x. x.node) rows)) ≡ true
    by true h = refl
    by false h = h

-- each row's node stands among the nodes of the rows
pub row_stands : (rows : List Row) (i : ℕ) (d : Row) → i < length rows → Stands (get_or rows i d).node (nodes_in rows)
row_stands rows i d here =
    let id : NodeId = (get_or rows i d).node in
    stands_times id (nodes_in rows) [] (times-nodes_in id rows ∙ ap (λ t. cond t (id ∷ []) []) (named rows id i d here refl))

-- what holds of each row's node holds of each node of the rows
all_fold : (P : NodeId → Type 0) (acc ids : List NodeId) → AllByRecursion P acc → AllByRecursion P ids → AllByRecursion P (fold with_node acc ids)
all_fold P acc [] a b = a
all_fold P acc (i ∷ ids) a b =
    all_fold P (with_node acc i) ids (all_append P (filter (λ j. is_node_below j i) acc) (i ∷ filter (λ j. is_node_below i j) acc) (all_filter P (λ j. is_node_below j i) acc a) (b.0, all_filter P (λ j. is_node_below i j) acc a)) b.1

all_mapped : (P : NodeId → Type 0) (rows : List Row) → AllByRecursion (λ r. P r.node) rows → AllByRecursion P (map (λ r. r.node) rows)
all_mapped P [] all = tt
all_mapped P (r ∷ rows) all = (all.0, all_mapped P rows all.1)

pub nodes_all : (P : NodeId → Type 0) (rows : List Row) → AllByRecursion (λ r. P r.node) rows → AllByRecursion P (nodes_in rows)
unfolding nodes_in
nodes_all P rows all = all_fold P [] (map (λ r. r.node) rows) tt (all_mapped P rows all)

pub all_nodes : (P : NodeId → Type 0) (rows : List Row) (i : ℕ) (d : NodeId) → AllByRecursion (λ r. P r.node) rows → i < length (nodes_in rows) → P (get_or (nodes_in rows) i d)
all_nodes P rows i d all here = all_at P (nodes_in rows) i d (nodes_all P rows all) here

-- a node among others stands there
times_at : (id : NodeId) (ids : List NodeId) (i : ℕ) (d : NodeId) → i < length ids → get_or ids i d ≡ id → 1 ≤ length (times id ids)
times_at id [] i d here is = absurd (omega (arith, here))
times_at id (j ∷ ids) zero d here is = subst (λ t. 1 ≤ length (cond t (j ∷ times id ids) (times id ids))) (sym (subst (λ k. is_node id k ≡ true) (sym is) (is_node-self id))) (omega arith)
times_at id (j ∷ ids) (suc i) d here is = by (is_node id j) (times_at id ids i d (omega (arith, here)) is)
  where
    by : (t : Bool) → 1 ≤ length (times id ids) → 1 ≤ length (cond t (j ∷ times id ids) (times id ids))
    by true h = omega (arith, h)
    by false h = h

rows_named : (id : NodeId) (rows : List Row) → list_any (is_node id) (map (λ r. r.node) rows) ≡ true → 1 ≤ length (rows_of id rows)
rows_named id [] h = absurd (true≢false (sym h))
rows_named id (r ∷ rows) h = by (rows_named id rows) (is_node id r.node) h
  where
    by : (list_any (is_node id) (map (λ x. x.node) rows) ≡ true → 1 ≤ length (rows_of id rows)) → (t : Bool) → (t || list_any (is_node id) (map (λ x. x.node) rows)) ≡ true → 1 ≤ length (cond t (r ∷ rows_of id rows) (rows_of id rows))
    by more true e = omega arith
    by more false e = more e

rows_unnamed : (id : NodeId) (rows : List Row) → list_any (is_node id) (map (λ r. r.node) rows) ≡ false → length (rows_of id rows) ≡ 0
rows_unnamed id [] h = refl
rows_unnamed id (r ∷ rows) h = by (rows_unnamed id rows) (is_node id r.node) h
  where
    by : (list_any (is_node id) (map (λ x. x.node) rows) ≡ false → length (rows_of id rows) ≡ 0) → (t : Bool) → (t || list_any (is_node id) (map (λ x. x.node) rows)) ≡ false → length (cond t (r ∷ rows_of id rows) (rows_of id rows)) ≡ 0
    by more true e = absurd (true≢false e)
    by more false e = more e

-- each node of rows has rows
pub has_rows : (rows : List Row) (i : ℕ) (d : NodeId) → i < length (nodes_in rows) → 1 ≤ length (rows_of (get_or (nodes_in rows) i d) rows)
has_rows rows i d here = by (list_any (is_node id) (map (λ r. r.node) rows)) refl
  where
    id : NodeId
    id = get_or (nodes_in rows) i d

    by : (t : Bool) → list_any (is_node id) (map (λ r. r.node) rows) ≡ t → 1 ≤ length (rows_of id rows)
    by true h = rows_named id rows h
    by false h =
        let none : times id (nodes_in rows) ≡ [] = times-nodes_in id rows ∙ ap (λ t. cond t (id ∷ []) []) h in
        absurd (omega (arith, times_at id (nodes_in rows) i d here refl, ap length none))

none_times : (id : NodeId) (ids : List NodeId) (d : NodeId) → ((k : ℕ) → k < length ids → is_node id (get_or ids k d) ≡ false) → times id ids ≡ []
none_times id [] d none = refl
none_times id (i ∷ ids) d none = ap (λ t. cond t (i ∷ times id ids) (times id ids)) (none 0 (omega arith)) ∙ none_times id ids d (λ k h. none (suc k) (omega (arith, h)))

-- a node that is none of the rows' nodes has no rows
pub no_rows : (rows : List Row) (id d : NodeId) → ((k : ℕ) → k < length (nodes_in rows) → is_node id (get_or (nodes_in rows) k d) ≡ false) → length (rows_of id rows) ≡ 0
no_rows rows id d none = by (list_any (is_node id) (map (λ r. r.node) rows)) refl
  where
    by : (t : Bool) → list_any (is_node id) (map (λ r. r.node) rows) ≡ t → length (rows_of id rows) ≡ 0
    by true h =
        let one : times id (nodes_in rows) ≡ id ∷ [] = times-nodes_in id rows ∙ ap (λ t. cond t (id ∷ []) []) h in
        absurd (omega (arith, ap length one, ap length (none_times id (nodes_in rows) d none)))
    by false h = rows_unnamed id rows h
