-- Rows arranged by node.
use Rattle.std.proofs.Common.{◌≡◌, inl, inr, ℕ, suc, ◌+◌, ◌<◌, ◌==◌, Bool, true, false, cond, not, ◌&&◌, List, [], ◌∷◌, ◌++◌, refl, sym, ap, ◌∙◌, subst, arith, true≢false, Ordering, Less, Equal, Greater, is_lt, nat_cmp, get_or, lt-ltb}
use Rattle.std.specs.Prelude.{IsSortedBy}
use Rattle.std.specs.List.Sorted.{ties}
use Rattle.std.specs.Ordering.{ordering_then}
use Rattle.std.proofs.lemmas.Cmp.{tied_itself}
use Rattle.std.proofs.lemmas.List.Elements.{filter_agree}
use Rattle.fine_model.specs.Types.{NodeId, Row}
use Rattle.fine_model.specs.Types.rec
use Rattle.fine_model.specs.Nodes.{replay, step, is_node, rows_of, content}
use Rattle.fine_model.specs.Merge.{node_cmp, is_node_below, is_row_below, is_ordered}
use Rattle.fine_model.specs.VersionLaws.{VersionsFollow, is_lower, StableLaw, LowerLaw, OrderedLaw, ArrangedContent, ArrangedAgrees}
use Rattle.fine_model.proofs.Trees.NodeLaws.{content-append, Agrees-append, Agrees-trans}
use Rattle.fine_model.proofs.Merging.NodesIn.{same_node, is_node-self, node_cases, is_node_below-self, nodes_total}
use Rattle.fine_model.proofs.Ordered.Order.{less}
use Rattle.fine_model.proofs.Trees.LeafLaw.{content-push}

-- ---- what arranged rows leave

pub arranged_content : ArrangedContent
arranged_content before rows sorted same id = content-append before sorted id ∙ ap (replay (content before id)) (same.of_each id) ∙ sym (content-append before rows id)

pub arranged_agrees : ArrangedAgrees
arranged_agrees live log rows sorted same agrees =
    Agrees-trans (log ++ rows) (live ++ rows) (live ++ sorted) (record { same = λ id whole. arranged_content live rows sorted same id }) (Agrees-append live log rows agrees)

-- ---- a stable sort by node

tie_is : (id : NodeId) (x row : Row) → x.node ≡ id → ties is_lower x row ≡ is_node id row.node
tie_is id x row e = ap (λ n. not (is_node_below n row.node) && not (is_node_below row.node n)) e ∙ by (is_node id row.node) refl
  where
    by : (b : Bool) → is_node id row.node ≡ b → (not (is_node_below id row.node) && not (is_node_below row.node id)) ≡ is_node id row.node
    by true h =
        let s = same_node id row.node h in
        ap (λ n. not (is_node_below id n) && not (is_node_below n id)) (sym s) ∙ ap (λ b. not b && not b) (is_node_below-self id) ∙ sym h
    by false h = elim (node_cases id row.node h) as (λ _. (not (is_node_below id row.node) && not (is_node_below row.node id)) ≡ is_node id row.node) [
      | inl a ↦ ap (λ b. not b && not (is_node_below row.node id)) a.0 ∙ sym h
      | inr a ↦ ap (λ b. not (is_node_below id row.node) && not b) a.0 ∙ ap (λ b. not b && false) a.1 ∙ sym h
    ]

pub stable_law : StableLaw
stable_law rows sorted stable = record { of_each = λ id. by id }
  where
    some : NodeId → Row
    some id = record { node = id; version = 0; rec = rec.Del [] }

    by : (id : NodeId) → rows_of id sorted ≡ rows_of id rows
    by id =
        sym (filter_agree (ties is_lower (some id)) (λ row. is_node id row.node) (λ row. tie_is id (some id) row refl) sorted)
        ∙ stable (some id) ∙ filter_agree (ties is_lower (some id)) (λ row. is_node id row.node) (λ row. tie_is id (some id) row refl) rows

-- ---- the order of arranged rows

-- a row that is not below another in the order of rows is not below it in the order of nodes
not_lower : (a b : Row) → is_row_below a b ≡ false → is_lower a b ≡ false
not_lower a b h = by (node_cmp a.node b.node) h
  where
    by : (o : Ordering) → is_lt (ordering_then o (nat_cmp a.version b.version)) ≡ false → is_lt o ≡ false
    by Less e = e
    by Equal e = refl
    by Greater e = refl

pub lower_law : LowerLaw
lower_law rows up k d low high = not_lower (get_or rows (k + 1) d) (get_or rows k d) (up k d low high)

-- versions that ascend from one on
unfoldable pub Ascend : ℕ → List Row → Type 0
Ascend v [] = Unit {0}
Ascend v (row ∷ rows) = (v < row.version) × Ascend row.version rows

pub versions_ascend : (before rows : List Row) → VersionsFollow before rows → (id : NodeId) → Ascend (content before id).1 (rows_of id rows)
unfolding Ascend step
versions_ascend before [] follow id = tt
versions_ascend before (row ∷ rows) follow id = by (is_node id row.node) refl (versions_ascend (before ++ row ∷ []) rows follow.1 id)
  where
    by : (b : Bool) → is_node id row.node ≡ b → Ascend (content (before ++ row ∷ []) id).1 (rows_of id rows) → Ascend (content before id).1 (cond b (row ∷ rows_of id rows) (rows_of id rows))
    by true e rest =
        let here = follow.0 in
        let at : (content before row.node).1 ≡ (content before id).1 = ap (λ n. (content before n).1) (sym (same_node id row.node e)) in (
          omega (arith, here, at),
          subst (λ c. Ascend c.1 (rows_of id rows)) (content-push before row id ∙ ap (λ b. cond b (step (content before id) row) (content before id)) e) rest,
        )
    by false e rest = subst (λ c. Ascend c.1 (rows_of id rows)) (content-push before row id ∙ ap (λ b. cond b (step (content before id) row) (content before id)) e) rest

-- rows of which none is lower than the one before
Up : List Row → Type 0
Up [] = Unit {0}
Up (a ∷ []) = Unit {0}
Up (a ∷ b ∷ rows) = (is_lower b a ≡ false) × Up (b ∷ rows)

up_from : (rows : List Row) → IsSortedBy is_lower rows → Up rows
unfolding Up
up_from [] sorted = tt
up_from (a ∷ []) sorted = tt
up_from (a ∷ b ∷ rows) sorted = (
  sorted 0 a (omega arith) (omega arith),
  up_from (b ∷ rows) (λ k d low high. let e : suc k + 1 ≡ suc (k + 1) = omega arith in subst (λ n. is_lower (get_or (a ∷ b ∷ rows) n d) (get_or (b ∷ rows) k d) ≡ false) e (sorted (suc k) d (omega arith) (omega (arith, high)))),
)

ordered : (rows : List Row) → Up rows → ((id : NodeId) → (v : ℕ) × Ascend v (rows_of id rows)) → is_ordered rows ≡ true
unfolding Up Ascend
ordered [] up each = refl
ordered (a ∷ []) up each = refl
ordered (a ∷ b ∷ rows) up each =
    ap (λ t. t && is_ordered (b ∷ rows)) (by (is_node a.node b.node) refl) ∙ ordered (b ∷ rows) up.1 (λ id. behind id (is_node id a.node) (each id))
  where
    behind : (id : NodeId) (t : Bool) → (v : ℕ) × Ascend v (cond t (a ∷ rows_of id (b ∷ rows)) (rows_of id (b ∷ rows))) → (v : ℕ) × Ascend v (rows_of id (b ∷ rows))
    behind id true h = (a.version, h.1.1)
    behind id false h = h

    both : is_node a.node b.node ≡ true → (v : ℕ) × Ascend v (rows_of a.node (a ∷ b ∷ rows)) → a.version < b.version
    both e h =
        let two : Ascend h.0 (a ∷ b ∷ rows_of a.node rows) =
        subst (Ascend h.0) (ap (λ t. cond t (a ∷ rows_of a.node (b ∷ rows)) (rows_of a.node (b ∷ rows))) (is_node-self a.node) ∙ ap (λ t. a ∷ cond t (b ∷ rows_of a.node rows) (rows_of a.node rows)) e) h.1 in
        two.1.0

    by : (t : Bool) → is_node a.node b.node ≡ t → is_row_below a b ≡ true
    by true e =
        ap (λ n. is_lt (ordering_then (node_cmp a.node n) (nat_cmp a.version b.version))) (sym (same_node a.node b.node e))
        ∙ ap (λ o. is_lt (ordering_then o (nat_cmp a.version b.version))) (tied_itself nodes_total a.node)
        ∙ ap (λ t. is_lt (cond t Less (cond (a.version == b.version) Equal Greater))) (lt-ltb a.version b.version (both e (each a.node)))
    by false e = elim (node_cases a.node b.node e) as (λ _. is_row_below a b ≡ true) [
      | inl p ↦ ap (λ o. is_lt (ordering_then o (nat_cmp a.version b.version))) (less (node_cmp a.node b.node) p.0)
      | inr p ↦ absurd (true≢false (sym p.0 ∙ up.0))
    ]

pub ordered_law : OrderedLaw
ordered_law before rows sorted follow same up =
    ordered sorted (up_from sorted up) (λ id. ((content before id).1, subst (Ascend (content before id).1) (sym (same.of_each id)) (versions_ascend before rows follow id)))
