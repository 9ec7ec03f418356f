-- A row that changes the leaf where its key belongs keeps the tree fit, and changes its pairs.
use Rattle.std.proofs.Common.{◌≡◌, ◌≢◌, ℕ, ◌+◌, ◌-◌, ◌<◌, ◌==◌, nat_eq, Bool, true, false, cond, ◌&&◌, ◌||◌, IsTrue, List, [], ◌∷◌, ◌++◌, refl, sym, ap, ◌∙◌, subst, true≢false, arith, eqb-true, eq-eqb, ne_eqb}
use Rattle.std.specs.List.{AllByRecursion, list_any}
use Rattle.fine_model.specs.Types.{NodeId, Rec, Row}
use Rattle.fine_model.specs.Types.node
use Rattle.fine_model.specs.Map.{Pair}
use Rattle.fine_model.specs.Nodes.{Content, step_node, step, replay, is_node, content}
use Rattle.fine_model.specs.Trees.{whole, IsTree, nodes_of, pairs_of, pairs_under, reached, is_distinct, is_key_within, bucket_of}
use Rattle.fine_model.specs.Pushed.{row_of, leaf_for}
use Rattle.fine_model.proofs.Trees.NodeLaws.{content-append}
use Rattle.fine_model.proofs.Trees.LeafUpdate.{IsIn, IsLocal, Updated, updated}

-- a node after one more row
pub content-push : (rows : List Row) (row : Row) (id : NodeId) → content (rows ++ row ∷ []) id ≡ cond (is_node id row.node) (step (content rows id) row) (content rows id)
unfolding replay
content-push rows row id = content-append rows (row ∷ []) id ∙ by (is_node id row.node)
  where
    by : (b : Bool) → replay (content rows id) (cond b (row ∷ []) []) ≡ cond b (step (content rows id) row) (content rows id)
    by true = refl
    by false = refl

below_next : (n next : ℕ) (ns : List ℕ) → AllByRecursion (λ m. m < next) ns → IsIn n ns → n < next
below_next n next [] all here = absurd (true≢false (sym here))
below_next n next (m ∷ ns) all here = by (nat_eq n m) refl here (below_next n next ns all.1)
  where
    by : (b : Bool) → nat_eq n m ≡ b → (b || list_any (nat_eq n) ns) ≡ true → (IsIn n ns → n < next) → n < next
    by true same here rest = subst (λ k. k < next) (sym (eqb-true n m same)) all.0
    by false other here rest = rest here

module _ (rows : List Row) (bucket root next depth : ℕ) (key : List ℕ) (change : Rec) (f : List Pair → List Pair) (local : IsLocal bucket key f)
    (tree : IsTree bucket (nodes_of rows bucket) root next depth) (of_bucket : (bucket_of key == bucket) ≡ true) where
  abbrev old : ℕ → Content
  old = nodes_of rows bucket

  abbrev at : ℕ
  at = leaf_for (depth - 1) old key root

  abbrev row : Row
  row = row_of bucket at ((old at).1 + 1) change

  abbrev new : ℕ → Content
  new = nodes_of (rows ++ row ∷ []) bucket

  module _ (changes : step_node (old at) ((old at).1 + 1) change ≡ node.Leaf (f (pairs_of (old at).0))) where
    pub there : new at ≡ (node.Leaf (f (pairs_of (old at).0)), (old at).1 + 1)
    unfolding step
    there =
        content-push rows row (record { bucket = bucket; number = at })
        ∙ ap (λ b. cond b (step (old at) row) (old at)) (ap (λ b. b && (at == at)) (eq-eqb bucket bucket refl) ∙ eq-eqb at at refl)
        ∙ ap (λ n. (n, (old at).1 + 1)) changes

    pub not_there : (n : ℕ) → n ≢ at → new n ≡ old n
    not_there n other =
        content-push rows row (record { bucket = bucket; number = n })
        ∙ ap (λ b. cond b (step (old n) row) (old n)) (ap (λ b. b && (n == at)) (eq-eqb bucket bucket refl) ∙ ne_eqb n at other)

    whole_key : is_key_within bucket whole key ≡ true
    whole_key = of_bucket

    done : Updated bucket old new at key f ((old at).1 + 1) local there not_there of_bucket (depth - 1) whole root
    done = updated bucket old new at key f ((old at).1 + 1) local there not_there of_bucket (depth - 1) whole root tree.subtree tree.distinct refl whole_key

    -- the tree is fit
    pub change_fit : IsTree bucket new root next depth
    change_fit = record {
      deep = tree.deep;
      subtree = done.subtree;
      distinct = subst (λ ns. IsTrue (is_distinct ns)) (sym done.same_reached) tree.distinct;
      below = subst (λ ns. AllByRecursion (λ number. number < next) ns) (sym done.same_reached) tree.below;
      unused = λ number above. not_there number (λ e. let low : at < next = below_next at next (reached (depth - 1) old root) tree.below done.here in absurd (omega (arith, low, above, e))) ∙ tree.unused number above;
    }

    -- and its pairs are changed
    pub change_pairs : pairs_under (depth - 1) new root ≡ f (pairs_under (depth - 1) old root)
    change_pairs = done.pairs_changed
