-- What setting a key pushes where its leaf has room for it.
use Rattle.std.proofs.Common.{◌≡◌, ℕ, zero, suc, ◌+◌, ◌-◌, ◌<◌, ◌≤◌, eq-eqb, Bool, true, if◌then◌else◌, List, [], ◌∷◌, ◌++◌, None, Some, Ok, Err, refl, sym, ap, subst, ◌∙◌}
use Rattle.fine_model.specs.declared.Call.TheVariants as call
use Rattle.fine_model.specs.declared.Node.{Node}
use Rattle.fine_model.specs.declared.Node.TheVariants as node
use Rattle.fine_model.specs.declared.Rec.TheVariants as rec
use Rattle.fine_model.specs.declared.Row.{Row}
use Rattle.fine_model.specs.declared.Why.TheVariants as why
use Rattle.fine_model.specs.Map.{Pair}
use Rattle.fine_model.specs.Nodes.{Content}
use Rattle.fine_model.specs.Pushed.{Growth, Push, row_of, child_for, leaf_for, split_leaf, key_at, grown_leaf, grown_inner, growth, with_head, set_push, call_push, within_limits}
use Rattle.fine_model.specs.RowBytes.{greatest}
use Rattle.fine_model.specs.Trees.{pairs_of}
use Rattle.node_cache.specs.Cache.{Cache}
use Rattle.node_cache.specs.Given.{given}
use Rattle.btree_nodes.specs.declared.tree.Path.{Path}
use Rattle.btree_nodes.specs.Trees.{IsPath, first_over}
use Rattle.btree_nodes.specs.Growths.{has_room}
use Rattle.btree_nodes.specs.Calls.{pushed_in}
use Rattle.btree_nodes.proofs.LeafPush.{leaf_row, one_within, one_over, one_first}

-- where nothing was split below, nothing is above
above_none : (bucket number version : ℕ) (n : Node) (rows : List Row) (next : ℕ) → grown_inner bucket number version n rows next None ≡ record { rows = rows; next = next; split = None }
unfolding grown_inner
above_none bucket number version (node.Inner seps kids) rows next = refl
above_none bucket number version (node.Leaf pairs) rows next = refl
above_none bucket number version (node.Head root unused depth) rows next = refl
above_none bucket number version node.Broken rows next = refl

module _ (bucket : ℕ) (nodes : ℕ → Content) (next : ℕ) (pair : Pair) where
  -- the one row of a leaf
  abbrev one_row : ℕ → Growth
  one_row leaf = record { rows = row_of bucket leaf ((nodes leaf).1 + 1) (rec.Put pair.0 pair.1) ∷ []; next = next; split = None }

  leaf_growth : (height number : ℕ) → has_room (pairs_of (nodes (leaf_for height nodes pair.0 number)).0) pair.0 ≡ true → growth height bucket nodes next pair number ≡ one_row (leaf_for height nodes pair.0 number)
  unfolding growth leaf_for grown_leaf
  leaf_growth zero number room = ap (λ t. if t then one_row number else split_leaf bucket number (nodes number).1 next pair (pairs_of (nodes number).0) (key_at (pairs_of (nodes number).0) 16)) room
  leaf_growth (suc height) number room =
      ap (λ (g : Growth). grown_inner bucket number (nodes number).1 (nodes number).0 g.rows g.next g.split) (leaf_growth height (child_for pair.0 (nodes number).0) room)
      ∙ above_none bucket number (nodes number).1 (nodes number).0 (one_row (leaf_for height nodes pair.0 (child_for pair.0 (nodes number).0))).rows next

module _ (b : Cache) (key value : List ℕ) (path : Path) (is : IsPath b key path) (room : has_room (pairs_of (given b path.leaf).0) key ≡ true) where
  grown_one : growth (path.depth - 1) b.bucket (given b) path.next (key, value) path.root ≡ one_row b.bucket (given b) path.next (key, value) path.leaf
  grown_one = leaf_growth b.bucket (given b) path.next (key, value) (path.depth - 1) path.root (subst (λ n. has_room (pairs_of (given b n).0) key ≡ true) is.leaf room)
      ∙ ap (one_row b.bucket (given b) path.next (key, value)) (sym is.leaf)

  put_push : call_push b.bucket (given b) (call.Put key value) ≡ record { rows = leaf_row b key path is (rec.Put key value) ∷ []; next = path.next; depth = path.depth }
  unfolding call_push set_push with_head
  put_push = ap (set_push b.bucket (given b) (key, value)) is.head
      ∙ ap (λ (g : Growth). with_head b.bucket (given b 0).1 path.root path.next path.depth g.rows g.next g.split) grown_one
      ∙ ap (λ t. by_next t) (eq-eqb path.next path.next refl)
    where
      row : Row
      row = leaf_row b key path is (rec.Put key value)

      by_next : Bool → Push
      by_next t = record { rows = if t then row ∷ [] else (row ∷ []) ++ row_of b.bucket 0 ((given b 0).1 + 1) (rec.HeadImage path.root path.next path.depth) ∷ []; next = path.next; depth = path.depth }

  pub put_one : (given b path.leaf).1 + 1 ≤ greatest → pushed_in b (call.Put key value) ≡ Ok (leaf_row b key path is (rec.Put key value) ∷ [])
  put_one small = ap within_limits put_push ∙ one_within path.next path.depth is.small is.deep.1 (leaf_row b key path is (rec.Put key value)) small

  pub put_over : greatest < (given b path.leaf).1 + 1 → pushed_in b (call.Put key value) ≡ Err why.Number
  put_over large = ap within_limits put_push ∙ one_over path.next path.depth is.small is.deep.1 (leaf_row b key path is (rec.Put key value)) large

  pub put_first : greatest < (given b path.leaf).1 + 1 → first_over (call_push b.bucket (given b) (call.Put key value)).rows ≡ Some (leaf_row b key path is (rec.Put key value)).node
  put_first large = ap (λ (p : Push). first_over p.rows) put_push ∙ one_first (leaf_row b key path is (rec.Put key value)) large
