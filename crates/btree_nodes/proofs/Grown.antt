-- What setting a pair pushes, from a node down.
use Rattle.std.proofs.Common.{◌≡◌, ℕ, zero, suc, ◌-◌, ◌<◌, List, length, take, drop, Option, None, Result, Ok, Err, refl, ap, ◌∙◌, arith}
use Rattle.std.specs.Prelude.{IfOk}
use Rattle.std.proofs.lemmas.List.{take_all, length-drop}
use Rattle.fine_model.specs.declared.Node.{Node}
use Rattle.fine_model.specs.declared.Node.TheVariants as node
use Rattle.fine_model.specs.declared.Row.{Row}
use Rattle.fine_model.specs.Map.{Pair}
use Rattle.fine_model.specs.Nodes.{Content}
use Rattle.fine_model.specs.Pushed.{Growth, child_for, grown_inner, growth}
use Rattle.btree_nodes.specs.Growths.{IsNoInner}

pub if_ok : {A E : Type 0} (P Q : A → Type 0) (r : Result A E) → ((a : A) → P a → Q a) → IfOk r P → IfOk r Q
if_ok P Q (Ok a) on h = on a h
if_ok P Q (Err e) on h = tt

-- the items from a place on
pub rest_from : {A : Type 0} (n : ℕ) (xs : List A) → take (length xs - n) (drop n xs) ≡ drop n xs
rest_from n xs = let l = length-drop n xs in take_all (length xs - n) (drop n xs) (omega (arith, l))

-- a node that is no inner one takes nothing
pub no_inner : (bucket number version : ℕ) (n : Node) → IsNoInner n → (rows : List Row) (next : ℕ) (split : Option (List ℕ × ℕ)) → grown_inner bucket number version n rows next split ≡ record { rows = rows; next = next; split = None }
unfolding grown_inner
no_inner bucket number version (node.Inner seps kids) none rows next split = absurd none
no_inner bucket number version (node.Leaf pairs) none rows next split = refl
no_inner bucket number version (node.Head root next' depth) none rows next split = refl
no_inner bucket number version node.Broken none rows next split = refl

-- one node on top of what is pushed below it
pub grow_on : (bucket : ℕ) (nodes : ℕ → Content) (next : ℕ) (pair : Pair) (number height : ℕ) → 0 < height → (below : Growth) → below ≡ growth (height - 1) bucket nodes next pair (child_for pair.0 (nodes number).0)
    → grown_inner bucket number (nodes number).1 (nodes number).0 below.rows below.next below.split ≡ growth height bucket nodes next pair number
unfolding growth
grow_on bucket nodes next pair number zero above below is = absurd (omega (arith, above))
grow_on bucket nodes next pair number (suc height) above below is =
    let e : suc height - 1 ≡ height = omega arith in
    ap (λ g. grown_inner bucket number (nodes number).1 (nodes number).0 g.rows g.next g.split) (is ∙ ap (λ h. growth h bucket nodes next pair (child_for pair.0 (nodes number).0)) e)
