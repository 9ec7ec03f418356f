use Rattle.std.proofs.Common.{Bor, ◌≡◌, List, ℕ, [], map, subst, sym, length, eqb-true}
use Rattle.std.specs.Prelude.{IfOk, IfSome}
use Rattle.fine_model.specs.declared.Node.TheVariants as node
use Rattle.fine_model.specs.declared.Row.{Row}
use Rattle.fine_model.specs.Nodes.{replay}
use Rattle.partition_merge.specs.Leaves.{IsLeft}
use Rattle.partition_merge.proofs.Leaves.{newer_alone}
use Rattle.partition_merge.proofs.leaf.leaf_of.Goals as goal

pub returns-then-is_empty : goal.returns-then-is_empty
returns-then-is_empty c mark also a b are more =
    let show : Bor (List ℕ) → List ℕ = λ t. t.now in
    let none : length c.args.older.now ≡ 0 = eqb-true (length c.args.older.now) 0 (sym c.if-is_empty.ensures) in
    subst (λ (own : List Row). IfOk c.leaf_from.result (λ r. IfSome r (λ leaf. IsLeft (replay (node.Leaf [], 0) own) (map show leaf.0) leaf.1)))
    (newer_alone mark a b c.args.older.now are none) (c.leaf_from.ensures also mark b a more are)
