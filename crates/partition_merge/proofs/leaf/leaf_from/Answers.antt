use Rattle.std.proofs.Common.{Bor, ◌++◌, List, ℕ, [], map, subst}
use Rattle.std.specs.Prelude.{IfSome}
use Rattle.fine_model.specs.declared.Node.TheVariants as node
use Rattle.fine_model.specs.Nodes.{Content, replay}
use Rattle.partition_merge.specs.Leaves.{LeadsTo}
use Rattle.partition_merge.proofs.Leaves.{next_rows, is_left}
use Rattle.partition_merge.proofs.leaf.leaf_from.Goals as goal

pub returns-in-Some-3 : goal.returns-in-Some-3
returns-in-Some-3 c mark also a b are more =
    let show : Bor (List ℕ) → List ℕ = λ t. t.now in
    let content : Content = replay (node.Leaf [], 0) (a ++ b) in
    let begun : LeadsTo mark content (map show c.in-Some.pairs) c.in-Some.version c.in-Some.left.now b = subst (λ r. IfSome r (λ begun. LeadsTo mark content (map show begun.0) begun.1 begun.2.now b)) c.in-Some.is (c.in_ok-pairs.ensures mark a b are) in
    let first : LeadsTo mark content (map show c.change_all.new.pairs) c.in-Some-2.version [] b = subst (λ r. IfSome r (λ last. LeadsTo mark content (map show c.change_all.new.pairs) last [] b)) c.in-Some-2.is (c.in_ok-version.ensures mark content b begun) in
    let next = next_rows mark also content (map show c.change_all.new.pairs) c.in-Some-2.version c.args.behind.now b first more in
    is_left also content (map show c.change_all-2.new.pairs) c.in-Some-3.version
    (subst (λ r. IfSome r (λ last. LeadsTo also content (map show c.change_all-2.new.pairs) last [] [])) c.in-Some-3.is (c.in_ok-version-2.ensures also content [] next))
