use Rattle.std.proofs.Common.{Bor, ◌++◌, List, ℕ, [], map, subst, sym}
use Rattle.fine_model.specs.declared.Node.TheVariants as node
use Rattle.fine_model.specs.Nodes.{replay}
use Rattle.std.specs.Prelude.{IfSome}
use Rattle.partition_merge.specs.Leaves.{LeadsTo, SpellsLeaf}
use Rattle.partition_merge.proofs.Leaves.{begins_empty, begins_image}
use Rattle.partition_merge.proofs.leaf.begin.Goals as goal

pub returns-in-Some-2 : goal.returns-in-Some-2
returns-in-Some-2 c mark own more are =
    let show : Bor (List ℕ) → List ℕ = λ t. t.now in
    begins_image mark own more c.args.rows.now c.in-Some.kind c.in-Some.version c.in-Some.text.now c.in-Some.behind.now (map show c.in-Some-2.pairs) are c.in-Some.ensures.shorter c.in-Some.ensures.read c.if-kind-ne-LEAF_IMAGE.false
    (λ pairs fits is. subst (λ r. IfSome r (λ (texts : List (Bor (List ℕ))). SpellsLeaf (map show texts) pairs)) c.in-Some-2.is (c.in_ok-pairs.ensures pairs fits is))

pub returns-then-kind-eq-PUT : goal.returns-then-kind-eq-PUT
returns-then-kind-eq-PUT c mark own more are =
    let show : Bor (List ℕ) → List ℕ = λ t. t.now in
    subst (λ (xs : List (Bor (List ℕ))). LeadsTo mark (replay (node.Leaf [], 0) (own ++ more)) (map show xs) 0 c.args.rows.now more) (sym c.in_ok-no_pairs.ensures) (begins_empty mark own more c.args.rows.now are)
