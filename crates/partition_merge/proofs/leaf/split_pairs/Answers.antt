use Rattle.std.proofs.Common.{Bor, List, ℕ, sym, map, length, eqb-true, subst}
use Rattle.partition_merge.proofs.Leaves.{PairsLeft, first_pairs, more_pairs, all_pairs}
use Rattle.partition_merge.proofs.leaf.split_pairs.Goals as goal

pub loop-left-init : goal.loop-left-init
loop-left-init c pairs fits is =
    let show : Bor (List ℕ) → List ℕ = λ t. t.now in
    subst (λ (xs : List (Bor (List ℕ))). PairsLeft pairs (map show xs) c.in-Some.left.now) (sym c.in_ok-pairs.ensures) (first_pairs pairs c.args.text.now c.in-Some.left.now c.in-Some.field-0-0.now fits is c.in-Some.ensures.cases.0)

pub loop-left-preserved : goal.loop-left-preserved
loop-left-preserved c pairs fits is =
    let show : Bor (List ℕ) → List ℕ = λ t. t.now in
    more_pairs show pairs c.loop-left.pairs c.push.new.self c.in-Some-split_pair.pair c.loop-left.left.now c.in-Some-split_pair.behind.now (c.loop-left.invariant pairs fits is) c.in-Some-split_pair.ensures.shorter c.in-Some-split_pair.ensures.read c.in_ok-push.ensures.ok

pub returns : goal.returns
returns c pairs fits is =
    let show : Bor (List ℕ) → List ℕ = λ t. t.now in
    all_pairs pairs (map show c.loop-left.pairs) c.loop-left.left.now fits (c.loop-left.invariant pairs fits is) (eqb-true (length c.loop-left.left.now) 0 (sym c.loop-left-test.ensures))
