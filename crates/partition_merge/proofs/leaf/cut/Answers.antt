use Rattle.std.proofs.Common.{Bor, List, ℕ, map, subst, sym}
use Rattle.fine_model.specs.Map.{pairs_below}
use Rattle.partition_merge.specs.Leaves.{SpellsLeaf}
use Rattle.partition_merge.proofs.Leaves.{cut_leaf, in_order}
use Rattle.partition_merge.proofs.leaf.cut.Goals as goal

pub returns-in-Ok : goal.returns-in-Ok
returns-in-Ok c old name leaf is =
    let show : Bor (List ℕ) → List ℕ = λ t. t.now in
    let xs = c.args.pairs.now in
    let found = c.in-Ok.ensures.place (in_order show xs old leaf) in
    subst (λ (ys : List (Bor (List ℕ))). SpellsLeaf (map show ys) (pairs_below name old)) (sym c.truncate.ensures)
    (cut_leaf show xs old name c.args.key.now c.key_of.result.now c.in-Ok.i leaf is c.key_of.ensures found.lower)

pub returns-in-Err : goal.returns-in-Err
returns-in-Err c old name leaf is =
    let show : Bor (List ℕ) → List ℕ = λ t. t.now in
    let xs = c.args.pairs.now in
    let found = c.in-Err.ensures.place (in_order show xs old leaf) in
    subst (λ (ys : List (Bor (List ℕ))). SpellsLeaf (map show ys) (pairs_below name old)) (sym c.truncate-in-Err.ensures)
    (cut_leaf show xs old name c.args.key.now c.key_of.result.now c.in-Err.i leaf is c.key_of.ensures found.lower)
