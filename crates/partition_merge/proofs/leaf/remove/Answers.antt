use Rattle.std.proofs.Common.{Bor, List, ℕ, map, subst, sym}
use Rattle.fine_model.specs.Map.{unset}
use Rattle.partition_merge.specs.Leaves.{SpellsLeaf}
use Rattle.partition_merge.proofs.Leaves.{in_order, removed_none, removed_there}
use Rattle.partition_merge.proofs.leaf.remove.Goals as goal

pub returns-in-Ok : goal.returns-in-Ok
returns-in-Ok c old name leaf is =
    let show : Bor (List ℕ) → List ℕ = λ t. t.now in
    let xs = c.args.pairs.now in
    subst (λ (ys : List (Bor (List ℕ))). SpellsLeaf (map show ys) (unset old name)) (sym c.remove-old.ensures.items)
    (removed_there show xs old name c.args.key.now c.key_of.result.now c.in-Ok.i leaf is c.key_of.ensures (c.in-Ok.ensures.place (in_order show xs old leaf)))

pub returns-in-Err : goal.returns-in-Err
returns-in-Err c old name leaf is =
    let show : Bor (List ℕ) → List ℕ = λ t. t.now in
    let xs = c.args.pairs.now in
    removed_none show xs old name c.args.key.now c.key_of.result.now c.in-Err.field-0 leaf is c.key_of.ensures (c.in-Err.ensures.place (in_order show xs old leaf))
