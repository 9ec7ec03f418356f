use Rattle.std.proofs.Common.{Bor, ◌<◌, ℕ, List, length, map, sym, subst, arith}
use Rattle.fine_model.specs.Map.{set}
use Rattle.partition_merge.specs.Leaves.{SpellsLeaf}
use Rattle.partition_merge.proofs.Leaves.{in_order, put_there, put_more}
use Rattle.partition_merge.proofs.leaf.put.Goals as goal

pub returns-in-Ok : goal.returns-in-Ok
returns-in-Ok c old key value leaf fits is whole =
    let show : Bor (List ℕ) → List ℕ = λ t. t.now in
    let xs = c.args.pairs.now in
    let found = c.in-Ok.ensures.place (in_order show xs old leaf) in
    subst (λ (ys : List (Bor (List ℕ))). SpellsLeaf (map show ys) (set old key value)) (sym c.replace-old.ensures.items)
    (put_there show xs old key value c.args.pair leaf fits is c.key_of.result.now c.in-Ok.i c.key_of.ensures found)

pub returns-in_ok-insert-in-Err : goal.returns-in_ok-insert-in-Err
returns-in_ok-insert-in-Err c old key value leaf fits is whole =
    let show : Bor (List ℕ) → List ℕ = λ t. t.now in
    let xs = c.args.pairs.now in
    let found = c.in-Err.ensures.place (in_order show xs old leaf) in
    let room : length xs < 32 = omega (arith, c.len.ensures, c.if-len-ge-MOST_IN_NODE.false) in
    subst (λ (ys : List (Bor (List ℕ))). SpellsLeaf (map show ys) (set old key value)) (sym c.in_ok-insert-in-Err.ensures.ok)
    (put_more show xs old key value c.args.pair leaf fits is c.key_of.result.now c.in-Err.i c.key_of.ensures found room)
