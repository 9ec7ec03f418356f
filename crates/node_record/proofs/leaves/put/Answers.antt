use Rattle.std.proofs.Common.{◌≡◌, ◌≤◌, ◌∙◌, ap, sym, length, arith, slice_set, length-set}
use Rattle.fine_model.specs.Map.{set}
use Rattle.fine_model.specs.declared.Node.TheVariants as node
use Rattle.fine_model.proofs.Trees.GrowLeaf.{fits_leaf}
use Rattle.node_record.proofs.Changes.{set_there}
use Rattle.node_record.proofs.leaves.put.Goals as goal

pub returns-in_ok-copy-in-Ok-2-clause-ok : goal.returns-in_ok-copy-in-Ok-2-clause-ok
returns-in_ok-copy-in-Ok-2-clause-ok c =
    let pairs = c.args.pairs.now in
    let key = c.args.key.now in
    let value = c.args.value.now in
    let there = set_there key pairs c.in-Ok.i c.in-Ok.ensures value in
    let made : c.replace-old.new.self ≡ set pairs key value =
    c.replace-old.ensures.items ∙ ap (slice_set pairs c.in-Ok.i) (λ j. (c.in_ok-copy-in-Ok.ensures j, c.in_ok-copy-in-Ok-2.ensures j)) ∙ there in
    let few : length (set pairs key value) ≤ 32 = omega (arith, ap length there, length-set pairs c.in-Ok.i (key, value), c.requires.few) in
    ap node.Leaf made ∙ sym (fits_leaf (set pairs key value) few)
