use Rattle.std.proofs.Common.{◌∙◌}
use Rattle.plain_model.proofs.Orders.{unset_ascends}
use Rattle.plain_model.proofs.Places.{remove_there, keep_absent}
use Rattle.plain_model.proofs.store.remove_pair.Goals as goal

pub returns-then-stands_at-clause-pairs : goal.returns-then-stands_at-clause-pairs
returns-then-stands_at-clause-pairs c =
    let here = c.stands_at.ensures.here c.if-stands_at.true in
    c.remove-old.ensures.items ∙ remove_there c.args.key.now c.args.pairs.now c.place_of-i.result c.requires c.place_of-i.ensures here.0 here.1

pub returns-then-stands_at-clause-order : goal.returns-then-stands_at-clause-order
returns-then-stands_at-clause-order c =
    let here = c.stands_at.ensures.here c.if-stands_at.true in
    unset_ascends c.args.pairs.now c.remove-old.new.self c.args.key.now c.requires
    (c.remove-old.ensures.items ∙ remove_there c.args.key.now c.args.pairs.now c.place_of-i.result c.requires c.place_of-i.ensures here.0 here.1)

pub returns-else-stands_at-clause-pairs : goal.returns-else-stands_at-clause-pairs
returns-else-stands_at-clause-pairs c = keep_absent c.args.key.now c.args.pairs.now c.place_of-i.result c.requires c.place_of-i.ensures (c.stands_at.ensures.above c.if-stands_at.false)
