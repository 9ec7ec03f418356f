use Rattle.std.proofs.Common.{◌∙◌}
use Rattle.plain_model.proofs.Orders.{set_ascends}
use Rattle.plain_model.proofs.Places.{set_there, insert_absent}
use Rattle.plain_model.proofs.store.put_pair.Goals as goal

pub returns-then-stands_at-clause-ok : goal.returns-then-stands_at-clause-ok
returns-then-stands_at-clause-ok c =
    let here = c.stands_at.ensures.here c.if-stands_at.true in
    c.replace-old.ensures.items ∙ set_there c.args.key c.args.pairs.now c.place_of-i.result c.requires c.place_of-i.ensures here.0 c.args.value here.1

pub returns-then-stands_at-clause-order : goal.returns-then-stands_at-clause-order
returns-then-stands_at-clause-order c =
    let here = c.stands_at.ensures.here c.if-stands_at.true in
    set_ascends c.args.pairs.now c.replace-old.new.self c.args.key c.args.value c.requires
    (c.replace-old.ensures.items ∙ set_there c.args.key c.args.pairs.now c.place_of-i.result c.requires c.place_of-i.ensures here.0 c.args.value here.1)

pub returns-in-Ok-clause-ok : goal.returns-in-Ok-clause-ok
returns-in-Ok-clause-ok c = c.in-Ok.ensures.ok ∙ insert_absent c.args.key c.args.pairs.now c.place_of-i.result c.requires c.place_of-i.ensures c.args.value (c.stands_at.ensures.above c.if-stands_at.false)

pub returns-in-Ok-clause-order : goal.returns-in-Ok-clause-order
returns-in-Ok-clause-order c =
    set_ascends c.args.pairs.now c.insert.new.self c.args.key c.args.value c.requires
    (c.in-Ok.ensures.ok ∙ insert_absent c.args.key c.args.pairs.now c.place_of-i.result c.requires c.place_of-i.ensures c.args.value (c.stands_at.ensures.above c.if-stands_at.false))
