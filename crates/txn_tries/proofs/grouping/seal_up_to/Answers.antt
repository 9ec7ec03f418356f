use Rattle.hall_rooms.specs.Rooms.{beginning_of}
use Rattle.lane_laws.specs.Lanes.{InNeed}
use Rattle.txn_tries.proofs.Grouped.{seals_after, seals_more, seals_none}
use Rattle.txn_tries.proofs.grouping.seal_up_to.Goals as goal

pub loop-init : goal.loop-init
loop-init g c = record { more = (tt, tt); idle = c.requires.idle; seals = seals_none c.args.options.now.group (beginning_of c.args.hall.now) c.args.pass.now }

pub returns-then-is_sealed-clause-seals : goal.returns-then-is_sealed-clause-seals
returns-then-is_sealed-clause-seals g c = let e = c.in-Ok.ensures in
    (seals_more c.args.options.now.group (beginning_of c.args.hall.now) c.args.pass.now c.loop.pass c.seal_once.new.pass c.loop.invariant.seals e.seals.0, e.seals.1 c.if-is_sealed.true)

pub loop-preserved : goal.loop-preserved
loop-preserved g c = let e = c.in-Ok.ensures in
    record { more = (tt, tt); idle = e.idle; seals = seals_more c.args.options.now.group (beginning_of c.args.hall.now) c.args.pass.now c.loop.pass c.seal_once.new.pass c.loop.invariant.seals e.seals.0 }

pub returns-in-Err-clause-seals : goal.returns-in-Err-clause-seals
returns-in-Err-clause-seals g c = let i = c.loop.invariant in
    let e = c.in-Err.ensures in
    let x = beginning_of c.args.hall.now in
    (seals_after c.args.options.now.group x c.args.pass.now c.loop.pass c.seal_once.new.pass i.seals (λ q. InNeed c.args.options.now.group x q (Unit {0})) e.seals.0, e.seals.1)
