use Rattle.std.proofs.Common.{refl}
use Rattle.hall_rooms.specs.Rooms.{beginning_of}
use Rattle.txn_tries.specs.declared.turn.TurnEnd.TheVariants as turn_end
use Rattle.txn_tries.proofs.Finished.{unplaced_finishes}
use Rattle.txn_tries.proofs.RoomRefusals.{waits_none}
use Rattle.txn_tries.proofs.Trying.{turn_after}
use Rattle.txn_tries.proofs.Underway.{rest_of}
use Rattle.txn_tries.proofs.Waiting.{waits_on}
use Rattle.txn_tries.proofs.turn.try_often.Goals as goal

pub loop-tries-init : goal.loop-tries-init
loop-tries-init g c = record { rest = record { idle = (c.requires.idle, refl); blank = c.requires.blank }; waits = waits_none c.args.options.now.group c.args.scripted.now (beginning_of c.args.hall.now) c.args.pass.now }

pub returns-in-Some : goal.returns-in-Some
returns-in-Some g c = let i = c.loop-tries.invariant in
    turn_after c.args.hall.now c.args.options.now.group c.args.scripted.now c.args.turn c.try_turn-tried.new.txn c.args.pass.now c.loop-tries.pass c.try_turn-tried.new.pass i.waits c.in-Some.end c.in-Some.ensures

pub loop-tries-preserved : goal.loop-tries-preserved
loop-tries-preserved g c = let i = c.loop-tries.invariant in
    let m = c.in_default.ensures in
    record {
      rest = rest_of c.args.hall.now c.loop-tries.pass.number c.args.pass.now.number c.try_turn-tried.new.txn c.try_turn-tried.new.pass i.waits.number m.0;
      waits = waits_on c.args.options.now.group c.args.scripted.now (beginning_of c.args.hall.now) c.args.pass.now c.loop-tries.pass c.try_turn-tried.new.pass i.waits m.1;
    }

pub returns : goal.returns
returns g c = let i = c.loop-tries.invariant in
    unplaced_finishes c.args.hall.now c.args.options.now.group c.args.scripted.now c.args.turn c.loop-tries.txn c.args.pass.now c.loop-tries.pass turn_end.Tried i.rest i.waits
