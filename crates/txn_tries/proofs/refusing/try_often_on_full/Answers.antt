use Rattle.hall_rooms.specs.Rooms.{beginning_of}
use Rattle.txn_tries.proofs.OnFull.{refuses_after, sees_after}
use Rattle.txn_tries.proofs.Underway.{rest_of}
use Rattle.txn_tries.proofs.refusing.try_often_on_full.Goals as goal

pub returns-in-Some : goal.returns-in-Some
returns-in-Some g c = let i = c.loop-tries.invariant in
    let h = c.in-Some.ensures in
    record {
      rest = rest_of c.args.hall.now c.loop-tries.pass.number c.args.pass.now.number c.try_on_full-tried.new.txn c.try_on_full-tried.new.pass i.sees.number h.rest;
      refuses = refuses_after (beginning_of c.args.hall.now) c.args.scripted.now c.args.pass.now c.loop-tries.pass c.try_on_full-tried.new.pass c.requires.idle.1 i.sees c.in-Some.end h.refuses;
    }

pub loop-tries-preserved : goal.loop-tries-preserved
loop-tries-preserved g c = let i = c.loop-tries.invariant in
    let m = c.in_default.ensures in
    record {
      rest = rest_of c.args.hall.now c.loop-tries.pass.number c.args.pass.now.number c.try_on_full-tried.new.txn c.try_on_full-tried.new.pass i.sees.number m.0;
      sees = sees_after (beginning_of c.args.hall.now) c.args.scripted.now c.args.pass.now c.loop-tries.pass c.try_on_full-tried.new.pass c.requires.idle.1 i.sees m.1;
    }
