use denote.Param.Send.{sendable}
use Rattle.std.proofs.Common.{refl}
use Rattle.hall_rooms.specs.Rooms.{beginning_of}
use Rattle.hall_rooms.proofs.Crossing.{bucket_send, in_hall_send}
use Rattle.txn_engine.proofs.Taking.{stopped, taken_for, there_for, there_stopped}
use Rattle.txn_engine.proofs.txn.Txn.take_for.Goals as goal

pub refresh-requires-send-B : goal.refresh-requires-send-B
refresh-requires-send-B g c κs within = search (sendable, bucket_send) depth 20

pub refresh-requires-send-R : goal.refresh-requires-send-R
refresh-requires-send-R g c κs within = let d = c.type_bounds.send-D in search (sendable, in_hall_send) depth 20

pub returns-in-Err-clause-takes : goal.returns-in-Err-clause-takes
returns-in-Err-clause-takes g c =
    let e = c.in-Err.ensures in
    stopped (beginning_of c.args.hall.now) c.args.call.now c.args.self.now _ c.args.pass.now c.take_buckets.new.pass c.requires.pass.lawful e.pass.0.lawful e.pass.1 c.requires.open refl e.pass.2 c.in-Err.conflict e.locks

pub returns-clause-takes : goal.returns-clause-takes
returns-clause-takes g c =
    let e = c.in_default.ensures in
    let r = c.refresh.ensures in
    taken_for (beginning_of c.args.hall.now) c.args.call.now c.args.self.now _ c.args.pass.now c.take_buckets.new.pass c.requires.pass.lawful e.pass.0.lawful e.pass.1 c.requires.open refl e.pass.2 e.locks
    c.refresh.new.pass r.pass.0.lawful r.pass.1 c.refresh.result r.answer r.ahead

pub returns-clause-there : goal.returns-clause-there
returns-clause-there g c =
    let e = c.in_default.ensures in
    let r = c.refresh.ensures in
    there_for (beginning_of c.args.hall.now) c.args.call.now c.args.self.now c.take_buckets.new.locks c.args.pass.now c.take_buckets.new.pass c.refresh.new.pass c.requires.open e.pass.2 e.locks c.refresh.result r.answer

pub returns-in-Err-clause-there : goal.returns-in-Err-clause-there
returns-in-Err-clause-there g c = there_stopped (beginning_of c.args.hall.now) c.args.call.now c.args.self.now c.take_buckets.new.locks c.args.pass.now c.take_buckets.new.pass c.in-Err.conflict c.requires.open c.in-Err.ensures.locks
