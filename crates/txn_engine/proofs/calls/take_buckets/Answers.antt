use denote.Param.Send.{sendable}
use Rattle.std.proofs.Common.{subst, sym, ◌∙◌}
use Rattle.key_locks.specs.Locks.{LacksLock}
use Rattle.hall_rooms.specs.Rooms.{beginning_of}
use Rattle.hall_rooms.proofs.Crossing.{bucket_send, in_hall_send}
use Rattle.txn_engine.proofs.Taking.{all_or, one_by}
use Rattle.txn_engine.proofs.calls.take_buckets.Goals as goal

pub want_all-requires-send-B : goal.want_all-requires-send-B
want_all-requires-send-B g c κs within = search (sendable, bucket_send) depth 20

pub want_all-requires-send-R : goal.want_all-requires-send-R
want_all-requires-send-R g c κs within = let d = c.type_bounds.send-D in search (sendable, in_hall_send) depth 20

pub returns-then-is_scan-clause-locks : goal.returns-then-is_scan-clause-locks
returns-then-is_scan-clause-locks g c = all_or (beginning_of c.args.hall.now) c.args.call.now c.args.locks.now c.want_all.new.self c.args.pass.now c.want_all.new.pass (sym c.is_scan.ensures ∙ c.if-is_scan.true) c.want_all.result
    c.want_all.ensures.all c.want_all.ensures.gathers c.want_all.ensures.conflict

pub want-requires-send-B : goal.want-requires-send-B
want-requires-send-B g c κs within = search (sendable, bucket_send) depth 20

pub want-requires-send-R : goal.want-requires-send-R
want-requires-send-R g c κs within = let d = c.type_bounds.send-D in search (sendable, in_hall_send) depth 20

pub returns-clause-locks : goal.returns-clause-locks
returns-clause-locks g c =
    one_by (beginning_of c.args.hall.now) c.args.call.now c.args.locks.now c.has_bucket.new.locks c.want.new.self c.args.pass.now c.want.new.pass c.key_of-key.result.now c.if-has_bucket.ensures.same c.key_of-key.ensures (sym c.is_scan.ensures ∙ c.if-is_scan.false)
    c.requires.pass.1 (subst (LacksLock c.args.locks.now) c.bucket_of.ensures.value c.if-has_bucket.ensures.has) c.want.result c.want.ensures.wants c.want.ensures.conflict c.want.ensures.same
