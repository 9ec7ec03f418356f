use denote.Param.Send.{sendable}
use Rattle.hall_rooms.proofs.Crossing.{bucket_send}
use Rattle.txn_engine.proofs.Taking.{set_same}
use Rattle.txn_engine.proofs.calls.has_bucket.Goals as goal

pub bucket-requires-send-B : goal.bucket-requires-send-B
bucket-requires-send-B c κs = search (sendable, bucket_send) depth 20

pub returns-in-Some-clause-same : goal.returns-in-Some-clause-same
returns-in-Some-clause-same c = set_same c.args.locks.now c.args.bucket _ c.in-Some.ensures.value
