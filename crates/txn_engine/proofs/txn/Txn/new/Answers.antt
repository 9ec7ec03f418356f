use denote.Param.Send.{sendable}
use Rattle.std.proofs.Common.{ap, slice_get, ◌∙◌}
use Rattle.hall_rooms.proofs.Crossing.{bucket_send}
use Rattle.txn_engine.proofs.Ending.{slice_replicate}
use Rattle.txn_engine.proofs.txn.Txn.new.Goals as goal

pub new-requires-send-B : goal.new-requires-send-B
new-requires-send-B c κs = search (sendable, bucket_send) depth 20

pub returns-clause-locks : goal.returns-clause-locks
returns-clause-locks c = λ k low. ap (λ l. slice_get l k) c.in_ok-locks.ensures ∙ slice_replicate 256 k low
