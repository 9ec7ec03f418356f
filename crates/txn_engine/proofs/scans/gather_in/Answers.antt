use denote.Param.Send.{sendable}
use Rattle.std.proofs.Common.{Some, ap, refl, rules, sym, ◌∙◌}
use Rattle.hall_rooms.proofs.Crossing.{bucket_send}
use Rattle.txn_engine.proofs.Reading.{fault_why}
use Rattle.txn_engine.proofs.scans.gather_in.Goals as goal

pub bucket-requires-send-B : goal.bucket-requires-send-B
bucket-requires-send-B g c κs = search (sendable, bucket_send) depth 20

pub returns-clause-gathers : goal.returns-clause-gathers
returns-clause-gathers g c =
    let there = c.in-Some.ensures.value ∙ ap (λ b. Some (Some b)) (sym c.bucket-2.ensures.value) in
    record { old = c.bucket-2.result.now; new = c.gather.new.bucket; there = there; locks_are = refl; read = search rules; walks = (c.gather.ensures.loads, c.gather.ensures.on_walk); finds = fault_why c.gather.new.bucket c.args.low.now c.args.high.now c.args.limit c.args.scan.now.pairs c.gather.new.self.pairs _ _ c.gather.result c.gather.ensures.answer; more = search rules; unfit = search rules; cause = search rules }
