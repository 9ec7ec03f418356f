use denote.Param.Send.{sendable}
use Rattle.std.proofs.Common.{Some, ap, refl, rules, sym, ◌∙◌}
use Rattle.hall_rooms.proofs.Crossing.{bucket_send}
use Rattle.txn_engine.proofs.Reading.{changes}
use Rattle.txn_engine.proofs.reads.answer_in.Goals as goal

pub bucket-requires-send-B : goal.bucket-requires-send-B
bucket-requires-send-B g c κs = search (sendable, bucket_send) depth 20

pub returns-clause-answers : goal.returns-clause-answers
returns-clause-answers g c =
    let e = c.answer.ensures in
    record {
      old = c.bucket-2.result.now;
      new = c.answer.new.bucket;
      there = c.in-Some.ensures.value ∙ ap (λ b. Some (Some b)) (sym c.bucket-2.ensures.value);
      locks_are = refl;
      kept = e.kept;
      left = e.left;
      number = e.number;
      unfit = search rules;
      change = changes c.args.front.now c.args.draft.now c.answer.new.self c.args.call.now _ c.answer.result c.bucket-2.result.now c.answer.new.bucket e.change;
      fits = e.fits;
      used = e.used;
      sound = e.sound;
    }
