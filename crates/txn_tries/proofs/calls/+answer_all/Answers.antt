use Rattle.std.proofs.Common.{List, ◌++◌, ◌-◌, length, drop, take, refl, sym, subst}
use Rattle.fine_model.specs.declared.Call.{Call}
use Rattle.hall_rooms.specs.Rooms.{beginning_of}
use Rattle.txn_tries.specs.Answering.{AnswersAll, StopsCalls}
use Rattle.txn_engine.proofs.Open.{numbered}
use Rattle.txn_tries.proofs.Called.{answers_on, call_added, call_stops, first_and_rest, sees_call_on}
use Rattle.txn_tries.proofs.Replying.{replied}
use Rattle.txn_tries.proofs.Underway.{call_going}
use Rattle.txn_tries.proofs.calls.+answer_all.Goals as goal

pub answer_all-requires-clause-going : goal.answer_all-requires-clause-going
answer_all-requires-clause-going g t c κs within = let e = c.in-Ok.ensures in call_going c.args.hall.now c.args.txn.now c.call.new.self c.args.pass.now c.call.new.pass c.requires.going e.pass.0 e.pass.1 e.sees e.«open»

pub returns-in-Ok-clause-sees : goal.returns-in-Ok-clause-sees
returns-in-Ok-clause-sees g t c = let e = c.in-Ok.ensures in sees_call_on (beginning_of c.args.hall.now) c.args.pass.now c.call.new.pass c.answer_all.new.pass e.pass.1 e.sees c.answer_all.ensures.sees

pub returns-in-Ok-clause-answers : goal.returns-in-Ok-clause-answers
returns-in-Ok-clause-answers g t c =
    let e = c.in-Ok.ensures in
    let x = beginning_of c.args.hall.now in
    let item = c.call-item.result in
    let rest = take (length c.args.calls.now - 1) (drop 1 c.args.calls.now) in
    let told = replied x item c.args.txn.now c.call.new.self c.call.new.pass e.answer.1.all (numbered x c.call.new.self c.call.new.pass e.«open») c.in-Ok.field-0 (e.reads c.requires.not_failed refl) in
    let one = call_added item c.args.txn.now.draft c.call.new.self.draft e.failed e.answer.0 told in
    subst (λ (l : List Call). AnswersAll x l c.args.txn.now c.answer_all.new.txn c.args.pass.now c.answer_all.new.pass c.answer_all.result) (sym (first_and_rest c.args.calls.now item c.in-len1-up.len_at_least c.call-item.is))
    (answers_on x item rest c.args.txn.now c.call.new.self c.answer_all.new.txn c.args.pass.now c.call.new.pass c.answer_all.new.pass c.answer_all.result one e.answer.2 c.answer_all.ensures.answers)

pub returns-in-Err-clause-going : goal.returns-in-Err-clause-going
returns-in-Err-clause-going g t c = let e = c.in-Err.ensures in (call_going c.args.hall.now c.args.txn.now c.call.new.self c.args.pass.now c.call.new.pass c.requires.going e.pass.0 e.pass.1 e.sees e.«open», e.pass.1)

pub returns-in-Err-clause-answers : goal.returns-in-Err-clause-answers
returns-in-Err-clause-answers g t c =
    let e = c.in-Err.ensures in
    let x = beginning_of c.args.hall.now in
    let item = c.call-item.result in
    subst (λ (l : List Call). StopsCalls x (c.args.txn.now.draft.calls ++ l) c.args.pass.now c.call.new.pass c.in-Err.fault) (sym (first_and_rest c.args.calls.now item c.in-len1-up.len_at_least c.call-item.is))
    (call_stops x item (take (length c.args.calls.now - 1) (drop 1 c.args.calls.now)) c.args.txn.now c.call.new.self c.args.pass.now c.call.new.pass c.in-Err.fault e.answer)
