use Rattle.std.proofs.Common.{List, ap, sym, ◌++◌, subst}
use Rattle.fine_model.specs.declared.Call.{Call}
use Rattle.txn_draft.specs.Drafts.{DraftValue, blank}
use Rattle.hall_rooms.specs.Rooms.{beginning_of}
use Rattle.txn_engine.specs.declared.txn.Txn.{Txn}
use Rattle.txn_tries.specs.declared.attempt.Answered.{Answered}
use Rattle.txn_tries.specs.Answering.{AddsCalls, AnswersTxn, IsUndone, StopsCalls}
use Rattle.txn_tries.proofs.Attempted.{answered, refused_answers, sees_from_idle}
use Rattle.txn_tries.proofs.Underway.{abort_undone, begins_going, rest_of}
use Rattle.txn_tries.proofs.attempt.answer.Goals as goal

pub answer_all-requires-clause-going : goal.answer_all-requires-clause-going
answer_all-requires-clause-going g c κs within = begins_going c.args.hall.now c.args.txn.now c.begin.new.self c.args.pass.now c.args.pass.now _ _ c.requires.idle c.requires.blank (ap (λ (t : Txn). t.draft) c.begin.ensures) (ap (λ (t : Txn). t.locks) c.begin.ensures)

pub returns-in-Ok : goal.returns-in-Ok
returns-in-Ok g c =
    let e = c.in-Ok.ensures in
    let was = ap (λ (t : Txn). t.draft) c.begin.ensures in
    let adds = subst (λ (l : List Call). AddsCalls l (blank c.args.scripted.now.lane c.args.turn) c.answer_all.new.txn.draft) c.as_slice.ensures (subst (λ (d : DraftValue). AddsCalls c.as_slice.result.now d c.answer_all.new.txn.draft) was e.answers.0) in
    (e.going.0, record { number = e.going.1; sees = e.sees.sees; meets = e.answers.1 }, answered c.args.scripted.now c.args.turn c.answer_all.new.txn.draft adds)

pub returns-in-Err : goal.returns-in-Err
returns-in-Err g c =
    let e = c.in-Err.ensures in
    let a = c.abort.ensures in
    let x = beginning_of c.args.hall.now in
    let p = c.args.pass.now in
    let q = c.answer_all.new.pass in
    let r = c.abort.new.pass in
    let txn = c.args.scripted.now in
    let was = ap (λ (t : Txn). t.draft) c.begin.ensures in
    let u = abort_undone c.args.hall.now c.answer_all.new.txn c.abort.new.self q r _ e.going.0 a.pass.0 a.pass.1 a.aborts in
    let undone : IsUndone c.args.hall.now c.abort.new.self p r = record { rest = rest_of c.args.hall.now q.number p.number c.abort.new.self r e.going.1 u.rest; sees = sees_from_idle p q r e.going.1 c.requires.idle.1 e.sees.sees a.aborts.sees } in
    subst (λ (o : Answered). AnswersTxn c.args.hall.now txn c.args.turn c.abort.new.self p r o) (sym c.over_by.ensures)
    (refused_answers c.args.hall.now txn c.args.turn c.abort.new.self p q r e.sees.sees a.aborts.sees a.aborts.meets undone c.in-Err.fault (subst (λ (l : List Call). StopsCalls x l p q c.in-Err.fault) c.as_slice.ensures (subst (λ (d : DraftValue). StopsCalls x (d.calls ++ c.as_slice.result.now) p q c.in-Err.fault) was e.answers)))
