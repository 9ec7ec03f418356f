use Rattle.std.proofs.Common.{Ok, Err, ap, refl, subst, sym, true≢false, ◌∙◌}
use Rattle.hall_rooms.specs.Rooms.{beginning_of}
use Rattle.txn_engine.specs.Faults.{after_fault}
use Rattle.txn_engine.specs.Reads.{ReadsBuckets}
use Rattle.txn_engine.specs.Txns.{CallsOr, IsOpenTxn, is_conflict}
use Rattle.txn_engine.proofs.Calling.{ahead_after, answer_err, answer_ok, open_after, reads_err, reads_ok, same_number, sees_after, still_pass}
use Rattle.txn_engine.proofs.Failing.{answer_failed, no_conflict, not_gone, open_fails, sees_still, still_failed}
use Rattle.txn_engine.proofs.txn.Txn.call.Goals as goal

-- ---- it was failed

pub returns-then-failed-clause-sees : goal.returns-then-failed-clause-sees
returns-then-failed-clause-sees g c = sees_still (beginning_of c.args.hall.now) c.args.pass.now

pub returns-then-failed-clause-failed : goal.returns-then-failed-clause-failed
returns-then-failed-clause-failed g c = sym c.failed.ensures ∙ c.if-failed.true

pub returns-then-failed-clause-answer : goal.returns-then-failed-clause-answer
returns-then-failed-clause-answer g c = still_failed (beginning_of c.args.hall.now) c.args.call.now c.args.self.now c.args.pass.now (sym c.failed.ensures ∙ c.if-failed.true)

pub returns-then-failed-clause-gone : goal.returns-then-failed-clause-gone
returns-then-failed-clause-gone g c = λ _. (refl, refl, refl)

pub returns-then-failed-clause-ahead : goal.returns-then-failed-clause-ahead
returns-then-failed-clause-ahead g c = λ ok other. absurd (true≢false (sym (sym c.failed.ensures ∙ c.if-failed.true) ∙ ok))

-- ---- it was not

pub read_for-requires-clause-open : goal.read_for-requires-clause-open
read_for-requires-clause-open g c κs within = let e = c.in_default.ensures in (e.takes.0.open_now, ap (λ d. d.failed) e.takes.0.draft ∙ (sym c.failed.ensures ∙ c.if-failed.false))

pub returns-in-Err-clause-failed : goal.returns-in-Err-clause-failed
returns-in-Err-clause-failed g c = ap (λ d. d.failed) c.in-Err.ensures.takes.0.draft ∙ (sym c.failed.ensures ∙ c.if-failed.false)

pub returns-in-Ok-clause-pass : goal.returns-in-Ok-clause-pass
returns-in-Ok-clause-pass g c = let e = c.in_default.ensures in
    (still_pass c.args.hall.now.table.shared.table_id (beginning_of c.args.hall.now) c.args.call.now c.args.self.now c.take_for.new.self c.read_for.new.self c.args.pass.now c.take_for.new.pass c.read_for.new.pass e.pass.0 e.pass.1 e.takes.0 e.takes.1 e.takes.2 (Ok c.in-Ok.field-0) c.in-Ok.ensures.reads, same_number c.args.hall.now.table.shared.table_id (beginning_of c.args.hall.now) c.args.call.now c.args.self.now c.take_for.new.self c.read_for.new.self c.args.pass.now c.take_for.new.pass c.read_for.new.pass e.pass.0 e.pass.1 e.takes.0 e.takes.1 e.takes.2 (Ok c.in-Ok.field-0) c.in-Ok.ensures.reads)

pub returns-in-Ok-clause-open : goal.returns-in-Ok-clause-open
returns-in-Ok-clause-open g c = let e = c.in_default.ensures in
    open_after c.args.hall.now.table.shared.table_id (beginning_of c.args.hall.now) c.args.call.now c.args.self.now c.take_for.new.self c.read_for.new.self c.args.pass.now c.take_for.new.pass c.read_for.new.pass e.pass.0 e.pass.1 e.takes.0 e.takes.1 e.takes.2 (Ok c.in-Ok.field-0) c.in-Ok.ensures.reads

pub returns-in-Ok-clause-failed : goal.returns-in-Ok-clause-failed
returns-in-Ok-clause-failed g c = let e = c.in_default.ensures in
    answer_failed (beginning_of c.args.hall.now) c.args.call.now c.args.self.now c.read_for.new.self c.args.pass.now c.read_for.new.pass (Ok tt) (sym c.failed.ensures ∙ c.if-failed.false)
    (answer_ok c.args.hall.now.table.shared.table_id (beginning_of c.args.hall.now) c.args.call.now c.args.self.now c.take_for.new.self c.read_for.new.self c.args.pass.now c.take_for.new.pass c.read_for.new.pass e.pass.0 e.pass.1 e.takes.0 e.takes.1 e.takes.2 (Ok c.in-Ok.field-0) c.in-Ok.ensures.reads c.in-Ok.field-0 refl)

pub returns-in-Ok-clause-sees : goal.returns-in-Ok-clause-sees
returns-in-Ok-clause-sees g c = let e = c.in_default.ensures in
    sees_after c.args.hall.now.table.shared.table_id (beginning_of c.args.hall.now) c.args.call.now c.args.self.now c.take_for.new.self c.read_for.new.self c.args.pass.now c.take_for.new.pass c.read_for.new.pass e.pass.0 e.pass.1 e.takes.0 e.takes.1 e.takes.2 (Ok c.in-Ok.field-0) c.in-Ok.ensures.reads

pub returns-in-Ok-clause-answer : goal.returns-in-Ok-clause-answer
returns-in-Ok-clause-answer g c = let e = c.in_default.ensures in
    answer_ok c.args.hall.now.table.shared.table_id (beginning_of c.args.hall.now) c.args.call.now c.args.self.now c.take_for.new.self c.read_for.new.self c.args.pass.now c.take_for.new.pass c.read_for.new.pass e.pass.0 e.pass.1 e.takes.0 e.takes.1 e.takes.2 (Ok c.in-Ok.field-0) c.in-Ok.ensures.reads c.in-Ok.field-0 refl

pub returns-in-Err-read_for-clause-pass : goal.returns-in-Err-read_for-clause-pass
returns-in-Err-read_for-clause-pass g c = let e = c.in_default.ensures in
    (still_pass c.args.hall.now.table.shared.table_id (beginning_of c.args.hall.now) c.args.call.now c.args.self.now c.take_for.new.self c.read_for.new.self c.args.pass.now c.take_for.new.pass c.read_for.new.pass e.pass.0 e.pass.1 e.takes.0 e.takes.1 e.takes.2 (Err c.in-Err-read_for.fault) c.in-Err-read_for.ensures.reads, same_number c.args.hall.now.table.shared.table_id (beginning_of c.args.hall.now) c.args.call.now c.args.self.now c.take_for.new.self c.read_for.new.self c.args.pass.now c.take_for.new.pass c.read_for.new.pass e.pass.0 e.pass.1 e.takes.0 e.takes.1 e.takes.2 (Err c.in-Err-read_for.fault) c.in-Err-read_for.ensures.reads)

pub returns-in-Err-read_for-clause-open : goal.returns-in-Err-read_for-clause-open
returns-in-Err-read_for-clause-open g c = let e = c.in_default.ensures in
    subst (λ t. IsOpenTxn (beginning_of c.args.hall.now) t c.read_for.new.pass) (sym c.refused.ensures.after)
    (open_fails (beginning_of c.args.hall.now) c.refused.result c.read_for.new.self c.read_for.new.pass (open_after c.args.hall.now.table.shared.table_id (beginning_of c.args.hall.now) c.args.call.now c.args.self.now c.take_for.new.self c.read_for.new.self c.args.pass.now c.take_for.new.pass c.read_for.new.pass e.pass.0 e.pass.1 e.takes.0 e.takes.1 e.takes.2 (Err c.in-Err-read_for.fault) c.in-Err-read_for.ensures.reads))

pub returns-in-Err-read_for-clause-failed : goal.returns-in-Err-read_for-clause-failed
returns-in-Err-read_for-clause-failed g c = let e = c.in_default.ensures in
    answer_failed (beginning_of c.args.hall.now) c.args.call.now c.args.self.now c.refused.new.self c.args.pass.now c.read_for.new.pass (Err c.refused.result) (sym c.failed.ensures ∙ c.if-failed.false)
    (subst (λ t. CallsOr (beginning_of c.args.hall.now) c.args.call.now c.args.self.now t c.args.pass.now c.read_for.new.pass (Err c.refused.result)) (sym c.refused.ensures.after)
    (subst (λ f. CallsOr (beginning_of c.args.hall.now) c.args.call.now c.args.self.now (after_fault f c.read_for.new.self) c.args.pass.now c.read_for.new.pass (Err f)) (sym c.refused.ensures.fault)
    (answer_err c.args.hall.now.table.shared.table_id (beginning_of c.args.hall.now) c.args.call.now c.args.self.now c.take_for.new.self c.read_for.new.self c.args.pass.now c.take_for.new.pass c.read_for.new.pass e.pass.0 e.pass.1 e.takes.0 e.takes.1 e.takes.2 (Err c.in-Err-read_for.fault) c.in-Err-read_for.ensures.reads c.in-Err-read_for.fault refl)))

pub returns-in-Err-read_for-clause-sees : goal.returns-in-Err-read_for-clause-sees
returns-in-Err-read_for-clause-sees g c = let e = c.in_default.ensures in
    sees_after c.args.hall.now.table.shared.table_id (beginning_of c.args.hall.now) c.args.call.now c.args.self.now c.take_for.new.self c.read_for.new.self c.args.pass.now c.take_for.new.pass c.read_for.new.pass e.pass.0 e.pass.1 e.takes.0 e.takes.1 e.takes.2 (Err c.in-Err-read_for.fault) c.in-Err-read_for.ensures.reads

pub returns-in-Err-read_for-clause-answer : goal.returns-in-Err-read_for-clause-answer
returns-in-Err-read_for-clause-answer g c = let e = c.in_default.ensures in
    subst (λ t. CallsOr (beginning_of c.args.hall.now) c.args.call.now c.args.self.now t c.args.pass.now c.read_for.new.pass (Err c.refused.result)) (sym c.refused.ensures.after)
    (subst (λ f. CallsOr (beginning_of c.args.hall.now) c.args.call.now c.args.self.now (after_fault f c.read_for.new.self) c.args.pass.now c.read_for.new.pass (Err f)) (sym c.refused.ensures.fault)
    (answer_err c.args.hall.now.table.shared.table_id (beginning_of c.args.hall.now) c.args.call.now c.args.self.now c.take_for.new.self c.read_for.new.self c.args.pass.now c.take_for.new.pass c.read_for.new.pass e.pass.0 e.pass.1 e.takes.0 e.takes.1 e.takes.2 (Err c.in-Err-read_for.fault) c.in-Err-read_for.ensures.reads c.in-Err-read_for.fault refl))

pub returns-in-Err-clause-gone : goal.returns-in-Err-clause-gone
returns-in-Err-clause-gone g c = not_gone _ _ _ _ _ (sym c.failed.ensures ∙ c.if-failed.false)

pub returns-in-Ok-clause-gone : goal.returns-in-Ok-clause-gone
returns-in-Ok-clause-gone g c = not_gone _ _ _ _ _ (sym c.failed.ensures ∙ c.if-failed.false)

pub returns-in-Err-read_for-clause-gone : goal.returns-in-Err-read_for-clause-gone
returns-in-Err-read_for-clause-gone g c = not_gone _ _ _ _ _ (sym c.failed.ensures ∙ c.if-failed.false)

pub returns-in-Err-clause-ahead : goal.returns-in-Err-clause-ahead
returns-in-Err-clause-ahead g c = λ ok other. absurd (true≢false other)

pub returns-in-Ok-clause-ahead : goal.returns-in-Ok-clause-ahead
returns-in-Ok-clause-ahead g c = let e = c.in_default.ensures in λ ok other. ahead_after c.args.hall.now.table.shared.table_id (beginning_of c.args.hall.now) c.args.call.now c.args.self.now c.take_for.new.self c.read_for.new.self c.args.pass.now c.take_for.new.pass c.read_for.new.pass e.pass.0 e.pass.1 e.takes.0 e.takes.1 e.takes.2 (Ok c.in-Ok.field-0) c.in-Ok.ensures.reads

pub returns-in-Err-read_for-clause-ahead : goal.returns-in-Err-read_for-clause-ahead
returns-in-Err-read_for-clause-ahead g c = let e = c.in_default.ensures in λ ok other. ahead_after c.args.hall.now.table.shared.table_id (beginning_of c.args.hall.now) c.args.call.now c.args.self.now c.take_for.new.self c.read_for.new.self c.args.pass.now c.take_for.new.pass c.read_for.new.pass e.pass.0 e.pass.1 e.takes.0 e.takes.1 e.takes.2 (Err c.in-Err-read_for.fault) c.in-Err-read_for.ensures.reads

pub returns-then-failed-clause-reads : goal.returns-then-failed-clause-reads
returns-then-failed-clause-reads g c = λ ok other. absurd (true≢false (sym (sym c.failed.ensures ∙ c.if-failed.true) ∙ ok))

pub returns-in-Err-clause-reads : goal.returns-in-Err-clause-reads
returns-in-Err-clause-reads g c = λ ok other. absurd (true≢false other)

pub returns-in-Ok-clause-reads : goal.returns-in-Ok-clause-reads
returns-in-Ok-clause-reads g c = let e = c.in_default.ensures in λ ok other. reads_ok c.args.hall.now.table.shared.table_id (beginning_of c.args.hall.now) c.args.call.now c.args.self.now c.take_for.new.self c.read_for.new.self c.args.pass.now c.take_for.new.pass c.read_for.new.pass e.pass.0 e.pass.1 e.takes.0 e.takes.1 e.takes.2 (Ok c.in-Ok.field-0) c.in-Ok.ensures.reads e.there c.in-Ok.field-0 refl

pub returns-in-Err-read_for-clause-reads : goal.returns-in-Err-read_for-clause-reads
returns-in-Err-read_for-clause-reads g c = let e = c.in_default.ensures in λ ok other.
    subst (λ t. ReadsBuckets (beginning_of c.args.hall.now) c.args.call.now c.args.self.now t c.read_for.new.pass (Err c.refused.result)) (sym c.refused.ensures.after)
    (subst (λ f. ReadsBuckets (beginning_of c.args.hall.now) c.args.call.now c.args.self.now (after_fault f c.read_for.new.self) c.read_for.new.pass (Err f)) (sym c.refused.ensures.fault)
    (reads_err c.args.hall.now.table.shared.table_id (beginning_of c.args.hall.now) c.args.call.now c.args.self.now c.take_for.new.self c.read_for.new.self c.args.pass.now c.take_for.new.pass c.read_for.new.pass e.pass.0 e.pass.1 e.takes.0 e.takes.1 e.takes.2 (Err c.in-Err-read_for.fault) c.in-Err-read_for.ensures.reads e.there c.in-Err-read_for.fault refl))

pub returns-then-failed-clause-leaves : goal.returns-then-failed-clause-leaves
returns-then-failed-clause-leaves g c = λ ok other. absurd (true≢false (sym (sym c.failed.ensures ∙ c.if-failed.true) ∙ ok))

pub returns-in-Err-clause-leaves : goal.returns-in-Err-clause-leaves
returns-in-Err-clause-leaves g c = λ ok is. c.in-Err.ensures.there

pub returns-in-Ok-clause-leaves : goal.returns-in-Ok-clause-leaves
returns-in-Ok-clause-leaves g c = λ ok is. absurd (true≢false (sym is))

pub returns-in-Err-read_for-clause-leaves : goal.returns-in-Err-read_for-clause-leaves
returns-in-Err-read_for-clause-leaves g c = λ ok is. absurd (true≢false (sym is ∙ (ap (λ f. is_conflict (Err f)) c.refused.ensures.fault ∙ no_conflict c.in-Err-read_for.fault)))
