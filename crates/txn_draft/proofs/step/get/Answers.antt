use Rattle.std.proofs.Common.{ap, ◌∙◌}
use Rattle.fine_model.specs.declared.Call.TheVariants as call
use Rattle.fine_model.specs.Map.{get}
use Rattle.txn_draft.specs.Steps.{IsMade}
use Rattle.txn_draft.proofs.Stepped.{got_step, made_get, same_step}
use Rattle.txn_draft.proofs.step.get.Goals as goal

pub returns-in-Ok-clause-step : goal.returns-in-Ok-clause-step
returns-in-Ok-clause-step g c log =
    same_step _ _ _ _ _ _ _ _ _ (λ pairs. IsMade pairs (call.Get c.args.key.now)) _ _ (ap call.Get c.as_slice.ensures)
    (got_step _ _ _ _ _ _ c.as_slice.result.now _ c.in-Ok.ensures.loaded c.in-Ok.ensures.on_way (λ pairs. IsMade pairs (call.Get c.args.key.now)) c.in-Ok.value _
    (λ pairs is. made_get pairs c.args.key.now c.in-Ok.value c.reply_of.result c.reply_of.ensures (is ∙ ap (get pairs) c.as_slice.ensures)) c.in-Ok.ensures.used c.in-Ok.ensures.answer c.in-Ok.ensures.sound)
