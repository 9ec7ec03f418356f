use Rattle.std.proofs.Common.{◌≡◌, ap, ◌∙◌}
use Rattle.fine_model.specs.declared.Call.TheVariants as call
use Rattle.fine_model.specs.Map.{has}
use Rattle.txn_draft.specs.Steps.{IsMade}
use Rattle.txn_draft.proofs.Stepped.{done_step, made_del, same_step}
use Rattle.txn_draft.proofs.step.del.Goals as goal

pub returns-in-Ok-clause-step : goal.returns-in-Ok-clause-step
returns-in-Ok-clause-step g c =
    let key = c.as_slice.result.now in
    same_step _ _ _ _ _ _ _ _ _ (λ pairs. IsMade pairs (call.Del c.args.key.now)) _ _ (ap call.Del c.as_slice.ensures)
    (done_step _ _ _ _ _ _ _ (call.Del key) _ (λ pairs there. there ≡ has pairs key) (λ pairs. IsMade pairs (call.Del c.args.key.now)) c.in-Ok.there _
    (λ pairs is. made_del pairs c.args.key.now c.in-Ok.there c.in_ok-write.write c.removed.result c.in_ok-write.ensures c.removed.ensures (is ∙ ap (has pairs) c.as_slice.ensures)) c.in-Ok.ensures.change c.in-Ok.ensures.sound)
