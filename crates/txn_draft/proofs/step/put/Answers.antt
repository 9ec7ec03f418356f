use Rattle.fine_model.specs.declared.Call.TheVariants as call
use Rattle.txn_draft.specs.Steps.{IsMade}
use Rattle.txn_draft.proofs.Stepped.{done_step, made_put, same_step}
use Rattle.txn_draft.proofs.step.put.Goals as goal

pub returns-in-Ok-clause-step : goal.returns-in-Ok-clause-step
returns-in-Ok-clause-step g c =
    same_step _ _ _ _ _ _ _ _ _ (λ pairs. IsMade pairs (call.Put c.args.key.now c.args.value.now)) _ _ (λ i. call.Put (c.as_slice.ensures i) (c.as_slice-2.ensures i))
    (done_step _ _ _ _ _ _ _ (call.Put c.as_slice.result.now c.as_slice-2.result.now) _ (λ _ _. Unit {0}) (λ pairs. IsMade pairs (call.Put c.args.key.now c.args.value.now)) c.in-Ok.field-0 _ (λ pairs _. made_put pairs c.args.key.now c.args.value.now c.in_ok-write.write c.in_ok-write.ensures) c.in-Ok.ensures.change c.in-Ok.ensures.sound)
