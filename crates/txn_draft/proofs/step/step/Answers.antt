use Rattle.txn_draft.proofs.step.step.Goals as goal

pub returns-in-Get-clause-step : goal.returns-in-Get-clause-step
returns-in-Get-clause-step g c = rw c.in-Get.is (c.get.ensures.step c.args.log.now)
