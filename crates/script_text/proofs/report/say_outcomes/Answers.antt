use Rattle.script_text.proofs.Reporting.{sends_outcome}
use Rattle.script_text.proofs.report.say_outcomes.Goals as goal

pub loop-i-preserved : goal.loop-i-preserved
loop-i-preserved g c = sends_outcome c.args.outcomes.now c.loop-i.i c.index-outcomes-i.result _ _ _ c.loop-i-test.true c.index-outcomes-i.is c.loop-i.invariant c.say_txn.ensures
