use Rattle.std.proofs.Common.{sym, subst}
use Rattle.fine_model.specs.Bounds.{FitsTxn}
use Rattle.txn_runner.specs.Body.{RunsSoFar, body}
use Rattle.txn_runner.proofs.Looping.{all_at, few_places, turns}
use Rattle.txn_runner.proofs.run.run_txns.Goals as goal

pub run_txn-outcome-requires-clause-places : goal.run_txn-outcome-requires-clause-places
run_txn-outcome-requires-clause-places g c κs within = few_places c.args.script.now c.args.options.now c.args.runner.now.room c.loop-i.i (body c.loop-i.runner c.loop-i.buckets) c.loop-i.outcomes c.loop-i.invariant c.requires.script c.at-txn.result.now c.at-txn.ensures

pub run_txn-outcome-requires-clause-txn : goal.run_txn-outcome-requires-clause-txn
run_txn-outcome-requires-clause-txn g c κs within = all_at FitsTxn c.args.script.now c.requires.script.txns c.loop-i.i c.at-txn.result.now c.at-txn.ensures

pub loop-i-preserved : goal.loop-i-preserved
loop-i-preserved g c = subst (RunsSoFar c.args.script.now c.args.options.now _ c.args.runner.now.room _) (sym c.replace.ensures.items)
    (turns c.args.script.now c.args.options.now c.args.runner.now.room c.loop-i.i (body c.loop-i.runner c.loop-i.buckets) c.loop-i.outcomes c.loop-i.invariant c.requires.script c.requires.ready c.at-txn.result.now c.run_txn-outcome.result _ c.at-txn.ensures
    c.run_txn-outcome.ensures)
