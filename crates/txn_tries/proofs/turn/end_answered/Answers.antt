use Rattle.txn_tries.proofs.Finished.{aborted_finishes, committed_finishes}
use Rattle.txn_tries.proofs.Underway.{abort_undone}
use Rattle.txn_tries.proofs.turn.end_answered.Goals as goal

pub returns-in-Commit : goal.returns-in-Commit
returns-in-Commit g c = committed_finishes c.args.hall.now c.args.options.now.group c.args.scripted.now c.args.turn c.finish.new.txn c.args.pass.now c.finish.new.pass c.args.txn.now.draft c.finish.result c.requires.answered c.in-Commit.is c.finish.ensures

pub returns-in-Abort : goal.returns-in-Abort
returns-in-Abort g c =
    let a = c.abort.ensures in
    let u = abort_undone c.args.hall.now c.args.txn.now c.abort.new.self c.args.pass.now c.abort.new.pass _ c.requires.going a.pass.0 a.pass.1 a.aborts in
    aborted_finishes c.args.hall.now c.args.options.now.group c.args.scripted.now c.args.turn c.abort.new.self c.args.pass.now c.abort.new.pass u a.aborts.meets c.in-Abort.is
