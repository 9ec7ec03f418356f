use Rattle.txn_runner.proofs.Looping.{begins_with}
use Rattle.txn_runner.proofs.run.run_cached.Goals as goal

pub returns-in_default : goal.returns-in_default
returns-in_default g c = record { run = c.not_begun-ran.ensures c.args.script.now c.args.options.now }

pub returns-in_default-new : goal.returns-in_default-new
returns-in_default-new g c = record { run = c.not_begun-ran-in_default-new.ensures c.args.script.now c.args.options.now }

pub run_txns-requires-clause-begins : goal.run_txns-requires-clause-begins
run_txns-requires-clause-begins g c κs within = begins_with c.args.script.now c.args.options.now c.args.room c.in-Ok-new.buckets c.requires.ready c.requires.group c.in-Ok-new.ensures.stand c.none.result c.none.ensures c.len.result c.len.ensures
    c.in-Ok.outcomes c.in-Ok.ensures

pub returns : goal.returns
returns g c = record { run = c.finish-ran.ensures c.args.script.now c.args.options.now c.args.room c.run_txns.new.buckets c.requires.ready c.run_txns.ensures }
