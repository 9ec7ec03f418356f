use Rattle.std.proofs.Common.{◌≡◌, ◌-◌, arith}
use Rattle.script_text.proofs.Reporting.{sends_not_run}
use Rattle.script_text.proofs.report.say_not_run.Goals as goal

pub loop-i-preserved : goal.loop-i-preserved
loop-i-preserved g c = record {
  within = omega arith;
  sends = sends_not_run c.args.done c.loop-i.i _ _ _ (omega arith) c.loop-i.invariant.sends c.say_txn.ensures;
}

pub returns : goal.returns
returns g c =
    let e : c.args.all - c.args.done ≡ c.loop-i.i - c.args.done = omega arith in
    rw e c.loop-i.invariant.sends
