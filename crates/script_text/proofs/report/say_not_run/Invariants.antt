use Rattle.std.proofs.Common.{◌+◌, ◌-◌, ◌≤◌, max, replicate}
use Rattle.fine_model.specs.declared.Outcome.TheVariants as outcome
use Rattle.script_text.specs.Pages.{desk, Sends}
use Rattle.script_text.specs.Reports.{txns_from}
use Rattle.script_text.proofs.report.say_not_run.Given as goal

abbrev pub invariant-loop-i : goal.invariant-loop-i
invariant-loop-i g l = record {
  within : l.i ≤ max l.done l.all;
  sends : Sends (txns_from (l.done + 1) (replicate (l.i - l.done) outcome.NotRun))
      (desk (g.K.Sink.written l.initial.sink) (g.K.Sink.faults l.initial.sink) l.initial.page)
      (desk (g.K.Sink.written l.sink) (g.K.Sink.faults l.sink) l.page);
}
