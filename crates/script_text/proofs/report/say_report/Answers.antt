use Rattle.std.proofs.Common.{[], sym, ap}
use Rattle.fine_model.specs.Report.{fault_lines}
use Rattle.script_text.proofs.Paging.{sends_none}
use Rattle.script_text.proofs.Reporting.{sends_report}
use Rattle.script_text.proofs.report.say_report.Goals as goal

pub returns-in-Some : goal.returns-in-Some
unfolding fault_lines
returns-in-Some g c =
    sends_report c.args.script.now c.args.ran.now _ _ _ _ _ _ (sym (ap fault_lines c.in-Some.is))
    (rw c.as_slice.ensures at c.say_outcomes.ensures) (rw (c.len.ensures, c.len-2.ensures) at c.say_not_run.ensures) c.say_line.ensures c.say_fault.ensures

pub returns-in_default : goal.returns-in_default
unfolding fault_lines
returns-in_default g c =
    sends_report c.args.script.now c.args.ran.now [] _ _ _ _ _ (sym (ap fault_lines c.in_default.is))
    (rw c.as_slice.ensures at c.say_outcomes.ensures) (rw (c.len.ensures, c.len-2.ensures) at c.say_not_run.ensures) c.say_line.ensures (sends_none _)
