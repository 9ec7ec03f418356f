use Rattle.fine_model.specs.Report.{reason_bytes}
use Rattle.script_text.proofs.report.say_reason.Goals as goal

pub returns-in-Script : goal.returns-in-Script
unfolding reason_bytes
returns-in-Script g c = rw c.in-Script.is (rw c.from.ensures at c.say_line.ensures)
