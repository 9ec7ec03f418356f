use Rattle.std.proofs.Common.{take}
use Rattle.script_text.specs.Pages.{desk, Sends}
use Rattle.script_text.specs.Reports.{txns_from}
use Rattle.script_text.proofs.report.say_outcomes.Given as goal

abbrev pub invariant-loop-i : goal.invariant-loop-i
invariant-loop-i g l = Sends (txns_from 1 (take l.i l.outcomes))
    (desk (g.K.Sink.written l.initial.sink) (g.K.Sink.faults l.initial.sink) l.initial.page)
    (desk (g.K.Sink.written l.sink) (g.K.Sink.faults l.sink) l.page)
