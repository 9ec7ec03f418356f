use Rattle.std.proofs.Common.{flat_map}
use Rattle.fine_model.specs.Report.{reply_lines}
use Rattle.script_text.specs.Pages.{desk, Sends}
use Rattle.script_text.proofs.report.say_replies.Given as goal

abbrev pub invariant-loop-call : goal.invariant-loop-call
invariant-loop-call g l = Sends (flat_map (λ p. reply_lines p.0.now p.1.now) l.yielded)
    (desk (g.K.Sink.written l.initial.sink) (g.K.Sink.faults l.initial.sink) l.initial.page)
    (desk (g.K.Sink.written l.sink) (g.K.Sink.faults l.sink) l.page)
