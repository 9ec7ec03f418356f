use Rattle.std.proofs.Common.{take, flat_map}
use Rattle.fine_model.specs.Report.{pair_line}
use Rattle.script_text.specs.Pages.{desk, Sends}
use Rattle.script_text.proofs.report.say_pairs.Given as goal

abbrev pub invariant-loop-pair : goal.invariant-loop-pair
invariant-loop-pair g l = Sends (flat_map pair_line (take l.pair-index l.pairs))
    (desk (g.K.Sink.written l.initial.sink) (g.K.Sink.faults l.initial.sink) l.initial.page)
    (desk (g.K.Sink.written l.sink) (g.K.Sink.faults l.sink) l.page)
