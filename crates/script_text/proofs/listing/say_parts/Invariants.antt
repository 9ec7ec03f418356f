use Rattle.std.proofs.Common.{take, flat_map}
use Rattle.fine_model.specs.Report.{part_line}
use Rattle.script_text.specs.Pages.{desk, Sends}
use Rattle.script_text.proofs.listing.say_parts.Given as goal

abbrev pub invariant-loop-part : goal.invariant-loop-part
invariant-loop-part g l = Sends (flat_map part_line (take l.part-index l.parts))
    (desk (g.K.Sink.written l.initial.sink) (g.K.Sink.faults l.initial.sink) l.initial.page)
    (desk (g.K.Sink.written l.sink) (g.K.Sink.faults l.sink) l.page)
