use Rattle.std.proofs.Common.{take}
use Rattle.std.specs.List.{flat_map}
use Rattle.script_text.specs.Pages.{desk, Sends}
use Rattle.script_text.specs.Words.{spaced}
use Rattle.script_text.proofs.line.say_more.Given as goal

abbrev pub invariant-loop-word : goal.invariant-loop-word
invariant-loop-word g l = Sends (flat_map spaced (take l.word-index l.words))
    (desk (g.K.Sink.written l.initial.sink) (g.K.Sink.faults l.initial.sink) l.initial.page)
    (desk (g.K.Sink.written l.sink) (g.K.Sink.faults l.sink) l.page)
