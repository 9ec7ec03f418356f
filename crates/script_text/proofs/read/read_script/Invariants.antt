use Rattle.std.proofs.Common.{◌≡◌}
use Rattle.script_text.specs.Fits.{FitsReading}
use Rattle.script_text.specs.Streams.{before}
use Rattle.script_text.specs.Reading.{reading_of, Follows}
use Rattle.script_text.proofs.read.read_script.Given as goal

abbrev pub invariant-loop-number : goal.invariant-loop-number
invariant-loop-number g l = record {
  follows : Follows (g.S.Source.left l.initial.source) (before l.chunk (g.S.Source.left l.source)) l.number (reading_of l.progress);
  fits : FitsReading (reading_of l.progress);
  faults : g.S.Source.faults l.source ≡ g.S.Source.faults l.initial.source;
}
