use Rattle.std.proofs.Common.{◌≡◌, ◌-◌, length}
use Rattle.script_text.specs.Streams.{before}
use Rattle.script_text.specs.Reading.{IsOneLine}
use Rattle.script_text.proofs.lines.next_line.Given as goal

abbrev pub invariant-loop-chunk : goal.invariant-loop-chunk
invariant-loop-chunk g l = record {
  ahead : before l.initial.chunk (g.S.Source.left l.initial.source) ≡ before l.line (before l.chunk (g.S.Source.left l.source));
  one : IsOneLine l.line;
  faults : g.S.Source.faults l.source ≡ g.S.Source.faults l.initial.source;
}

abbrev pub decreases-loop-chunk : goal.decreases-loop-chunk
decreases-loop-chunk g l = 513 - length l.line
