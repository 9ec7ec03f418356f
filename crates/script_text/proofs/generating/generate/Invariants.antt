use Rattle.script_text.specs.Generating.{IsMade}
use Rattle.script_text.proofs.generating.generate.Given as goal

abbrev pub invariant-loop-i : goal.invariant-loop-i
invariant-loop-i l = IsMade l.start l.count l.lanes l.i l.script l.state
