use Rattle.std.proofs.Common.{◌≡◌, ◌≤◌, ◌*◌}
use Rattle.script_text.specs.Summaries.{first_summed}
use Rattle.script_text.proofs.summary.counters_summed.Given as goal

abbrev pub invariant-loop-i : goal.invariant-loop-i
invariant-loop-i l = (l.sum ≡ first_summed l.pairs l.i) × (l.sum ≤ l.i * 4294967295) × (l.i ≤ 64)
