-- As many outcomes as the loop has turned.
use Rattle.std.proofs.Common.{◌≡◌}
use Rattle.std.specs.Prelude.{replicate}
use Rattle.fine_model.specs.declared.Outcome.TheVariants as outcome
use Rattle.lane_threads.proofs.means.none_run.Given as goal

abbrev pub invariant-loop : goal.invariant-loop
invariant-loop l = l.outcomes ≡ replicate l.counter outcome.NotRun
