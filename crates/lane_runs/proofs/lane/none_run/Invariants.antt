use Rattle.std.proofs.Common.{◌≡◌, length}
use Rattle.lane_runs.proofs.lane.none_run.Given as goal

abbrev pub invariant-loop : goal.invariant-loop
invariant-loop l = length l.outcomes ≡ l.counter
