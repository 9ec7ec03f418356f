use Rattle.std.proofs.Common.{◌≡◌}
use Rattle.lane_runs.proofs.Made.{places_up_to}
use Rattle.lane_runs.proofs.lane.places_of.Given as goal

abbrev pub invariant-loop-i : goal.invariant-loop-i
invariant-loop-i l = l.at.items ≡ places_up_to l.script l.lane l.i
