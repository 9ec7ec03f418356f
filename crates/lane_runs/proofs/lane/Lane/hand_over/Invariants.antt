use Rattle.std.proofs.Common.{◌≡◌, ◌≤◌, length}
use Rattle.lane_runs.proofs.Moved.{MovesFirst}
use Rattle.lane_runs.proofs.lane.Lane.hand_over.Given as goal

abbrev pub invariant-loop-j : goal.invariant-loop-j
invariant-loop-j l = record {
  at : l.self-inside.at.items ≡ l.initial.self-inside.at.items;
  count : l.self-inside.count ≡ l.initial.self-inside.count;
  moves : MovesFirst l.j l.initial.self-inside.at.items l.initial.self-inside.outcomes l.self-inside.outcomes l.initial.outcomes l.outcomes;
}
