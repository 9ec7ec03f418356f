use Rattle.std.proofs.Common.{◌≡◌}
use Rattle.lane_runs.specs.Resting.{FullSoFar, RestSoFar}
use Rattle.hall_rooms.specs.Rooms.{beginning_of}
use Rattle.txn_engine.specs.Txns.{IsBlankTxn}
use Rattle.lane_runs.proofs.rest.run_rest.Given as goal

abbrev pub invariant-loop : goal.invariant-loop
invariant-loop g l = record {
  more : (goal.iterator-loop g).can_next l.iterator' × (goal.iterator-loop g).is_finite l.iterator';
  so_far : RestSoFar l.hall l.script l.options.group l.at l.initial.first l.first l.initial.others l.others l.lane;
  full : FullSoFar l.is_full (beginning_of l.hall) l.first l.lane;
  blank : IsBlankTxn l.txn;
  same : l.lane.lane ≡ l.initial.lane.lane;
}
