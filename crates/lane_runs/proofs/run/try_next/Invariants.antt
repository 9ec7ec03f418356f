use Rattle.std.proofs.Common.{◌≡◌}
use Rattle.lane_laws.specs.Lanes.{LaneSoFar}
use Rattle.txn_engine.specs.Txns.{IsBlankTxn}
use Rattle.lane_runs.specs.Steps.{IsNextOf}
use Rattle.lane_runs.proofs.run.try_next.Given as goal

abbrev pub invariant-loop : goal.invariant-loop
invariant-loop g l = record {
  more : (goal.iterator-loop g).can_next l.iterator' × (goal.iterator-loop g).is_finite l.iterator';
  so_far : LaneSoFar l.hall l.script l.options.group l.pass l.lane;
  next : IsNextOf l.script l.lane l.at;
  number : l.pass.number ≡ l.initial.pass.number;
  blank : IsBlankTxn l.txn;
  same : l.lane.lane ≡ l.initial.lane.lane;
}
