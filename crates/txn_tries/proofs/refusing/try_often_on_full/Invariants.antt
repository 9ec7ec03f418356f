use Rattle.hall_rooms.specs.Rooms.{beginning_of}
use Rattle.txn_tries.specs.Going.{IsAtRest, OnlySees}
use Rattle.txn_tries.proofs.refusing.try_often_on_full.Given as goal

abbrev pub invariant-loop-tries : goal.invariant-loop-tries
invariant-loop-tries g l = record {
  rest : IsAtRest l.hall l.initial.pass.number l.txn l.pass;
  sees : OnlySees (beginning_of l.hall) l.initial.pass l.pass;
}

abbrev pub decreases-loop-tries : goal.decreases-loop-tries
decreases-loop-tries g l = l.tries.left
