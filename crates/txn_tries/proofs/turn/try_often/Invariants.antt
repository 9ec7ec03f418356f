use Rattle.hall_rooms.specs.Rooms.{beginning_of}
use Rattle.txn_tries.specs.Going.{IsAtRest, Waits}
use Rattle.txn_tries.proofs.turn.try_often.Given as goal

abbrev pub invariant-loop-tries : goal.invariant-loop-tries
invariant-loop-tries g l = record {
  rest : IsAtRest l.hall l.initial.pass.number l.txn l.pass;
  waits : Waits l.options.group l.scripted (beginning_of l.hall) l.initial.pass l.pass;
}

abbrev pub decreases-loop-tries : goal.decreases-loop-tries
decreases-loop-tries g l = l.tries.left
