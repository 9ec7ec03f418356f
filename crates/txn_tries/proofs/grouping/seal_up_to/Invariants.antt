use Rattle.hall_rooms.specs.Rooms.{IsIdle, beginning_of}
use Rattle.txn_tries.specs.Committing.{SealsOn}
use Rattle.txn_tries.proofs.grouping.seal_up_to.Given as goal

abbrev pub invariant-loop : goal.invariant-loop
invariant-loop g l = record {
  more : (goal.iterator-loop g).can_next l.iterator' × (goal.iterator-loop g).is_finite l.iterator';
  idle : IsIdle l.hall l.pass;
  seals : SealsOn l.options.group (beginning_of l.hall) l.initial.pass l.pass;
}
