use Rattle.std.proofs.Common.{◌≡◌}
use Rattle.hall_rooms.specs.Rooms.{beginning_of}
use Rattle.txn_tries.specs.Going.{IsGoing, Waits, txn_of}
use Rattle.txn_tries.proofs.committing.commit.Given as goal

abbrev pub invariant-loop : goal.invariant-loop
invariant-loop g l = record {
  more : (goal.iterator-loop g).can_next l.iterator' × (goal.iterator-loop g).is_finite l.iterator';
  going : IsGoing l.hall l.txn l.pass;
  draft : l.txn.draft ≡ l.initial.txn.draft;
  waits : Waits l.options.group (txn_of l.initial.txn.draft) (beginning_of l.hall) l.initial.pass l.pass;
}
