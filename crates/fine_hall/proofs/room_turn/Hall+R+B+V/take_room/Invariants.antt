use Rattle.std.proofs.Common.{◌≡◌}
use Rattle.fine_hall.specs.Halls.{IsPassOf, Waits}
use Rattle.fine_hall.proofs.room_turn.Hall+R+B+V.take_room.Given as goal

abbrev pub invariant-loop : goal.invariant-loop
invariant-loop g l = record {
  more : (goal.iterator-loop g).can_next l.iterator' × (goal.iterator-loop g).is_finite l.iterator';
  pass : IsPassOf g.R.RoomLaw.state g.R.RoomLaw.origin g.V.ViewLaw.state l.self l.pass;
  waits : Waits l.initial.pass l.pass;
  number : l.pass.number ≡ l.initial.pass.number;
}
