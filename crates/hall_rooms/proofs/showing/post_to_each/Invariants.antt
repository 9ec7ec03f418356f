use Rattle.std.proofs.Common.{◌≡◌, ◌<◌, false}
use Rattle.hall_rooms.specs.Rooms.{IsRoomPass, beginning_of}
use Rattle.hall_rooms.specs.Steps.{PostedBelow, Stays}
use Rattle.hall_rooms.proofs.showing.post_to_each.Given as goal

abbrev pub invariant-loop-i : goal.invariant-loop-i
invariant-loop-i g l = record {
  pass : IsRoomPass l.hall l.pass × (l.pass.number ≡ l.initial.pass.number);
  stays : Stays l.initial.pass l.pass;
  posted : PostedBelow (beginning_of l.hall) l.i l.initial.room.room l.room l.pass;
  is_open : 0 < l.i → l.room.room.is_shut ≡ false;
  at_first : l.i ≡ 0 → l.room ≡ l.initial.room;
}
