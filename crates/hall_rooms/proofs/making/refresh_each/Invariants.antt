use Rattle.std.proofs.Common.{◌≡◌, ℕ}
use mathlib.Core.Option.{some}
use lib.ListN.{get_elem?}
use Rattle.hall_rooms.specs.Rooms.{RoomPass, IsRoomPass, beginning_of}
use Rattle.hall_rooms.specs.Making.{RenewsBelow}
use Rattle.hall_rooms.proofs.making.refresh_each.Given as goal

abbrev pub invariant-loop-at : goal.invariant-loop-at
invariant-loop-at g l = record {
  passes : (i : ℕ) (p : RoomPass) → get_elem? l.passes i ≡ some p → IsRoomPass l.hall p;
  below : RenewsBelow (beginning_of l.hall) l.at l.initial.passes l.passes;
}
