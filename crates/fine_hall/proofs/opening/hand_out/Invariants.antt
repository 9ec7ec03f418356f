use Rattle.std.proofs.Common.{◌≡◌, ◌+◌, ◌<◌, ◌≤◌, ◌++◌, List, [], length, map}
use Rattle.std.specs.Prelude.{vec_len, vec_capacity}
use Rattle.fine_boxes.specs.Boxes.{first_notes}
use Rattle.fine_hall.specs.Halls.{begun_by}
use Rattle.fine_hall.specs.Opening.{HandedOut}
use Rattle.fine_hall.proofs.Handing.{Beginner}
use Rattle.fine_hall.proofs.opening.hand_out.Given as goal

abbrev pub invariant-loop-fronts : goal.invariant-loop-fronts
invariant-loop-fronts g l = record {
  table : l.seat.table_id ≡ l.places.table_id;
  still : l.seat.me.1 ≡ [];
  left : Beginner (begun_by g.R.RoomLaw.state g.R.RoomLaw.origin g.V.ViewLaw.state l.places.key) (length l.fronts.items) l.seat.me.0.places;
  notes : l.seat.me.0.beside ≡ first_notes (map g.V.ViewLaw.state l.fronts.items);
  positive : 0 < length l.fronts.items;
  same_len : (length l.fronts.items ≡ vec_len l.fronts) × (length l.passes.items ≡ vec_len l.passes);
  counted : length l.passes.items + length l.fronts.items ≡ length l.fn.fronts.items;
  room : length l.fn.fronts.items ≤ vec_capacity l.passes;
  front : (more : List g.row.V.Denot) × (l.fn.fronts.items ≡ l.fronts.items ++ more);
  handed : HandedOut g.V.ViewLaw.state l.places.table_id (begun_by g.R.RoomLaw.state g.R.RoomLaw.origin g.V.ViewLaw.state l.places.key) l.fn.fronts.items l.passes.items;
}

abbrev pub decreases-loop-fronts : goal.decreases-loop-fronts
decreases-loop-fronts g l = length l.fronts.items
