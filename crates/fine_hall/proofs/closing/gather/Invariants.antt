use Rattle.std.proofs.Common.{◌≡◌, ◌+◌, ◌++◌, ℕ, List, [], length, reverse}
use Rattle.std.specs.Prelude.{vec_len, vec_capacity}
use mathlib.Core.Option.{some}
use lib.ListN.{get_elem?}
use Rattle.fine_places.specs.Telling as telling
use Rattle.fine_hall.specs.declared.pass.Pass.{Pass}
use Rattle.fine_hall.specs.Passes.{IsPass, HoldsNothing}
use Rattle.fine_hall.specs.Halls.{begun_by}
use Rattle.fine_hall.specs.Ending.{fronts_of, Gathers}
use Rattle.fine_hall.proofs.closing.gather.Given as goal

abbrev pub invariant-loop-pass : goal.invariant-loop-pass
invariant-loop-pass g l = record {
  table : l.seat.table_id ≡ l.places.table_id;
  still : l.seat.me.1 ≡ [];
  empty : telling.HoldsNothing l.seat.me.0;
  each : (i : ℕ) (p : Pass g.row.V.Denot) → get_elem? l.passes.items i ≡ some p → IsPass g.V.ViewLaw.state l.fn.places.table_id (begun_by g.R.RoomLaw.state g.R.RoomLaw.origin g.V.ViewLaw.state l.fn.places.key) p × HoldsNothing p;
  gathered : (done : List (Pass g.row.V.Denot)) × (l.fn.passes.items ≡ l.passes.items ++ reverse done) × Gathers done l.seat.me.0 × (l.back.items ≡ l.fn.back.items ++ fronts_of done);
  room : (vec_capacity l.back ≡ vec_capacity l.fn.back) × (vec_len l.back + vec_len l.passes ≡ vec_len l.fn.back + vec_len l.fn.passes);
}

abbrev pub decreases-loop-pass : goal.decreases-loop-pass
decreases-loop-pass g l = length l.passes.items
