use Rattle.std.proofs.Common.{◌≡◌, List, length}
use Rattle.std.specs.Prelude.{vec_len, vec_capacity}
use Rattle.partition_hold.specs.Views.{ViewValue}
use Rattle.epoch_room.specs.Value.{RoomValue}
use Rattle.hall_rooms.specs.Opening.{MakesFronts, MakesMiddles, StandsAlone}
use Rattle.hall_rooms.proofs.Fresh.{Filling}
use Rattle.hall_rooms.proofs.opening.make_middles.Given as goal

abbrev pub invariant-loop-i : goal.invariant-loop-i
invariant-loop-i g l = Filling (λ views. (old : RoomValue) (fronts : List ViewValue) → StandsAlone old → length fronts ≡ l.seats → MakesFronts old l.initial.room l.seats fronts → MakesMiddles old l.room fronts views) l.seats l.i l.middles.items (vec_len l.middles) (vec_capacity l.middles)
