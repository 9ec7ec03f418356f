use Rattle.std.specs.Prelude.{vec_len, vec_capacity}
use Rattle.hall_rooms.specs.Opening.{MakesFronts}
use Rattle.hall_rooms.proofs.Fresh.{Filling}
use Rattle.hall_rooms.proofs.opening.make_fronts.Given as goal

abbrev pub invariant-loop-i : goal.invariant-loop-i
invariant-loop-i g l = Filling (λ views. MakesFronts l.initial.room l.room l.seats views) l.seats l.i l.fronts.items (vec_len l.fronts) (vec_capacity l.fronts)
