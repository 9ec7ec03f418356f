use Rattle.std.proofs.Common.{List, ◌++◌, reverse}
use Rattle.partition_hold.specs.Views.{ViewValue}
use Rattle.hall_rooms.specs.Boards.{Names}
use Rattle.hall_rooms.proofs.Naming.{BackSoFar}
use Rattle.hall_rooms.proofs.views.take_back_all.Given as goal

abbrev pub invariant-loop-view : goal.invariant-loop-view
invariant-loop-view g l = record {
  some : (others : List ViewValue) × Names l.room.room.board (reverse l.views.items ++ others);
  board : (others : List ViewValue) → Names l.initial.room.room.board (reverse l.initial.views.items ++ others) → Names l.room.room.board (reverse l.views.items ++ others);
  same : BackSoFar l.initial.views.items l.views.items l.initial.room l.room;
}

abbrev pub decreases-loop-view : goal.decreases-loop-view
decreases-loop-view g l = goal.left-loop-view g l
