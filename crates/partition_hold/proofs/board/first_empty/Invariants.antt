use Rattle.std.proofs.Common.{◌≡◌, drop, map}
use Rattle.std.specs.Prelude.{option_map}
use Rattle.partition_hold.specs.Boards.{held_of, is_empty, first_from}
use Rattle.partition_hold.proofs.board.first_empty.Given as goal

abbrev pub invariant-loop-at : goal.invariant-loop-at
invariant-loop-at l = first_from is_empty 0 (map (option_map held_of) l.buffers) ≡ first_from is_empty l.at (map (option_map held_of) (drop l.at l.buffers))
