use Rattle.std.proofs.Common.{◌≡◌, drop}
use Rattle.fine_model.specs.Boards.{names_region, first_from}
use Rattle.partition_hold.specs.Boards.{buffers_of}
use Rattle.partition_hold.proofs.board.first_naming.Given as goal

abbrev pub invariant-loop-at : goal.invariant-loop-at
invariant-loop-at g l = first_from (names_region l.region) 0 (buffers_of g.E.LogEye.state l.buffers) ≡ first_from (names_region l.region) l.at (buffers_of g.E.LogEye.state (drop l.at l.buffers))
