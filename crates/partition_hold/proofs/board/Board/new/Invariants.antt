use Rattle.std.proofs.Common.{◌≡◌, None}
use Rattle.std.specs.Prelude.{replicate, vec_len}
use Rattle.partition_hold.specs.Boards.{buffers_of}
use Rattle.partition_hold.proofs.board.Board.new.Given as goal

abbrev pub invariant-loop : goal.invariant-loop
invariant-loop g l = record {
  len : vec_len l.buffers ≡ l.counter;
  empty : buffers_of g.E.LogEye.state l.buffers.items ≡ replicate l.counter None;
}
