use Rattle.std.proofs.Common.{◌∙◌, ap, rules}
use Rattle.partition_hold.specs.Boards.{buffers_of, held_of}
use Rattle.partition_hold.proofs.Bits.{none_more}
use Rattle.partition_hold.proofs.board.Board.new.Goals as goal

pub loop-preserved : goal.loop-preserved
loop-preserved g c = record {
  len = search rules;
  empty = ap (buffers_of g.E.LogEye.state) c.in_ok-push.ensures.items ∙ none_more (held_of g.E.LogEye.state) c.loop.buffers.items c.loop.counter c.loop.invariant.empty;
}
