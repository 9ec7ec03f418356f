use Rattle.std.proofs.Common.{arith}
use Rattle.script_text.proofs.Feeding.{moves}
use Rattle.script_text.proofs.lines.Chunk.move_line.Goals as goal

pub returns-clause-feed : goal.returns-clause-feed
returns-clause-feed c fed = let f = c.feed_in-len.ensures in let within = f.within in
    moves _ _ _ _ _ _ _ _ c.front-front.ensures f.within c.if-len-front.false (f.feed (omega arith)) (omega arith) c.extend.ensures c.skip-2.ensures
