use Rattle.std.proofs.Common.{arith}
use Rattle.node_record.proofs.leaves.cut_inner.Goals as goal
use Rattle.node_record.proofs.leaves.cut_inner.Goals.{in-Ok, in-Err}

pub overflow_add-i : goal.overflow_add-i
overflow_add-i c = elim c.match-find_key.branch [ in-Ok w ↦ omega (arith, w.in-Ok.ensures.within, c.requires.few) | in-Err w ↦ omega (arith, w.in-Err.ensures.within, c.requires.few) ]
