-- The parts beside the chain, as far as they were looked at.
use Rattle.std.proofs.Common.{◌≡◌, ◌++◌, drop}
use Rattle.reopen.specs.Opening.{beside}
use Rattle.reopen.proofs.chain.parts_beside.Given as goal

abbrev pub invariant-loop-part : goal.invariant-loop-part
invariant-loop-part l = beside l.chain l.sealed ≡ l.retired ++ beside l.chain (drop l.part-index l.sealed)
