-- The disk is as it was, and these are the parts of the regions that were read.
use Rattle.std.proofs.Common.{◌≡◌}
use Rattle.reopen.proofs.Seeing.{HasRead}
use Rattle.reopen.proofs.headers.read_parts.Given as goal

abbrev pub invariant-loop-region : goal.invariant-loop-region
invariant-loop-region g l = record {
  same : g.D.LogDisk.state l.disk ≡ g.D.LogDisk.state l.fn.disk;
  has_read : HasRead (g.D.LogDisk.state l.fn.disk) l.region l.parts;
}
