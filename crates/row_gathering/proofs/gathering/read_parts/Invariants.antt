-- The disk is as it was, and the bytes up to a place are the rows of the parts so far, with their keys.
use Rattle.std.proofs.Common.{◌≡◌, ◌≤◌, length, take}
use Rattle.row_gathering.specs.Gathering.{bodies_len}
use Rattle.row_gathering.specs.Steps.{AreRead}
use Rattle.row_gathering.proofs.gathering.read_parts.Given as goal

abbrev pub invariant-loop-part : goal.invariant-loop-part
invariant-loop-part g l = record {
  same : g.D.LogDisk.state l.disk ≡ g.D.LogDisk.state l.fn.disk;
  long : length l.bytes ≡ bodies_len l.parts;
  within : l.at ≤ bodies_len (take l.part-index l.parts);
  read : AreRead (g.D.LogDisk.state l.fn.disk) (take l.part-index l.parts) (take l.at l.bytes) l.keys.items;
}
