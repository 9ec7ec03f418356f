use Rattle.std.proofs.Common.{refl, ap}
use Rattle.log_disk.specs.Eyes.{numbers_to}
use Rattle.log_disk.proofs.mem.MemDiskLogDisk.close.Goals as goal

pub returns-clause-closes : goal.returns-clause-closes
returns-clause-closes c = rw (← c.self.view_is) (rw (← c.eye.view_is) (record {
  listed = c.close.ensures.eyes;
  told = refl;
  others = (refl, refl, refl, c.add.ensures.own);
  given = ap numbers_to c.close.ensures.given;
  faults = c.add.ensures.all;
  no_lower = c.add.ensures.no_lower;
}))
