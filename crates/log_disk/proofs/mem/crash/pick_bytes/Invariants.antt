use Rattle.std.proofs.Common.{map}
use Rattle.log_disk.specs.MemDisk.{range_of}
use Rattle.log_disk.proofs.Crashes.{PickedTo}
use Rattle.log_disk.proofs.mem.crash.pick_bytes.Given as goal

abbrev pub invariant-loop-at : goal.invariant-loop-at
invariant-loop-at l = PickedTo (map range_of l.unsynced) l.region l.picks l.initial.bytes l.bytes l.rest l.at
