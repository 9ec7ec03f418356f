use Rattle.std.proofs.Common.{◌≡◌, map}
use Rattle.log_disk.specs.Disk.{zeros}
use Rattle.log_disk.specs.Region.{bytes_of, synced_of}
use Rattle.log_disk.proofs.mem.region.zero_regions.Given as goal

abbrev pub invariant-loop-r : goal.invariant-loop-r
invariant-loop-r l = (map bytes_of l.rows.items ≡ zeros l._r l.len) × (map synced_of l.rows.items ≡ zeros l._r l.len)
