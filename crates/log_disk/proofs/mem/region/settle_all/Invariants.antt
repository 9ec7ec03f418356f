use Rattle.std.proofs.Common.{◌≡◌, map, take}
use Rattle.log_disk.specs.Region.{bytes_of, synced_of}
use Rattle.log_disk.proofs.mem.region.settle_all.Given as goal

abbrev pub invariant-loop-row : goal.invariant-loop-row
invariant-loop-row l = (map bytes_of l.rows ≡ map bytes_of l.initial.rows) × (map synced_of (take l.row-index l.rows) ≡ map bytes_of (take l.row-index l.initial.rows))
