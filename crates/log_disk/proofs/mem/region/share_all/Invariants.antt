use Rattle.std.proofs.Common.{◌≡◌, map, take}
use Rattle.log_disk.specs.Region.{bytes_of}
use Rattle.log_disk.proofs.mem.region.share_all.Given as goal

abbrev pub invariant-loop-row : goal.invariant-loop-row
invariant-loop-row l = map (λ bytes. bytes.value.items) l.shared.items ≡ map bytes_of (take l.row-index l.rows)
