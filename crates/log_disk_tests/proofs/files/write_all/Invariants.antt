use Rattle.std.proofs.Common.{◌≡◌, []}
use Rattle.log_disk_tests.proofs.files.write_all.Given as goal

abbrev pub invariant-loop-region : goal.invariant-loop-region
invariant-loop-region l = (l.disk.disk.regions ≡ 4) × (l.disk.disk.region_len ≡ 8) × (l.disk.disk.eyes ≡ [])
