use Rattle.std.proofs.Common.{◌≡◌, []}
use Rattle.log_disk_tests.proofs.tests.bytes.Given as goal

abbrev pub invariant-loop-k : goal.invariant-loop-k
invariant-loop-k l = (l.disk.disk.regions ≡ 4) × (l.disk.disk.region_len ≡ 2) × (l.disk.disk.eyes ≡ [])
