use Rattle.std.proofs.Common.{◌≡◌, []}
use Rattle.log_disk_tests.proofs.tests.steps.Given as goal

abbrev pub invariant-loop-call : goal.invariant-loop-call
invariant-loop-call l = (l.disk.disk.regions ≡ 4) × (l.disk.disk.region_len ≡ 2) × (l.disk.disk.eyes ≡ [])
