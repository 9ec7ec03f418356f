use Rattle.std.proofs.Common.{◌≡◌, ◌*◌, length}
use Rattle.partition_index_tests.proofs.tests.thousand.Given as goal

abbrev pub invariant-loop-i : goal.invariant-loop-i
invariant-loop-i l = length l.bytes.items ≡ 14 * l.i
