use Rattle.std.proofs.Common.{◌≡◌, []}
use Rattle.node_cache_tests.proofs.tests.fill.Given as goal

abbrev pub invariant-loop-number : goal.invariant-loop-number
invariant-loop-number l = l.bucket.saved ≡ []
