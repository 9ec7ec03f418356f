use Rattle.std.proofs.Common.{◌≡◌}
use Rattle.partition_index_tests.specs.declared.tests.TheConstants.{THOUSAND}
use Rattle.partition_index.specs.Parts.{IsSeen}
use Rattle.partition_index_tests.proofs.tests.seeks_among_a_thousand_nodes.Given as goal

abbrev pub invariant-loop-number : goal.invariant-loop-number
invariant-loop-number g l = record { seen : IsSeen l.eye.eye THOUSAND; len : l.eye.eye.region_len ≡ 16384 }
