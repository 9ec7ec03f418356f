use Rattle.node_record.specs.Bounds.{FitsNode}
use Rattle.node_record_tests.proofs.tests.after.Given as goal

abbrev pub invariant-loop-text : goal.invariant-loop-text
invariant-loop-text l = FitsNode l.node
