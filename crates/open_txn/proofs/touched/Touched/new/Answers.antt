use Rattle.open_txn.proofs.Numbered.{new_numbered}
use Rattle.open_txn.proofs.touched.Touched.new.Goals as goal

pub invariant_of-result : goal.invariant_of-result
invariant_of-result c = new_numbered c.in_ok-no_flags.field-0.items c.in_ok-with_capacity.field-0.items _ c.in_ok-no_flags.ensures c.in_ok-with_capacity.ensures.items c.in_ok-with_capacity.ensures.capacity
