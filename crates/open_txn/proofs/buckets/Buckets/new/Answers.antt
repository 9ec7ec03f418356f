use Rattle.open_txn.proofs.Standing.{is_new, new_are, new_stand}
use Rattle.open_txn.proofs.buckets.Buckets.new.Goals as goal

pub invariant_of-result : goal.invariant_of-result
invariant_of-result c = new_are _ c.in_ok-new_buckets.ensures c.in_ok-new.ensures

pub returns-clause-whole : goal.returns-clause-whole
returns-clause-whole c = new_are _ c.in_ok-new_buckets.ensures c.in_ok-new.ensures

pub returns-clause-stand : goal.returns-clause-stand
returns-clause-stand c = new_stand _ c.in_ok-new_buckets.ensures c.in_ok-new.ensures

pub returns-clause-new : goal.returns-clause-new
returns-clause-new c = is_new _ c.in_ok-new_buckets.ensures c.in_ok-new.ensures
