use Rattle.private_log.proofs.Pushing.{kept_empty}
use Rattle.private_log.proofs.PrivateLog.new.Goals as goal

pub invariant_of-result : goal.invariant_of-result
invariant_of-result c = kept_empty _ c.new.ensures.items c.new-2.ensures.empty c.new-3.ensures.items c.new-2.ensures.ordered
