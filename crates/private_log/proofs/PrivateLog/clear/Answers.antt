use Rattle.private_log.proofs.Pushing.{kept_empty}
use Rattle.private_log.proofs.PrivateLog.clear.Goals as goal

pub invariant_of-self : goal.invariant_of-self
invariant_of-self c = kept_empty _ c.clear.ensures.items c.clear-2.ensures.empty c.clear-3.ensures.items c.clear-2.ensures.ordered
