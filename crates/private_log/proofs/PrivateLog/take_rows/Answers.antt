use Rattle.std.proofs.Common.{ap, ◌∙◌}
use Rattle.private_log.proofs.Pushing.{kept_empty}
use Rattle.private_log.proofs.PrivateLog.take_rows.Goals as goal

pub invariant_of-self : goal.invariant_of-self
invariant_of-self c = kept_empty _ c.clear.ensures.items c.clear-2.ensures.empty (ap (λ v. v.items) c.replace.ensures.after ∙ c.new-none.ensures.items) c.clear-2.ensures.ordered
