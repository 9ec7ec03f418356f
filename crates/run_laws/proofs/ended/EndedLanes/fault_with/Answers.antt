use Rattle.std.proofs.Common.{sym, ap, ◌∙◌, Some}
use Rattle.run_laws.specs.Lanes.{first_fault, sooner, with_last}
use Rattle.run_laws.proofs.Soonest.{soonest_with}
use Rattle.run_laws.proofs.ended.EndedLanes.fault_with.Goals as goal

pub returns-in-Some : goal.returns-in-Some
returns-in-Some c = c.sooner.ensures ∙ ap (λ first. sooner first (Some c.in-Some.fault)) c.first.ensures ∙ sym (soonest_with c.args.self.now (Some c.in-Some.fault)) ∙ ap (λ last. first_fault (with_last c.args.self.now last)) (sym c.in-Some.is)
