use Rattle.std.proofs.Common.{sym, subst}
use Rattle.run_laws.specs.Lanes.{IsSoonest}
use Rattle.run_laws.proofs.Soonest.{is_soonest}
use Rattle.run_laws.proofs.ended.EndedLanes.fault.Goals as goal

pub returns-clause-soonest : goal.returns-clause-soonest
returns-clause-soonest c = subst (IsSoonest c.args.self.now) (sym c.first.ensures) (is_soonest c.args.self.now)
