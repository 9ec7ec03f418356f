use Rattle.std.proofs.Common.{subst, sym}
use Rattle.run_laws.specs.Lanes.{EndsLane}
use Rattle.run_laws.proofs.Ending.{ends_lane}
use Rattle.run_laws.proofs.ended.EndedLanes.end.Goals as goal

pub returns-clause-ends : goal.returns-clause-ends
returns-clause-ends c = subst (λ faults. EndsLane c.args.self.now faults c.args.lane c.args.fault) (sym c.set.ensures.set) (ends_lane c.args.self.now c.args.lane c.args.fault c.set.ensures.whole c.requires)
