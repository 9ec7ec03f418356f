use Rattle.std.proofs.Common.{◌∙◌, ap}
use Rattle.std.specs.Prelude.{filter, nat_eq, not}
use Rattle.partition_hold.proofs.Sets.{removed}
use Rattle.partition_hold.proofs.regions.RegionSet.remove.Goals as goal

pub returns : goal.returns
returns c = removed c.self.inside.bits c.args.region c.requires ∙ ap (filter (λ r. not (nat_eq r c.args.region))) c.self.view_is
