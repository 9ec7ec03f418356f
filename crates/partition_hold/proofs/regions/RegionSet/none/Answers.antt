use Rattle.std.proofs.Common.{refl}
use Rattle.partition_hold.proofs.Sets.{lowest_none}
use Rattle.partition_hold.proofs.regions.RegionSet.none.Goals as goal

pub returns : goal.returns
returns c = lowest_none 0 refl
