use Rattle.std.proofs.Common.{◌==◌}
use Rattle.std.specs.Prelude.{nat_eq}
use Rattle.std.specs.Int.{bit_at}
use Rattle.std.specs.List.{list_any}
use Rattle.partition_hold.proofs.Bits.{same_regions}
use Rattle.partition_hold.proofs.regions.RegionSet.of.Goals as goal

pub returns : goal.returns
returns c = same_regions (λ r. bit_at c.word_of.result r == 1) (λ r. list_any (nat_eq r) c.args.regions.now) c.word_of.ensures
