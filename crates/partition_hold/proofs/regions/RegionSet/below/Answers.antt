use Rattle.std.proofs.Common.{◌-◌, ◌^◌, ap, sym, rules}
use Rattle.std.proofs.lemmas.Nat.{one_shl}
use Rattle.partition_hold.proofs.Sets.{all_below}
use Rattle.partition_hold.proofs.regions.RegionSet.below.Goals as goal

pub returns-then-regions-eq-MOST_IN_LOG : goal.returns-then-regions-eq-MOST_IN_LOG
returns-then-regions-eq-MOST_IN_LOG c = all_below 18446744073709551615 c.args.regions c.requires (ap (λ k. 2 ^ k - 1) (sym c.if-regions-eq-MOST_IN_LOG.true))

pub returns : goal.returns
returns c = all_below _ c.args.regions c.requires (ap (λ n. n - 1) (one_shl c.args.regions 64 (search rules)))
