use Rattle.std.proofs.Common.{◌∙◌, ◌==◌, sym, ap}
use Rattle.std.specs.Prelude.{nat_eq}
use Rattle.std.specs.Int.{bit_at}
use Rattle.std.specs.List.{list_any}
use Rattle.std.proofs.lemmas.Nat.Bits.{shr_and_one}
use Rattle.partition_hold.proofs.Bits.{among}
use Rattle.partition_hold.proofs.regions.RegionSet.holds.Goals as goal

pub returns : goal.returns
returns c =
    ap (λ n. n == 1) (shr_and_one c.self.inside.bits c.args.region)
    ∙ sym (among (λ r. bit_at c.self.inside.bits r == 1) c.args.region c.requires) ∙ ap (list_any (nat_eq c.args.region)) c.self.view_is
