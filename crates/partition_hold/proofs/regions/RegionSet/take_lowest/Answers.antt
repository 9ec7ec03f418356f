use Rattle.std.proofs.Common.{◌∙◌, ◌≡◌, ◌<◌, ◌==◌, ap, sym, Some}
use Rattle.std.specs.Prelude.{slice_get, drop}
use Rattle.std.specs.Int.{bit_at}
use Rattle.partition_hold.proofs.Sets.{removed, without_first}
use Rattle.partition_hold.proofs.regions.RegionSet.take_lowest.Goals as goal

pub returns-clause-left : goal.returns-clause-left
returns-clause-left c =
    let is : c.lowest.result ≡ Some c.in_ok-region.region = c.in_ok-region.was in
    let small : c.in_ok-region.region < 64 = c.in_ok-region.ensures.small in
    removed c.self.inside.bits c.in_ok-region.region small
    ∙ without_first (λ r. bit_at c.self.inside.bits r == 1) c.in_ok-region.region (ap (λ xs. slice_get xs 0) c.self.view_is ∙ sym c.lowest.ensures.lowest ∙ is)
    ∙ ap (drop 1) c.self.view_is
