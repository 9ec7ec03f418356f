use Rattle.std.proofs.Common.{◌∙◌, ap, sym}
use Rattle.std.specs.Prelude.{slice_get}
use Rattle.partition_hold.proofs.Sets.{lowest_none, lowest_some}
use Rattle.partition_hold.proofs.regions.RegionSet.lowest.Goals as goal

pub returns-then-self-eq0-clause-lowest : goal.returns-then-self-eq0-clause-lowest
returns-then-self-eq0-clause-lowest c = sym (ap (λ xs. slice_get xs 0) (lowest_none c.self.inside.bits c.if-self-eq0.true)) ∙ ap (λ xs. slice_get xs 0) c.self.view_is

pub returns-clause-lowest : goal.returns-clause-lowest
returns-clause-lowest c = sym (lowest_some c.self.inside.bits c.if-self-eq0.false c.self.invariant) ∙ ap (λ xs. slice_get xs 0) c.self.view_is
