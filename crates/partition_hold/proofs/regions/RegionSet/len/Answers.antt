use Rattle.std.proofs.Common.{◌∙◌, ◌==◌, ap, sym, subst, length, ◌≡◌, List, ℕ}
use Rattle.std.specs.Int.{bit_at}
use Rattle.fine_model.specs.Boards.{set_of}
use Rattle.partition_hold.proofs.Sets.{counted, same_set}
use Rattle.partition_hold.proofs.regions.RegionSet.len.Goals as goal

pub returns-clause-count : goal.returns-clause-count
returns-clause-count c = sym (counted c.self.inside.bits c.self.invariant) ∙ ap length c.self.view_is

pub returns-clause-ordered : goal.returns-clause-ordered
returns-clause-ordered c = subst (λ (xs : List ℕ). set_of xs ≡ xs) c.self.view_is (same_set (λ r. bit_at c.self.inside.bits r == 1))
