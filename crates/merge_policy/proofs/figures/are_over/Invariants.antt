use Rattle.std.proofs.Common.{◌≡◌, nat_lt, length}
use Rattle.std.specs.List.{sum_by}
use Rattle.merge_policy.specs.Figures.{part_len}
use Rattle.merge_policy.proofs.figures.are_over.Given as goal

-- what is left of the bytes decides over the parts that are left
abbrev pub invariant-loop-part : goal.invariant-loop-part
invariant-loop-part l = nat_lt l.most (sum_by part_len l.parts) ≡ nat_lt l.left (sum_by part_len l.rest)

abbrev pub decreases-loop-part : goal.decreases-loop-part
decreases-loop-part l = length l.rest
