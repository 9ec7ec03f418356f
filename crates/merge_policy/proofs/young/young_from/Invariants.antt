use Rattle.std.proofs.Common.{length}
use Rattle.merge_policy.proofs.Gathered.{IsSeen}
use Rattle.merge_policy.proofs.young.young_from.Given as goal

-- the parts from the youngest on were seen, down to those that are left
abbrev pub invariant-loop-part : goal.invariant-loop-part
invariant-loop-part l = IsSeen l.most l.parts l.left l.behind l.count l.oldest

abbrev pub decreases-loop-part : goal.decreases-loop-part
decreases-loop-part l = length l.left
