use Rattle.std.proofs.Common.{◌≡◌, ◌++◌, List, length}
use Rattle.fine_model.specs.declared.Part.{Part}
use Rattle.merge_policy.specs.Choices.{neighbours, question}
use Rattle.merge_policy.specs.Steps.{BestSoFar}
use Rattle.merge_policy.proofs.policy.best_for.Given as goal

-- the best of the pairs that were seen, before those that are left
abbrev pub invariant-loop-older : goal.invariant-loop-older
invariant-loop-older l = (seen : List (Part × Part)) × (neighbours l.parts ≡ seen ++ neighbours l.left) × BestSoFar (question l.space l.known) l.aim seen l.best

abbrev pub decreases-loop-older : goal.decreases-loop-older
decreases-loop-older l = length l.left
