use Rattle.std.proofs.Common.{◌≡◌, ◌++◌, Some, refl, ap, subst}
use Rattle.partition_merge.specs.declared.piece.Merged.TheVariants as merged
use Rattle.partition_merge.specs.Leaves.{IsMergedInto}
use Rattle.partition_merge.specs.Merging.{merged_of}
use Rattle.partition_merge.proofs.Pieces.{both_found, image_found}
use Rattle.partition_merge.proofs.pass.Pass.merged.Goals as goal

pub returns-in_default : goal.returns-in_default
returns-in_default c a b h k some =
    let stays : merged_of c.args.pieces.now.node (a ++ b) ≡ a ++ b = subst (IsMergedInto c.args.spells c.args.pieces.now.node (a ++ b)) c.in_default.is (c.in_ok-image.ensures a b h k) in
    both_found c.args.spells c.args.self.now c.args.pieces.now.node c.args.pieces.now.older c.args.pieces.now.newer a b _ h k some stays c.of_both.ensures (λ i. merged.Both (c.span_of.ensures i) (c.span_of-in_default.ensures i))

pub returns : goal.returns
returns c a b h k some =
    let stands : IsMergedInto c.args.spells c.args.pieces.now.node (a ++ b) (Some c.in-Some.image) = subst (IsMergedInto c.args.spells c.args.pieces.now.node (a ++ b)) c.in-Some.is (c.in_ok-image.ensures a b h k) in
    image_found c.args.spells c.args.self.now c.args.pieces.now.node c.args.pieces.now.older c.args.pieces.now.newer a b c.in-Some.image _ h k stands (ap (λ t. t.node) c.of_image.ensures) (ap (λ t. t.rows) c.of_image.ensures) (ap (λ t. t.area) c.of_image.ensures) (ap (λ t. t.ordered) c.of_image.ensures) refl
