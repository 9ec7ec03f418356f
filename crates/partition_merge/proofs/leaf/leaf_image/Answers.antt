use Rattle.std.proofs.Common.{Bor, ◌≡◌, ◌++◌, List, ℕ, [], map, subst, sym, length}
use Rattle.std.specs.Prelude.{IfSome}
use Rattle.fine_model.specs.declared.Node.TheVariants as node
use Rattle.fine_model.specs.declared.Rec.TheVariants as rec
use Rattle.fine_model.specs.Nodes.{replay}
use Rattle.fine_model.specs.RowBytes.{body}
use Rattle.partition_merge.specs.Leaves.{IsLeft, SpellsLeaf}
use Rattle.partition_merge.proofs.Leaves.{image_stands}
use Rattle.partition_merge.proofs.leaf.leaf_image.Goals as goal

pub returns : goal.returns
returns c mark also a b are more fresh long =
    let show : Bor (List ℕ) → List ℕ = λ t. t.now in
    let left : IsLeft (replay (node.Leaf [], 0) (a ++ b)) (map show c.in-Some.pairs) c.in-Some.version = subst (λ r. IfSome r (λ leaf. IsLeft (replay (node.Leaf [], 0) (a ++ b)) (map show leaf.0) leaf.1)) c.in-Some.is (c.in_ok-pairs.ensures mark also a b are more) in
    let measured : SpellsLeaf (map show c.as_slice.result.now) left.pairs = subst (λ (xs : List (Bor (List ℕ))). SpellsLeaf (map show xs) left.pairs) (sym c.as_slice.ensures) left.leaf in
    let spelled : SpellsLeaf (map show c.as_slice-2.result.now) left.pairs = subst (λ (xs : List (Bor (List ℕ))). SpellsLeaf (map show xs) left.pairs) (sym c.as_slice-2.ensures) left.leaf in
    let text : c.body_len-body.result ≡ length (body (rec.LeafImage left.pairs)) = c.body_len-body.ensures left.pairs measured in
    image_stands c.args.spells c.args.node (a ++ b) (map show c.in-Some.pairs) c.in-Some.version c.args.len c.body_len-body.result c.saturating_add-image.result c.in_ok-bytes.bytes.items c.if-node-eq0.false left fresh text c.saturating_add-image.ensures
    (c.in_ok-bytes.ensures.image left.pairs spelled text) c.if-image-len.false long
