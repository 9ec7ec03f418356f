use Rattle.std.proofs.Common.{◌≡◌, ◌+◌, ◌++◌, drop, Some, ap, ◌∙◌}
use Rattle.fine_model.specs.declared.Rec.TheVariants as rec
use Rattle.fine_model.specs.Map.{is_below}
use Rattle.fine_model.specs.Pushed.{key_at, split_leaf}
use Rattle.btree_nodes.specs.declared.growth.Growth.{Growth}
use Rattle.btree_nodes.specs.Growths.{grown_of, split_rows}
use Rattle.btree_nodes.proofs.Grown.{if_ok, rest_from}
use Rattle.btree_nodes.proofs.growth.split_leaf.Goals as goal

pub returns-clause-grown : goal.returns-clause-grown
unfolding split_leaf
returns-clause-grown c =
    let pairs = c.args.pairs.now in
    let middle : c.middle_key-middle.result.now ≡ key_at pairs 16 = c.middle_key-middle.ensures in
    let image : c.in_ok-copy_all.field-0 ≡ drop 16 pairs = (c.in_ok-copy_all.ensures) ∙ rest_from 16 c.as_slice.result.now ∙ ap (drop 16) c.as_slice.ensures in
    let cut : c.in_ok-copy.field-0 ≡ key_at pairs 16 = (c.in_ok-copy.ensures) ∙ middle in
    let left : c.is_below-left.result ≡ is_below c.args.key.now (key_at pairs 16) = c.is_below-left.ensures ∙ ap (is_below c.args.key.now) (c.as_slice-2.ensures ∙ middle) in
    let key : c.in_ok-from_slice.field-0 ≡ c.args.key.now = (c.in_ok-from_slice.ensures) in
    let value : c.in_ok-from_slice-2.field-0 ≡ c.args.value.now = (c.in_ok-from_slice-2.ensures) in
    let at = c.args.at in
    if_ok
    (λ (g : Growth). grown_of g ≡ record { rows = c.new.result ++ split_rows at.bucket at.number at.version c.args.next (rec.LeafImage c.in_ok-copy_all.field-0) (rec.CutLeaf c.in_ok-copy.field-0) (rec.Put c.in_ok-from_slice.field-0 c.in_ok-from_slice-2.field-0) c.is_below-left.result; next = c.args.next + 1; split = Some (c.middle_key-middle.result.now, c.args.next) })
    (λ (g : Growth). grown_of g ≡ split_leaf at.bucket at.number at.version c.args.next (c.args.key.now, c.args.value.now) pairs (key_at pairs 16)) c.split_off.result
    (λ g is. is
    ∙ (λ i. record {
      rows = c.new.ensures i ++ split_rows at.bucket at.number at.version c.args.next (rec.LeafImage (image i)) (rec.CutLeaf (cut i)) (rec.Put (key i) (value i)) (left i);
      next = c.args.next + 1;
      split = Some (middle i, c.args.next);
    })) c.split_off.ensures.grown
