use Rattle.std.proofs.Common.{◌≡◌, ◌+◌, ◌++◌, [], drop, slice_get, Some, ap, ◌∙◌}
use Rattle.std.specs.Prelude.{unwrap_or}
use Rattle.fine_model.specs.declared.Rec.TheVariants as rec
use Rattle.fine_model.specs.Map.{is_below}
use Rattle.fine_model.specs.Pushed.{split_inner}
use Rattle.btree_nodes.specs.declared.growth.Growth.{Growth}
use Rattle.btree_nodes.specs.Growths.{grown_of, split_rows}
use Rattle.btree_nodes.proofs.Grown.{if_ok, rest_from}
use Rattle.btree_nodes.proofs.growth.split_inner.Goals as goal

pub returns-clause-grown : goal.returns-clause-grown
unfolding split_inner
returns-clause-grown c =
    let seps = c.args.seps.now in
    let middle : c.middle_sep-middle.result.now ≡ unwrap_or (slice_get seps 16) [] = c.middle_sep-middle.ensures in
    let right : c.in_ok-copy_all.field-0 ≡ drop 17 seps = (c.in_ok-copy_all.ensures) ∙ rest_from 17 c.as_slice.result.now ∙ ap (drop 17) c.as_slice.ensures in
    let kids : c.in_ok-copy_all-2.field-0 ≡ drop 17 c.args.kids.now = (c.in_ok-copy_all-2.ensures) ∙ rest_from 17 c.as_slice-2.result.now ∙ ap (drop 17) c.as_slice-2.ensures in
    let cut : c.in_ok-copy.field-0 ≡ unwrap_or (slice_get seps 16) [] = (c.in_ok-copy.ensures) ∙ middle in
    let left : c.is_below-left.result ≡ is_below c.args.sep (unwrap_or (slice_get seps 16) []) = c.is_below-left.ensures ∙ (λ i. is_below (c.as_slice-3.ensures i) ((c.as_slice-4.ensures ∙ middle) i)) in
    let at = c.args.at in
    if_ok
    (λ (g : Growth). grown_of g ≡ record { rows = c.args.below ++ split_rows at.bucket at.number at.version c.args.next (rec.InnerImage c.in_ok-copy_all.field-0 c.in_ok-copy_all-2.field-0) (rec.CutInner c.in_ok-copy.field-0) (rec.Link c.args.sep c.args.right) c.is_below-left.result; next = c.args.next + 1; split = Some (c.middle_sep-middle.result.now, c.args.next) })
    (λ (g : Growth). grown_of g ≡ split_inner at.bucket at.number at.version seps c.args.kids.now (unwrap_or (slice_get seps 16) []) c.args.below c.args.next c.args.sep c.args.right) c.split_off.result
    (λ g is. is
    ∙ (λ i. record {
      rows = c.args.below ++ split_rows at.bucket at.number at.version c.args.next (rec.InnerImage (right i) (kids i)) (rec.CutInner (cut i)) (rec.Link c.args.sep c.args.right) (left i);
      next = c.args.next + 1;
      split = Some (middle i, c.args.next);
    })) c.split_off.ensures.grown
