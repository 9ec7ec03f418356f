use Rattle.std.proofs.Common.{◌≡◌, ◌-◌, ◌<◌, ap, ◌∙◌, arith}
use Rattle.fine_model.specs.Map.{Pair}
use Rattle.fine_model.specs.Pushed.{grown_inner, growth}
use Rattle.btree_nodes.specs.declared.growth.Growth.{Growth}
use Rattle.node_cache.specs.Given.{given}
use Rattle.btree_nodes.specs.Growths.{grown_of}
use Rattle.btree_nodes.proofs.Grown.{if_ok, grow_on}
use Rattle.btree_nodes.proofs.growth.+grow.Goals as goal

pub returns-clause-grown : goal.returns-clause-grown
returns-clause-grown t c =
    let b = c.args.bucket.now in
    let n = c.args.number in
    let h = c.args.height in
    let pair : Pair = (c.args.key.now, c.args.value.now) in
    let g = c.in_ok-below.below in
    let above : 0 < h = omega arith in
    if_ok (λ (r : Growth). grown_of r ≡ grown_inner b.bucket n (given b n).1 (given b n).0 g.rows g.next g.split) (λ (r : Growth). grown_of r ≡ growth h b.bucket (given b) c.args.next pair n) c.grow_inner.result
    (λ r is. is ∙ grow_on b.bucket (given b) c.args.next pair n h above (grown_of g) ((c.in_ok-below.ensures).grown ∙ ap (growth (h - 1) b.bucket (given b) c.args.next pair) c.child_for-child.ensures))
    c.grow_inner.ensures.grown
