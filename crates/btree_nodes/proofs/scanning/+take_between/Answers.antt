use Rattle.std.proofs.Common.{◌&&◌, not, sym, ap, ◌∙◌}
use Rattle.fine_model.specs.Map.{is_below}
use Rattle.btree_nodes.proofs.Scanned.{taken_if}
use Rattle.btree_nodes.proofs.scanning.+take_between.Goals as goal

pub returns-clause-taken : goal.returns-clause-taken
returns-clause-taken t c =
    let low = c.args.low.now in
    let high = c.args.high.now in
    taken_if low high c.args.wanted c.args.out.now c.push.new.self c.take_between-2.new.out c.pair-item.result c.in_ok-copy.field-0 c.args.pairs.now c.in-len1-up.len_at_least c.pair-item.is c.in_ok-copy.ensures c.in_ok-push.ensures.ok c.if-wanted-eq0.false
    (ap (λ k. not (is_below k low) && is_below k high) (sym c.as_slice.ensures) ∙ sym c.is_between.ensures ∙ c.if-not-is_between.false)
    c.take_between-2.result c.take_between-2.ensures.taken
