use Rattle.std.proofs.Common.{◌≡◌, ◌+◌, length, sym, ap, ◌∙◌, arith}
use Rattle.std.specs.List.{insert, remove}
use Rattle.node_cache.proofs.PairSteps.{has_it, has_not, unset_there, insert_removed, length-remove_one}
use Rattle.node_cache.proofs.pairs.unset_pair.Goals as goal

pub returns-in_default-clause-done : goal.returns-in_default-clause-done
returns-in_default-clause-done c = sym (has_not c.args.pairs.now c.args.key.now c.in_default.field-0 c.in_default.ensures)

pub returns-clause-done : goal.returns-clause-done
returns-clause-done c = sym (has_it c.args.pairs.now c.args.key.now c.in-Ok.at c.in-Ok.ensures)

pub returns-clause-step : goal.returns-clause-step
returns-clause-step c =
    let ps = c.args.pairs.now in
    let at = c.in-Ok.at in
    let is = c.remove-pair.ensures.items in
    let fewer : length (remove ps at) + 1 ≡ length ps = length-remove_one ps at c.in-Ok.ensures.within in (
      is ∙ unset_there ps c.args.key.now at c.in-Ok.ensures,
      (omega (arith, ap length is, fewer, (c.in-Ok.ensures).within), omega (arith, ap length is, fewer, (c.in_ok-room.ensures).capacity, c.len.ensures), (c.in_ok-room.ensures).items),
      ap (λ qs. insert qs at c.remove-pair.result) is ∙ insert_removed ps at c.remove-pair.result c.remove-pair.ensures.stood,
    )
