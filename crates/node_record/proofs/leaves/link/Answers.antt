use Rattle.std.proofs.Common.{◌+◌, ◌∙◌, ap, arith}
use Rattle.std.specs.List.{remove}
use Rattle.node_record.proofs.Changes.{link_there, link_absent, remove_inserted}
use Rattle.node_record.proofs.leaves.link.Goals as goal

pub returns-in_default-clause-ok : goal.returns-in_default-clause-ok
returns-in_default-clause-ok c = link_there c.args.key.now c.args.seps.now c.args.kids.now c.args.child c.in_default.field-0 c.in_default.ensures

pub returns-in-Err-insert-clause-err_kids : goal.returns-in-Err-insert-clause-err_kids
returns-in-Err-insert-clause-err_kids c =
    c.remove-child.ensures.items ∙ ap (λ ys. remove ys (c.in-Err.i + 1)) c.in_ok-insert.ensures.ok ∙ remove_inserted c.args.kids.now (c.in-Err.i + 1) c.args.child (omega (arith, c.in-Err.ensures.within, c.requires.kids))

pub returns-clause-ok : goal.returns-clause-ok
returns-clause-ok c =
    let same = link_absent c.args.key.now c.args.seps.now c.args.kids.now c.args.child c.in-Err.i c.in-Err.ensures (omega (arith, c.requires.few)) in
    let seps = c.in_default-insert.ensures.ok in
    let kids = c.in_ok-insert.ensures.ok in
    let copied = c.in_ok-separator.ensures in
    cc
