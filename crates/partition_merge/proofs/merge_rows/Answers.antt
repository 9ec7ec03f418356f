use Rattle.std.proofs.Common.{◌≡◌, ◌++◌, sym, ap, ◌∙◌, arith, append-nil}
use Rattle.fine_model.specs.Merge.{merged}
use Rattle.partition_merge.proofs.Steps.{starts, split_run, GoesOn, goes_on, no_node, stands}
use Rattle.partition_merge.proofs.merge_rows.Goals as goal

pub split_at-requires : goal.split_at-requires
split_at-requires c =
    let s = starts c.in-Some.node c.loop-node.old_left.now c.loop-node.new_left.now c.loop-node.invariant.old_order c.loop-node.invariant.new_order (sym c.first_node.ensures ∙ c.in-Some.is) in
    let k = split_run c.in-Some.node c.loop-node.old_left.now c.loop-node.invariant.old_order s.old_from in
    let few = k.few in omega (arith, few, c.run_len.ensures)

pub split_at-requires-in-Some : goal.split_at-requires-in-Some
split_at-requires-in-Some c =
    let s = starts c.in-Some.node c.loop-node.old_left.now c.loop-node.new_left.now c.loop-node.invariant.old_order c.loop-node.invariant.new_order (sym c.first_node.ensures ∙ c.in-Some.is) in
    let k = split_run c.in-Some.node c.loop-node.new_left.now c.loop-node.invariant.new_order s.new_from in
    let few = k.few in omega (arith, few, c.run_len-in-Some.ensures)

going : (c : goal.In_ok-push_node) → GoesOn c.loop-node.old_left.now c.loop-node.new_left.now c.split_at.result.1.now c.split_at-in-Some.result.1.now (merged c.args.older.now c.args.newer.now) c.push_node.new.merged
going c =
    goes_on c.in-Some.node c.loop-node.old_left.now c.loop-node.new_left.now c.split_at.result.0.now c.split_at.result.1.now c.split_at-in-Some.result.0.now c.split_at-in-Some.result.1.now
    (merged c.args.older.now c.args.newer.now) c.loop-node.merged c.push_node.new.merged c.run_len.result c.run_len-in-Some.result
    c.loop-node.invariant.old_order c.loop-node.invariant.new_order c.loop-node.invariant.old_fit c.loop-node.invariant.new_fit
    (sym c.first_node.ensures ∙ c.in-Some.is) c.run_len.ensures c.run_len-in-Some.ensures
    c.split_at.ensures.front c.split_at.ensures.back c.split_at-in-Some.ensures.front c.split_at-in-Some.ensures.back
    c.loop-node.invariant.left c.in_ok-push_node.ensures

pub loop-node-preserved : goal.loop-node-preserved
loop-node-preserved c =
    let g = going c in record { old_order = g.old_order; new_order = g.new_order; old_fit = g.old_fit; new_fit = g.new_fit; left = g.left }

pub loop-node-smaller : goal.loop-node-smaller
loop-node-smaller c = (going c).smaller

whole : (c : goal.In_default) → c.loop-node.merged ≡ merged c.args.older.now c.args.newer.now
whole c =
    sym (c.loop-node.invariant.left
    ∙ ap (λ xs. c.loop-node.merged ++ xs) (no_node c.loop-node.old_left.now c.loop-node.new_left.now (sym c.first_node.ensures ∙ c.in_default.is))
    ∙ append-nil c.loop-node.merged)

pub returns-clause-merged : goal.returns-clause-merged
returns-clause-merged c = whole c

pub returns-clause-same : goal.returns-clause-same
returns-clause-same c = stands c.args.older.now c.args.newer.now c.loop-node.merged (whole c)
