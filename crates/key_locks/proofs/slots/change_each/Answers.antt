use Rattle.std.proofs.Common.{refl, ◌∙◌}
use Rattle.key_locks.specs.Slots.{LeavesAt}
use Rattle.key_locks.proofs.Numbered.{all_changed, next_filled, no_items, none_done, one_changed}
use Rattle.key_locks.proofs.slots.change_each.Goals as goal

pub loop-number-init : goal.loop-number-init
loop-number-init g c = record { so_far = none_done (LeavesAt g.F.Fn c.args.change.now) c.args.numbers.now c.args.places.now.items c.requires.counted; capacity = refl }

pub change_at-requires-clause-filled : goal.change_at-requires-clause-filled
change_at-requires-clause-filled g c = next_filled (LeavesAt g.F.Fn c.args.change.now) c.in-Some.number.now c.from.result c.in-Some.rest.now c.loop-number.left.now c.args.places.now.items c.loop-number.places.items c.loop-number.invariant.so_far c.in-Some.ensures.cases.0 c.from.ensures

pub loop-number-preserved : goal.loop-number-preserved
loop-number-preserved g c = record {
  so_far = one_changed (LeavesAt g.F.Fn c.args.change.now) c.in-Some.number.now c.from.result c.in-Some.rest.now c.loop-number.left.now c.args.places.now.items c.loop-number.places.items c.change_at.new.places.items c.loop-number.invariant.so_far c.in-Some.ensures.cases.0 c.from.ensures c.change_at.ensures.changes;
  capacity = c.change_at.ensures.capacity ∙ c.loop-number.invariant.capacity;
}

pub returns-clause-each : goal.returns-clause-each
returns-clause-each g c = all_changed (LeavesAt g.F.Fn c.args.change.now) c.loop-number.left.now c.args.places.now.items c.loop-number.places.items c.loop-number.invariant.so_far (no_items c.loop-number.left.now c.in_default.ensures.cases)
