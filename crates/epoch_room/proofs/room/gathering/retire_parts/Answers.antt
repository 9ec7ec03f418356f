use Rattle.std.proofs.Common.{◌+◌, ◌≤◌, drop, length, subst, sym, ◌∙◌}
use Rattle.std.specs.Prelude.{vec_capacity}
use Rattle.epoch_room.proofs.Young.YoungParts.{retired_more, room_more}
use Rattle.epoch_room.proofs.room.gathering.retire_parts.Goals as goal

pub loop-part-preserved : goal.loop-part-preserved
loop-part-preserved c = record {
  items = retired_more c.args.parts.now c.loop-part.part-index _ c.args.retired.now.items c.loop-part.retired.items c.retire.new.parts.items c.loop-part-test.true c.loop-part.invariant.items c.retire.ensures.items;
  room = subst (λ n. length (drop (c.loop-part.part-index + 1) c.args.parts.now) + length c.retire.new.parts.items ≤ n) (sym c.retire.ensures.capacity)
      (room_more c.args.parts.now c.loop-part.part-index _ c.loop-part.retired.items c.retire.new.parts.items (vec_capacity c.loop-part.retired) c.loop-part-test.true c.loop-part.invariant.room c.retire.ensures.items);
  capacity = c.retire.ensures.capacity ∙ c.loop-part.invariant.capacity;
}
