use Rattle.std.proofs.Common.{◌≡◌, ◌+◌, ◌≤◌, drop, length, take}
use Rattle.std.specs.Prelude.{vec_capacity}
use Rattle.epoch_room.specs.Gathering.{retire_all}
use Rattle.epoch_room.proofs.room.gathering.retire_parts.Given as goal

-- the parts so far are retired, and there is room for those that are left
abbrev pub invariant-loop-part : goal.invariant-loop-part
invariant-loop-part l = record {
  items : l.retired.items ≡ retire_all (take l.part-index l.parts) l.fn.retired.items;
  room : length (drop l.part-index l.parts) + length l.retired.items ≤ vec_capacity l.retired;
  capacity : vec_capacity l.retired ≡ vec_capacity l.fn.retired;
}
