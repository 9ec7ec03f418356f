use Rattle.std.proofs.Common.{◌≡◌, ◌<◌, ◌++◌, drop, take, not}
use Rattle.std.specs.Prelude.{filter, nat_eq}
use Rattle.std.specs.List.{AllByRecursion, list_any}
use Rattle.fine_model.specs.Boards.{set_of}
use Rattle.epoch_room.proofs.room.merging.give_back.Given as goal

abbrev pub invariant-loop-region : goal.invariant-loop-region
invariant-loop-region l = record {
  small : AllByRecursion (λ region. region < 64) (drop l.region-index l.regions);
  free : l.free ≡ set_of (l.fn.free ++ filter (λ r. not (list_any (nat_eq r) l.fn.lost)) (take l.region-index l.regions));
}
