use Rattle.std.proofs.Common.{◌≡◌, ◌++◌, not}
use Rattle.std.specs.Prelude.{nat_eq, filter}
use Rattle.std.specs.List.{list_any, range_with_len}
use Rattle.epoch_room.specs.Value.{all_regions}
use Rattle.epoch_room.proofs.regions.free_regions.Given as goal

abbrev pub invariant-loop-region : goal.invariant-loop-region
invariant-loop-region l = l.free ≡ filter (λ r. not (list_any (nat_eq r) (all_regions (l.live ++ l.retired)))) (range_with_len 0 l.region)
