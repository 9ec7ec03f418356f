use Rattle.std.proofs.Common.{◌≡◌, drop, take}
use Rattle.partition_hold.proofs.regions.RegionSet.take_into.Given as goal

abbrev pub invariant-loop-i : goal.invariant-loop-i
invariant-loop-i l = record {
  self : l.self ≡ drop l.i l.fn.self;
  out : take l.i l.out ≡ take l.i l.fn.self;
}
