-- What was added is the sum of the bodies so far, and each of their parts lies in one region.
use Rattle.std.proofs.Common.{◌≡◌, ◌+◌, take}
use Rattle.std.specs.List.{AllByRecursion}
use Rattle.row_gathering.specs.Gathering.{bodies_len}
use Rattle.row_gathering.specs.Steps.{IsAlone}
use Rattle.row_gathering.proofs.gathering.bodies_len.Given as goal

abbrev pub invariant-loop-part : goal.invariant-loop-part
invariant-loop-part l = record {
  sum : l.end ≡ 41 + bodies_len (take l.part-index l.parts);
  alone : AllByRecursion (IsAlone l.region_len) (take l.part-index l.parts);
}
