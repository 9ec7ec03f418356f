use Rattle.std.proofs.Common.{◌≡◌}
use Rattle.std.specs.Prelude.{vec_capacity}
use Rattle.lane_threads.proofs.NewPasses.{GivesSoFar}
use Rattle.lane_threads.proofs.beginning.give_passes.Given as goal

abbrev pub invariant-loop-part : goal.invariant-loop-part
invariant-loop-part g l = record {
  so_far : GivesSoFar l.hall l.fn.passes.items l.passes.items l.fn.parts.items l.workers.items l.part-iterator.rest.items;
  capacity : vec_capacity l.workers ≡ vec_capacity l.fn.workers;
}
