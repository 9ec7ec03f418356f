use Rattle.std.proofs.Common.{◌≡◌, ◌++◌, map}
use Rattle.std.specs.Prelude.{vec_capacity}
use Rattle.lane_threads.specs.declared.worker.Worker.{Worker}
use Rattle.lane_threads.proofs.beginning.take_back.Given as goal

abbrev pub invariant-loop-worker : goal.invariant-loop-worker
invariant-loop-worker g l = record {
  passes : l.passes.items ++ map (λ (w : Worker _ _). w.pass) l.worker-iterator.rest.items ≡ map (λ (w : Worker _ _). w.pass) l.fn.workers.items;
  parts : l.parts.items ++ map (λ (w : Worker _ _). w.part) l.worker-iterator.rest.items ≡ map (λ (w : Worker _ _). w.part) l.fn.workers.items;
  rooms : (vec_capacity l.passes ≡ vec_capacity l.fn.passes) × (vec_capacity l.parts ≡ vec_capacity l.fn.parts);
}
