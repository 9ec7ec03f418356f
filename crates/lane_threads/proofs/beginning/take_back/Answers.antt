use Rattle.std.proofs.Common.{arith, refl, sym, map, ◌∙◌}
use Rattle.std.proofs.lemmas.List.{nil_from_length}
use Rattle.lane_threads.specs.declared.worker.Worker.{Worker}
use Rattle.lane_threads.proofs.NewPasses.{all_moved, none_moved, one_moved, room_for}
use Rattle.lane_threads.proofs.beginning.take_back.Goals as goal

pub loop-worker-init : goal.loop-worker-init
loop-worker-init g c =
    let same = c.into_iter-worker-iterator.ensures.into_iter_gives.0 in
    let rest = c.into_iter-worker-iterator.result.rest.items in
    record {
      passes = none_moved (λ (w : Worker _ _). w.pass) c.args.passes.now.items rest c.args.workers.items c.requires.passes.0 same;
      parts = none_moved (λ (w : Worker _ _). w.part) c.args.parts.now.items rest c.args.workers.items c.requires.parts.0 same;
      rooms = (refl, refl);
    }

pub push_reserved-requires : goal.push_reserved-requires
push_reserved-requires g c =
    let i = c.loop-worker.invariant in
    let fits = room_for (λ (w : Worker _ _). w.pass) c.loop-worker.passes.items c.loop-worker.worker-iterator.rest.items c.next.new.self.rest.items c.in-Some.worker c.args.workers.items c.in-Some.ensures.steps.0 i.passes in
    let kept = c.loop-worker.passes.ok.0 in
    let same = i.rooms.0 in
    let room = c.requires.passes.1 in
    omega (arith, fits, kept, same, room)

pub push_reserved-requires-in-loop-worker : goal.push_reserved-requires-in-loop-worker
push_reserved-requires-in-loop-worker g c =
    let i = c.loop-worker.invariant in
    let fits = room_for (λ (w : Worker _ _). w.part) c.loop-worker.parts.items c.loop-worker.worker-iterator.rest.items c.next.new.self.rest.items c.in-Some.worker c.args.workers.items c.in-Some.ensures.steps.0 i.parts in
    let kept = c.loop-worker.parts.ok.0 in
    let same = i.rooms.1 in
    let room = c.requires.parts.1 in
    omega (arith, fits, kept, same, room)

pub loop-worker-preserved : goal.loop-worker-preserved
loop-worker-preserved g c =
    let i = c.loop-worker.invariant in
    let before = c.loop-worker.worker-iterator.rest.items in
    let after = c.next.new.self.rest.items in
    let steps = c.in-Some.ensures.steps.0 in
    record {
      passes = one_moved (λ (w : Worker _ _). w.pass) c.loop-worker.passes.items c.push_reserved.new.self.items before after c.in-Some.worker (map (λ (w : Worker _ _). w.pass) c.args.workers.items) steps c.push_reserved.ensures.items i.passes;
      parts = one_moved (λ (w : Worker _ _). w.part) c.loop-worker.parts.items c.push_reserved-in-loop-worker.new.self.items before after c.in-Some.worker (map (λ (w : Worker _ _). w.part) c.args.workers.items) steps c.push_reserved-in-loop-worker.ensures.items i.parts;
      rooms = (c.push_reserved.ensures.capacity ∙ i.rooms.0, c.push_reserved-in-loop-worker.ensures.capacity ∙ i.rooms.1);
    }

pub returns-clause-passes : goal.returns-clause-passes
returns-clause-passes g c =
    let rest = c.loop-worker.worker-iterator.rest in
    all_moved (λ (w : Worker _ _). w.pass) c.loop-worker.passes.items rest.items (map (λ (w : Worker _ _). w.pass) c.args.workers.items) (nil_from_length rest.items (sym rest.ok.0 ∙ c.in-None.ensures.steps.0)) c.loop-worker.invariant.passes

pub returns-clause-parts : goal.returns-clause-parts
returns-clause-parts g c =
    let rest = c.loop-worker.worker-iterator.rest in
    all_moved (λ (w : Worker _ _). w.part) c.loop-worker.parts.items rest.items (map (λ (w : Worker _ _). w.part) c.args.workers.items) (nil_from_length rest.items (sym rest.ok.0 ∙ c.in-None.ensures.steps.0)) c.loop-worker.invariant.parts

pub returns-clause-capacity : goal.returns-clause-capacity
returns-clause-capacity g c = c.loop-worker.invariant.rooms.0
