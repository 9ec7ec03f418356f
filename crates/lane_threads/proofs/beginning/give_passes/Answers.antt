use Rattle.std.proofs.Common.{arith, refl, sym, length, ◌∙◌, ap}
use Rattle.std.proofs.lemmas.List.{nil_from_length}
use Rattle.lane_threads.proofs.NewPasses.{all_given, first_given, last_given, none_given, one_given, how_many}
use Rattle.lane_threads.proofs.beginning.give_passes.Goals as goal

pub loop-part-init : goal.loop-part-init
loop-part-init g c = record {
  so_far = none_given c.args.hall.now c.args.passes.items c.pop.new.self.items c.in-Some.first c.args.parts.items c.args.workers.items c.into_iter-part-iterator.result.rest.items c.requires.passes c.in-Some.ensures.items c.requires.room.0 c.into_iter-part-iterator.ensures.into_iter_gives.0;
  capacity = refl;
}

pub unreachable-requires-in_default-pop : goal.unreachable-requires-in_default-pop
unreachable-requires-in_default-pop g c =
    let so_far = c.loop-part.invariant.so_far in
    let many = how_many c.args.hall.now c.args.passes.items c.loop-part.passes.items c.args.parts.items c.loop-part.workers.items c.loop-part.part-iterator.rest.items so_far in
    let next = ap length c.in-Some-part.ensures.steps.0 in
    let none = c.in_default-pop.ensures.cases.0 in
    let kept = c.loop-part.passes.ok.0 in
    let counted = so_far.count in
    let count = c.requires.count in
    omega (arith, many, next, none, kept, counted, count)

pub push_reserved-requires : goal.push_reserved-requires
push_reserved-requires g c =
    let so_far = c.loop-part.invariant.so_far in
    let many = how_many c.args.hall.now c.args.passes.items c.loop-part.passes.items c.args.parts.items c.loop-part.workers.items c.loop-part.part-iterator.rest.items so_far in
    let next = ap length c.in-Some-part.ensures.steps.0 in
    let kept = c.loop-part.workers.ok.0 in
    let same = c.loop-part.invariant.capacity in
    let room = c.requires.room.1 in
    omega (arith, many, next, kept, same, room)

pub loop-part-preserved : goal.loop-part-preserved
loop-part-preserved g c =
    let i = c.loop-part.invariant in
    record {
      so_far = one_given c.args.hall.now c.args.passes.items c.loop-part.passes.items c.pop-in-loop-part.new.self.items c.in-Some-pop.pass c.args.parts.items c.loop-part.workers.items c.push_reserved.new.self.items c.loop-part.part-iterator.rest.items c.next.new.self.rest.items c.in-Some-part.part
          c.in-Some-pop.ensures.items c.in-Some-part.ensures.steps.0 c.push_reserved.ensures.items i.so_far;
      capacity = c.push_reserved.ensures.capacity ∙ i.capacity;
    }

pub unreachable-requires-in_default-pop-2 : goal.unreachable-requires-in_default-pop-2
unreachable-requires-in_default-pop-2 g c =
    let so_far = c.loop-part.invariant.so_far in
    let many = how_many c.args.hall.now c.args.passes.items c.loop-part.passes.items c.args.parts.items c.loop-part.workers.items c.loop-part.part-iterator.rest.items so_far in
    let none = c.in_default-pop-2.ensures.cases.0 in
    let kept = c.loop-part.passes.ok.0 in
    let counted = so_far.count in
    let count = c.requires.count in
    omega (arith, many, none, kept, counted, count)

pub returns-clause-first : goal.returns-clause-first
returns-clause-first g c = first_given c.args.hall.now c.args.passes.items c.pop.new.self.items c.in-Some.first c.requires.passes c.in-Some.ensures.items

pub returns-clause-workers : goal.returns-clause-workers
returns-clause-workers g c =
    let rest = c.loop-part.part-iterator.rest in
    all_given c.args.hall.now c.args.passes.items c.loop-part.passes.items c.args.parts.items c.loop-part.workers.items rest.items (nil_from_length rest.items (sym rest.ok.0 ∙ c.in-None.ensures.steps.0)) c.loop-part.invariant.so_far

pub returns-clause-last : goal.returns-clause-last
returns-clause-last g c =
    let rest = c.loop-part.part-iterator.rest in
    last_given c.args.hall.now c.args.passes.items c.loop-part.passes.items c.pop-2.new.self.items c.in-Some-pop-2.last c.args.parts.items c.loop-part.workers.items rest.items (nil_from_length rest.items (sym rest.ok.0 ∙ c.in-None.ensures.steps.0)) c.in-Some-pop-2.ensures.items c.loop-part.invariant.so_far
