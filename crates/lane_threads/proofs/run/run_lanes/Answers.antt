use Rattle.std.proofs.Common.{◌≡◌, ◌+◌, ◌∙◌, length, subst, sym, arith}
use Rattle.hall_rooms.specs.Opening.{OpensHall}
use Rattle.hall_rooms.specs.Rooms.{beginning_of}
use Rattle.lane_threads.proofs.Beginnings.{begins_fresh, new_passes}
use Rattle.lane_threads.proofs.FewParts.{few_parts}
use Rattle.lane_threads.proofs.run.run_lanes.Goals as goal

pub returns-in_default : goal.returns-in_default
returns-in_default g c = record { run = c.not_begun.ensures c.args.script.now c.args.options.now }

pub overflow_cast-seats : goal.overflow_cast-seats
overflow_cast-seats g c = let few = few_parts c.args.script.now c.in-Ok.means.parts.items c.in-Ok.ensures.parts in let long = c.len.ensures in let all = c.in-Ok.means.parts.ok in omega (arith, few, long, all)

pub overflow_add-seats : goal.overflow_add-seats
overflow_add-seats g c = let few = few_parts c.args.script.now c.in-Ok.means.parts.items c.in-Ok.ensures.parts in let long = c.len.ensures in let all = c.in-Ok.means.parts.ok in omega (arith, few, long, all)

pub open_hall-requires-clause-seats : goal.open_hall-requires-clause-seats
open_hall-requires-clause-seats g c κs within =
    let few = few_parts c.args.script.now c.in-Ok.means.parts.items c.in-Ok.ensures.parts in
    let long = c.len.ensures in
    let all = c.in-Ok.means.parts.ok in
    (omega arith, omega (arith, few, long, all))

pub run_on-requires-clause-fresh : goal.run_on-requires-clause-fresh
run_on-requires-clause-fresh g c κs within = begins_fresh c.args.room (c.len.result + 2) (beginning_of c.in-Ok-open_hall.opened.hall) c.requires.ready c.in-Ok-open_hall.ensures.hall

pub run_on-requires-clause-passes : goal.run_on-requires-clause-passes
run_on-requires-clause-passes g c κs within =
    let hall = c.in-Ok-open_hall.opened.hall in
    let opens = c.in-Ok-open_hall.ensures.hall in
    let out = c.in-Ok-open_hall.ensures.passes in
    new_passes hall out.1.0 c.in-Ok-open_hall.opened.passes.items (begins_fresh c.args.room (c.len.result + 2) (beginning_of hall) c.requires.ready opens) (out.0 ∙ sym opens.seats_are) out.1.1

pub returns-in-Ok-open_hall : goal.returns-in-Ok-open_hall
returns-in-Ok-open_hall g c =
    let long = c.len.ensures in
    let all = c.in-Ok.means.parts.ok in
    let many : c.len.result ≡ length c.in-Ok.means.parts.items = omega (arith, long, all) in
    record { run = c.run_on.ensures c.args.room c.requires.ready (subst (λ n. OpensHall c.args.room (n + 2) (beginning_of c.in-Ok-open_hall.opened.hall)) many c.in-Ok-open_hall.ensures.hall) }

pub returns-in-Err : goal.returns-in-Err
returns-in-Err g c = record { run = c.no_hall.ensures c.args.script.now c.args.options.now c.args.room c.requires.ready c.in-Err.ensures.back c.in-Ok.ensures.outcomes }
