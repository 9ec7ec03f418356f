use Rattle.std.proofs.Common.{arith}
use Rattle.hall_rooms.specs.Rooms.{beginning_of}
use Rattle.txn_tries.proofs.Placed.{fault_runs, placed_runs, sealed_runs}
use Rattle.txn_tries.proofs.grouping.end_group.Goals as goal

pub returns-then-not-is_due-clause-turn : goal.returns-then-not-is_due-clause-turn
returns-then-not-is_due-clause-turn g c = λ txn turn p pl. placed_runs c.args.options.now.group txn turn (beginning_of c.args.hall.now) p c.args.pass.now c.args.done c.requires.idle.0.own pl (let h = c.if-not-is_due.true in let f = c.from.ensures in omega (arith, h, f))

pub returns-in-Ok-clause-turn : goal.returns-in-Ok-clause-turn
returns-in-Ok-clause-turn g c = λ txn turn p pl. let s = c.in-Ok.ensures.seals in
    sealed_runs c.args.options.now.group txn turn (beginning_of c.args.hall.now) p c.args.pass.now c.args.done c.requires.idle.0.own pl c.seal_up_to.new.pass (let h = c.if-not-is_due.false in let f = c.from.ensures in omega (arith, h, f)) c.requires.group s.0 s.1

pub returns-in-Err-clause-turn : goal.returns-in-Err-clause-turn
returns-in-Err-clause-turn g c = λ txn turn p pl. let s = c.in-Err.ensures.seals in
    fault_runs c.args.options.now.group txn turn (beginning_of c.args.hall.now) p c.args.pass.now c.args.done c.requires.idle.0.own pl c.seal_up_to.new.pass (let h = c.if-not-is_due.false in let f = c.from.ensures in omega (arith, h, f)) c.in-Err.fault s.0 s.1
