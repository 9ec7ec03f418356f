use Rattle.std.proofs.Common.{◌≡◌, ℕ, ◌≤◌, true, Err, Ok, nat_le, sym, subst, arith}
use Rattle.hall_rooms.specs.Rooms.{beginning_of}
use Rattle.hall_rooms.proofs.Idle.{seals_idle}
use Rattle.txn_tries.specs.Committing.{IsFaultOf}
use Rattle.txn_tries.proofs.Grouped.{due_failed, seal_fault, seal_on}
use Rattle.txn_tries.proofs.grouping.seal_once.Goals as goal

le_is : (a b : ℕ) → nat_le a b ≡ true → a ≤ b
le_is a b h = grind (arith, h)

pub returns-in-Ok-clause-idle : goal.returns-in-Ok-clause-idle
returns-in-Ok-clause-idle g c =
    let e = c.in-Ok.ensures in
    let i = seals_idle (Ok c.in-Ok.sealed) (beginning_of c.args.hall.now) c.args.pass.now c.seal.new.pass e.pass.1 e.seals c.requires.idle.1 c.requires.idle.2 in (e.pass.0, i.0, i.1)

pub returns-in-Ok-clause-seals : goal.returns-in-Ok-clause-seals
returns-in-Ok-clause-seals g c =
    let e = c.in-Ok.ensures in
    let s = seal_on c.args.options.now.group (beginning_of c.args.hall.now) c.args.pass.now c.seal.new.pass e.pass.1 c.in-Ok.sealed e.seals in
    (s.0, λ is. let h = le_is c.args.epoch c.in-Ok.sealed is in let e = s.1 in omega (arith, h, e))

pub returns-in-Err-clause-idle : goal.returns-in-Err-clause-idle
returns-in-Err-clause-idle g c =
    let e = c.in-Err.ensures in
    let i = seals_idle (Err c.in-Err.fault) (beginning_of c.args.hall.now) c.args.pass.now c.seal.new.pass e.pass.1 e.seals c.requires.idle.1 c.requires.idle.2 in (e.pass.0, i.0, i.1)

pub returns-in-Err-clause-seals : goal.returns-in-Err-clause-seals
returns-in-Err-clause-seals g c =
    let e = c.in-Err.ensures in
    let x = beginning_of c.args.hall.now in (
      due_failed c.args.options.now.group x c.args.pass.now c.seal.new.pass (Err c.in-Err.fault) e.pass.1 e.seals,
      subst (IsFaultOf c.seal.new.pass) (sym c.fault_of.ensures) (seal_fault c.args.options.now.group x c.args.pass.now c.seal.new.pass e.pass.1 c.in-Err.fault e.seals),
    )
