use Rattle.std.proofs.Common.{ap, refl, sym, ◌∙◌, subst, Err, None, Ok}
use Rattle.fine_model.specs.declared.RunFault.{RunFault}
use Rattle.hall_rooms.specs.Rooms.{beginning_of}
use Rattle.txn_engine.specs.Faults.{refusal_of}
use Rattle.txn_tries.specs.declared.turn.TurnEnd.TheVariants as turn_end
use Rattle.txn_tries.specs.Committing.{Unplaced}
use Rattle.txn_tries.specs.Going.{txn_of}
use Rattle.txn_tries.proofs.RoomRefusals.{fault_over, full_over, large_over, number_over, shut_over}
use Rattle.txn_tries.proofs.Underway.{seal_going}
use Rattle.txn_tries.proofs.Waiting.{seal_waits}
use Rattle.txn_tries.proofs.committing.make_place.Goals as goal

pub returns-in-Ok : goal.returns-in-Ok
returns-in-Ok g c =
    let e = c.in-Ok.ensures in
    let r = c.requires in (
      seal_going c.args.hall.now c.args.txn.now c.args.txn.now c.args.pass.now c.seal.new.pass (Ok c.in-Ok.epoch) r.going e.pass.0 e.pass.1 e.seals,
      seal_waits c.args.options.now.group (beginning_of c.args.hall.now) c.args.txn.now c.args.pass.now c.seal.new.pass e.pass.1 r.going.pass.lawful r.region r.going.is_open r.answered c.in-EpochFull.need c.in-EpochFull.room c.in-Ok.epoch (r.cause ∙ ap refusal_of c.in-EpochFull.is) e.seals,
    )

pub returns-in-Err : goal.returns-in-Err
returns-in-Err g c =
    let e = c.in-Err.ensures in
    let x = beginning_of c.args.hall.now in
    let r = c.requires in (
      seal_going c.args.hall.now c.args.txn.now c.args.txn.now c.args.pass.now c.seal.new.pass (Err c.in-Err.fault) r.going e.pass.0 e.pass.1 e.seals,
      e.pass.1,
      subst (λ (f : RunFault). Unplaced c.args.options.now.group (txn_of c.args.txn.now.draft) x c.args.pass.now c.seal.new.pass (turn_end.Ended None f)) (sym c.fault_of.ensures)
          (fault_over c.args.options.now.group (txn_of c.args.txn.now.draft) x c.args.pass.now c.seal.new.pass e.pass.1 c.in-Err.fault e.seals),
    )

pub returns-in-TooLarge : goal.returns-in-TooLarge
returns-in-TooLarge g c = let r = c.requires in
    (r.going, refl, large_over c.args.options.now.group (beginning_of c.args.hall.now) c.args.txn.now c.args.pass.now r.going.pass.lawful r.region r.going.is_open r.answered r.last c.in-TooLarge.need c.in-TooLarge.room (r.cause ∙ ap refusal_of c.in-TooLarge.is))

pub returns-in-Number : goal.returns-in-Number
returns-in-Number g c = let r = c.requires in
    (r.going, refl, number_over c.args.options.now.group (beginning_of c.args.hall.now) c.args.txn.now c.args.pass.now r.going.pass.lawful r.region r.going.is_open r.answered r.last c.in-Number.epoch c.in-Number.place (r.cause ∙ ap refusal_of c.in-Number.is))

pub returns-in-Full : goal.returns-in-Full
returns-in-Full g c = let r = c.requires in
    (r.going, refl, full_over c.args.options.now.group (beginning_of c.args.hall.now) c.args.txn.now c.args.pass.now r.going.pass.lawful r.region r.going.is_open r.answered r.last c.in-Full.free c.in-Full.live c.in-Full.retired (r.cause ∙ ap refusal_of c.in-Full.is))

pub returns-in-Shut : goal.returns-in-Shut
returns-in-Shut g c = let r = c.requires in
    (r.going, refl, shut_over c.args.options.now.group (beginning_of c.args.hall.now) c.args.txn.now c.args.pass.now r.going.pass.lawful r.region r.going.is_open r.answered r.last c.in-Shut.epoch (r.cause ∙ ap refusal_of c.in-Shut.is))
