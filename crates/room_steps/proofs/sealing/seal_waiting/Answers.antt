use Rattle.std.proofs.Common.{ℕ, Result, ap, subst}
use Rattle.std.specs.Prelude.{OnOk}
use Rattle.epoch_room.specs.Meaning.{HoldsEpoch}
use Rattle.epoch_room.specs.Steps.{SealsOr}
use Rattle.epoch_room.specs.declared.answers.RoomFault.{RoomFault}
use Rattle.room_shelf.specs.Shelves.{shelf}
use Rattle.room_steps.proofs.Facts.{rested}
use Rattle.room_steps.proofs.Seals.{seal_failed, sealed_ok}
use Rattle.room_steps.proofs.sealing.seal_waiting.Goals as goal

pub returns-in-Ok : goal.returns-in-Ok
returns-in-Ok g c =
    let old = shelf c.args.room.now c.args.out.now in
    let mid = shelf c.take_view.new.room c.take_view.new.out in
    sealed_ok old mid (shelf c.seal-sealed.new.self c.take_view.new.out) (rested old mid c.take_view.ensures c.requires.shelf c.requires.no_job c.sealed-rested.ensures.whole) c.requires.waiting c.take_view.ensures.none
    c.sealed-sealed.ensures.whole c.seal-sealed.ensures.keeps c.seal-sealed.ensures.job c.seal-sealed.ensures.read c.in-Ok.epoch
    (subst (λ (r : Result ℕ RoomFault). SealsOr c.take_view.new.room c.seal-sealed.new.self r) c.in-Ok.is c.seal-sealed.ensures.room)
    (subst (λ (r : Result ℕ RoomFault). OnOk r (HoldsEpoch c.take_view.new.room c.seal-sealed.new.self)) c.in-Ok.is c.seal-sealed.ensures.body)

pub returns-in-Err : goal.returns-in-Err
returns-in-Err g c =
    let old = shelf c.args.room.now c.args.out.now in
    let mid = shelf c.take_view.new.room c.take_view.new.out in
    seal_failed old mid (shelf c.seal-sealed.new.self c.take_view.new.out) (rested old mid c.take_view.ensures c.requires.shelf c.requires.no_job c.sealed-rested.ensures.whole) c.requires.waiting c.take_view.ensures.none c.sealed-sealed.ensures.whole
    c.seal-sealed.ensures.keeps c.seal-sealed.ensures.job c.seal-sealed.ensures.read c.in-Err.fault _ _
    c.of_room.ensures c.in-Err.is c.seal-sealed.ensures.room (λ e. ap (λ v. shelf v c.take_view.new.out) e)
