use Rattle.std.proofs.Common.{◌≡◌, ◌==◌, cond, drop, ◌∙◌, sym, subst, arith, ap}
use Rattle.std.specs.Prelude.{slice_get}
use Rattle.fine_model.specs.Becomes.{Becomes}
use Rattle.fine_model.specs.Jobs.{KeepsJob}
use Rattle.fine_model.specs.Merge.{cost}
use Rattle.epoch_room.specs.Epoch.{Open}
use Rattle.fine_model.specs.declared.law.RoomState.{RoomState}
use Rattle.epoch_room.specs.Value.{RoomValue}
use Rattle.epoch_room.specs.Fitting.{fit_of}
use Rattle.epoch_room.specs.Whole.{IsWhole}
use Rattle.epoch_room.specs.Steps.{appended}
use Rattle.epoch_room.specs.Meaning.{StandsForMore}
use Rattle.epoch_room.specs.declared.answers.Fit.TheVariants as fit
use Rattle.epoch_room.proofs.OpenEpochs.Fits.{may_append}
use Rattle.epoch_room.proofs.OpenEpochs.Appending.{appended_whole, appended_is, appended_becomes, appended_job}
use Rattle.epoch_room.proofs.Standing.{appended_stands}
use Rattle.epoch_room.proofs.room.Room.append.Goals as goal

pub add-requires-clause-within : goal.add-requires-clause-within
add-requires-clause-within g c =
    let whole = c.self.invariant.0 in
    let may = may_append _ (cost c.args.log.now) (omega (arith, whole.geometry.len_high)) (subst (λ (v : RoomValue). fit_of v.room (cost c.args.log.now) ≡ fit.Fits) (sym c.self.view_is) c.requires.fits) in
    omega (arith, may.room_for, c.self.invariant.1)

pub add-requires-clause-entries : goal.add-requires-clause-entries
add-requires-clause-entries g c =
    let whole = c.self.invariant.0 in
    let may = may_append _ (cost c.args.log.now) (omega (arith, whole.geometry.len_high)) (subst (λ (v : RoomValue). fit_of v.room (cost c.args.log.now) ≡ fit.Fits) (sym c.self.view_is) c.requires.fits) in
    omega (arith, may.place, whole.epoch.entries)

pub overflow_add-result : goal.overflow_add-result
overflow_add-result g c =
    let whole = c.self.invariant.0 in
    let may = may_append _ (cost c.args.log.now) (omega (arith, whole.geometry.len_high)) (subst (λ (v : RoomValue). fit_of v.room (cost c.args.log.now) ≡ fit.Fits) (sym c.self.view_is) c.requires.fits) in
    omega (arith, may.epoch)

pub returns-clause-room : goal.returns-clause-room
returns-clause-room g c =
    let old = c.self.inside in
    let at : c.waiting.result ≡ old.epoch.waiting = c.waiting.ensures in
    appended_is (g.D.LogDisk.state old.disk) (g.D.LogDisk.state old.entry.value)
    (record { parts = old.parts; retired = old.retired.items; free = old.free; lost = old.lost; target = old.target; board = old.board; job = old.job; epoch = old.epoch; sealed = old.sealed; places = old.places; is_shut = old.is_shut }) c.args.log.now
    c.take_target-self-inside.new.free c.take_target-self-inside.result c.add.new.self
    (c.take_target-self-inside.ensures.free ∙ ap (λ w. cond (w == 0) (drop 1 old.free) old.free) at)
    (c.take_target-self-inside.ensures.target ∙ ap (λ w. cond (w == 0) (slice_get old.free 0) old.target) at) c.add.ensures
    ∙ ap (λ (v : RoomValue). appended v c.args.log.now) c.self.view_is

pub invariant_of-self : goal.invariant_of-self
invariant_of-self g c =
    let whole : IsWhole c.args.self.now = subst IsWhole c.self.view_is c.self.invariant.0 in
    let may = may_append c.args.self.now.room (cost c.args.log.now) (omega (arith, whole.geometry.len_high, ap (λ (r : RoomState). r.region_len) whole.of_disk)) c.requires.fits in (
      subst IsWhole (sym (returns-clause-room g c)) (appended_whole c.args.self.now c.args.log.now whole may c.requires.rows),
      omega (arith, ap (λ (o : Open). o.most) c.add.ensures, c.self.invariant.1),
      c.self.invariant.2,
    )

pub returns-clause-stands : goal.returns-clause-stands
returns-clause-stands g c =
    let whole : IsWhole c.args.self.now = subst IsWhole c.self.view_is c.self.invariant.0 in
    let may = may_append c.args.self.now.room (cost c.args.log.now) (omega (arith, whole.geometry.len_high, ap (λ (r : RoomState). r.region_len) whole.of_disk)) c.requires.fits in
    subst (λ (v : RoomValue). StandsForMore c.args.self.now v c.args.log.now) (sym (returns-clause-room g c)) (appended_stands c.args.self.now c.args.log.now whole may.open_room)

pub returns-clause-becomes : goal.returns-clause-becomes
returns-clause-becomes g c =
    let whole : IsWhole c.args.self.now = subst IsWhole c.self.view_is c.self.invariant.0 in
    let may = may_append c.args.self.now.room (cost c.args.log.now) (omega (arith, whole.geometry.len_high, ap (λ (r : RoomState). r.region_len) whole.of_disk)) c.requires.fits in
    subst (λ (v : RoomValue). Becomes c.args.self.now.room v.room) (sym (returns-clause-room g c)) (appended_becomes c.args.self.now c.args.log.now whole may)

pub returns-clause-job : goal.returns-clause-job
returns-clause-job g c =
    let whole : IsWhole c.args.self.now = subst IsWhole c.self.view_is c.self.invariant.0 in
    let may = may_append c.args.self.now.room (cost c.args.log.now) (omega (arith, whole.geometry.len_high, ap (λ (r : RoomState). r.region_len) whole.of_disk)) c.requires.fits in
    subst (λ (v : RoomValue). KeepsJob c.args.self.now.room v.room) (sym (returns-clause-room g c)) (appended_job c.args.self.now c.args.log.now whole may)
