use denote.Param.Send.{sendable}
use Rattle.std.proofs.Common.{◌∙◌, ◌+◌, Some, arith, ap, refl, subst, sym}
use Rattle.fine_model.specs.declared.Entry.{Entry}
use Rattle.txn_draft.specs.Drafts.{entry_of}
use Rattle.epoch_room.specs.Fitting.{fit_of}
use Rattle.epoch_room.specs.Meaning.{Stands, StandsForMore}
use Rattle.epoch_room.specs.Steps.{appended}
use Rattle.epoch_room.specs.declared.answers.Stamp.{Stamp}
use Rattle.fine_hall.specs.Halls.{GivesRoom, MayGiveRoom}
use Rattle.fine_hall.specs.Passes.{published, seen}
use Rattle.hall_rooms.specs.Rooms.{beginning_of, room_log, room_state}
use Rattle.txn_engine.proofs.Committing.{committed, epochs, free_read, held_room, locks_then, locks₁, may_some, open_refused, open₁, refused, stand_now}
use Rattle.hall_rooms.proofs.Crossing.{bucket_send, in_hall_send}
use Rattle.txn_engine.proofs.Ending.{gives_back, still_locks}
use Rattle.txn_engine.proofs.Releasing.{open_blank, settled_all}
use Rattle.txn_engine.proofs.txn.Txn.commit.Goals as goal

pub published-published-requires-send-B : goal.published-published-requires-send-B
published-published-requires-send-B g c κs within = search (sendable, bucket_send) depth 20

pub published-published-requires-send-R : goal.published-published-requires-send-R
published-published-requires-send-R g c κs within = let d = c.type_bounds.send-D in search (sendable, in_hall_send) depth 20

pub take_room-room-requires-send-B : goal.take_room-room-requires-send-B
take_room-room-requires-send-B g c κs within = search (sendable, bucket_send) depth 20

pub take_room-room-requires-send-R : goal.take_room-room-requires-send-R
take_room-room-requires-send-R g c κs within = let d = c.type_bounds.send-D in search (sendable, in_hall_send) depth 20

pub give_room-requires-send-B : goal.give_room-requires-send-B
give_room-requires-send-B g c κs within = search (sendable, bucket_send) depth 20

pub give_room-requires-send-R : goal.give_room-requires-send-R
give_room-requires-send-R g c κs within = let d = c.type_bounds.send-D in search (sendable, in_hall_send) depth 20

pub give_room-requires-in-Some-send-B : goal.give_room-requires-in-Some-send-B
give_room-requires-in-Some-send-B g c κs within = search (sendable, bucket_send) depth 20

pub give_room-requires-in-Some-send-R : goal.give_room-requires-in-Some-send-R
give_room-requires-in-Some-send-R g c κs within = let d = c.type_bounds.send-D in search (sendable, in_hall_send) depth 20

pub release_all-requires-send-B : goal.release_all-requires-send-B
release_all-requires-send-B g c κs within = search (sendable, bucket_send) depth 20

pub release_all-requires-send-R : goal.release_all-requires-send-R
release_all-requires-send-R g c κs within = let d = c.type_bounds.send-D in search (sendable, in_hall_send) depth 20

pub take_room-room-requires-clause-free : goal.take_room-room-requires-clause-free
take_room-room-requires-clause-free g c κs within = free_read c.args.pass.now c.published-published.new.pass c.published-published.ensures.reads c.requires.free

pub give_room-requires-clause-held : goal.give_room-requires-clause-held
give_room-requires-clause-held g c κs within = held_room (beginning_of c.args.hall.now) c.args.self.now c.args.pass.now c.published-published.new.pass c.take_room-room.new.pass c.published-published.ensures.pass.1 c.take_room-room.ensures.pass.1 c.published-published.ensures.reads c.requires.pass.lawful c.published-published.ensures.pass.0.lawful c.take_room-room.ensures.pass.0.lawful c.requires.open.0 c.requires.free c.take_room-room.result c.take_room-room.ensures.takes c.take_room-room.ensures.room

pub give_room-requires-in-Some-clause-held : goal.give_room-requires-in-Some-clause-held
give_room-requires-in-Some-clause-held g c κs within = held_room (beginning_of c.args.hall.now) c.args.self.now c.args.pass.now c.published-published.new.pass c.take_room-room.new.pass c.published-published.ensures.pass.1 c.take_room-room.ensures.pass.1 c.published-published.ensures.reads c.requires.pass.lawful c.published-published.ensures.pass.0.lawful c.take_room-room.ensures.pass.0.lawful c.requires.open.0 c.requires.free c.take_room-room.result c.take_room-room.ensures.takes c.take_room-room.ensures.room

pub give_room-requires-clause-room : goal.give_room-requires-clause-room
give_room-requires-clause-room g c κs within =
    let x = beginning_of c.args.hall.now in
    let k = c.take_room-room.ensures.takes in
    let p = c.take_room-room.new.pass in
    let stamped = ap (λ (s : Stamp). s.epoch) c.append-stamp.ensures.stamp in (
      k.turn,
      k.is_turn,
      subst (λ (e : Entry). MayGiveRoom room_state room_log Stands x c.append-stamp.new.self (Some e) c.append-stamp.result.epoch k.turn p) (sym c.take_entry-entry.ensures.entry)
          (subst (λ n. MayGiveRoom room_state room_log Stands x c.append-stamp.new.self (Some (entry_of c.args.self.now.draft)) n k.turn p) (sym stamped)
          (may_some (beginning_of c.args.hall.now) c.args.self.now c.args.pass.now c.published-published.new.pass c.take_room-room.new.pass c.published-published.ensures.pass.1 c.take_room-room.ensures.pass.1 c.published-published.ensures.reads c.requires.pass.lawful c.published-published.ensures.pass.0.lawful c.take_room-room.ensures.pass.0.lawful c.requires.open.0 c.requires.free c.take_room-room.result c.take_room-room.ensures.takes c.take_room-room.ensures.room c.requires.open.1 c.append-stamp.new.self (c.append-stamp.ensures.room ∙ ap (appended c.take_room-room.result) c.log.ensures) (subst (StandsForMore c.take_room-room.result c.append-stamp.new.self) c.log.ensures c.append-stamp.ensures.stands) c.append-stamp.ensures.becomes c.append-stamp.ensures.job)),
    )

pub release_all-requires-clause-pass : goal.release_all-requires-clause-pass
release_all-requires-clause-pass g c κs within =
    let k = c.take_room-room.ensures.takes in
    let e = c.give_room.ensures in (
      e.pass.0,
      still_locks _ _ c.args.self.now.locks c.settle_all.new.locks c.give_room.new.pass
          (locks_then (beginning_of c.args.hall.now) c.args.self.now c.args.pass.now c.published-published.new.pass c.take_room-room.new.pass c.published-published.ensures.pass.1 c.take_room-room.ensures.pass.1 c.published-published.ensures.reads c.requires.pass.lawful c.published-published.ensures.pass.0.lawful c.take_room-room.ensures.pass.0.lawful c.requires.open.0 c.requires.free c.take_room-room.result c.take_room-room.ensures.takes c.take_room-room.ensures.room (Some c.take_entry-entry.result) c.append-stamp.result.epoch c.append-stamp.new.self.room c.give_room.new.pass e.pass.1 (e.gives k.turn k.is_turn)) c.settle_all.ensures,
    )

pub release_all-requires-clause-stands : goal.release_all-requires-clause-stands
release_all-requires-clause-stands g c κs within =
    let x = beginning_of c.args.hall.now in
    let k = c.take_room-room.ensures.takes in
    let p = c.take_room-room.new.pass in
    let t = c.args.self.now in
    let stamped = ap (λ (s : Stamp). s.epoch) c.append-stamp.ensures.stamp in
    let read = c.published-published.ensures.number in
    let later = k.takes.sees.no_earlier in
    let given = subst (λ (e : Entry). GivesRoom c.append-stamp.new.self.room (Some e) (c.take_room-room.result.room.sealed + 1) k.turn p c.give_room.new.pass) c.take_entry-entry.ensures.entry
    (subst (λ n. GivesRoom c.append-stamp.new.self.room (Some c.take_entry-entry.result) n k.turn p c.give_room.new.pass) stamped (c.give_room.ensures.gives k.turn k.is_turn)) in
    stand_now (beginning_of c.args.hall.now) c.args.self.now c.args.pass.now c.published-published.new.pass c.take_room-room.new.pass c.published-published.ensures.pass.1 c.take_room-room.ensures.pass.1 c.published-published.ensures.reads c.requires.pass.lawful c.published-published.ensures.pass.0.lawful c.take_room-room.ensures.pass.0.lawful c.requires.open.0 c.requires.free c.take_room-room.result c.take_room-room.ensures.takes c.take_room-room.ensures.room c.requires.open.1 c.append-stamp.new.self (c.append-stamp.ensures.room ∙ ap (appended c.take_room-room.result) c.log.ensures) (subst (StandsForMore c.take_room-room.result c.append-stamp.new.self) c.log.ensures c.append-stamp.ensures.stands) c.append-stamp.ensures.becomes c.append-stamp.ensures.job c.give_room.new.pass c.give_room.ensures.pass.1 given c.settle_all.new.locks
    (settled_all _ x (published p) _ (seen p) t.draft t.locks c.settle_all.new.locks p (locks₁ (beginning_of c.args.hall.now) c.args.self.now c.args.pass.now c.published-published.new.pass c.take_room-room.new.pass c.published-published.ensures.pass.1 c.take_room-room.ensures.pass.1 c.published-published.ensures.reads c.requires.pass.lawful c.published-published.ensures.pass.0.lawful c.take_room-room.ensures.pass.0.lawful c.requires.open.0 c.requires.free c.take_room-room.result c.take_room-room.ensures.takes c.take_room-room.ensures.room) (open₁ (beginning_of c.args.hall.now) c.args.self.now c.args.pass.now c.published-published.new.pass c.take_room-room.new.pass c.published-published.ensures.pass.1 c.take_room-room.ensures.pass.1 c.published-published.ensures.reads c.requires.pass.lawful c.published-published.ensures.pass.0.lawful c.take_room-room.ensures.pass.0.lawful c.requires.open.0 c.requires.free c.take_room-room.result c.take_room-room.ensures.takes c.take_room-room.ensures.room) (omega (arith, read, later))
    (record { entry = entry_of t.draft; epoch = c.take_room-room.result.room.sealed + 1 }) c.requires.open.1 refl (epochs (beginning_of c.args.hall.now) c.args.self.now c.args.pass.now c.published-published.new.pass c.take_room-room.new.pass c.published-published.ensures.pass.1 c.take_room-room.ensures.pass.1 c.published-published.ensures.reads c.requires.pass.lawful c.published-published.ensures.pass.0.lawful c.take_room-room.ensures.pass.0.lawful c.requires.open.0 c.requires.free c.take_room-room.result c.take_room-room.ensures.takes c.take_room-room.ensures.room c.requires.open.1 c.append-stamp.new.self (c.append-stamp.ensures.room ∙ ap (appended c.take_room-room.result) c.log.ensures) (subst (StandsForMore c.take_room-room.result c.append-stamp.new.self) c.log.ensures c.append-stamp.ensures.stands) c.append-stamp.ensures.becomes c.append-stamp.ensures.job)
    _ stamped c.settle_all.ensures)

pub returns-in-None-clause-open : goal.returns-in-None-clause-open
returns-in-None-clause-open g c =
    let e = c.release_all.ensures in
    open_blank (beginning_of c.args.hall.now) _ c.release_all.new.pass c.args.self.now.draft.lane c.args.self.now.draft.turn c.take_entry-entry.ensures.left e.pass.0.lawful e.pass.2 e.none

pub returns-in-None-clause-commits : goal.returns-in-None-clause-commits
returns-in-None-clause-commits g c =
    let k = c.take_room-room.ensures.takes in
    let p = c.take_room-room.new.pass in
    let e = c.release_all.ensures in
    let stamped = ap (λ (s : Stamp). s.epoch) c.append-stamp.ensures.stamp in
    let given = subst (λ (e : Entry). GivesRoom c.append-stamp.new.self.room (Some e) (c.take_room-room.result.room.sealed + 1) k.turn p c.give_room.new.pass) c.take_entry-entry.ensures.entry
    (subst (λ n. GivesRoom c.append-stamp.new.self.room (Some c.take_entry-entry.result) n k.turn p c.give_room.new.pass) stamped (c.give_room.ensures.gives k.turn k.is_turn)) in
    committed (beginning_of c.args.hall.now) c.args.self.now c.args.pass.now c.published-published.new.pass c.take_room-room.new.pass c.published-published.ensures.pass.1 c.take_room-room.ensures.pass.1 c.published-published.ensures.reads c.requires.pass.lawful c.published-published.ensures.pass.0.lawful c.take_room-room.ensures.pass.0.lawful c.requires.open.0 c.requires.free c.take_room-room.result c.take_room-room.ensures.takes c.take_room-room.ensures.room c.requires.open.1 c.append-stamp.new.self (c.append-stamp.ensures.room ∙ ap (appended c.take_room-room.result) c.log.ensures) (subst (StandsForMore c.take_room-room.result c.append-stamp.new.self) c.log.ensures c.append-stamp.ensures.stands) c.append-stamp.ensures.becomes c.append-stamp.ensures.job c.give_room.new.pass c.give_room.ensures.pass.1 given c.args.keep (ap (fit_of c.take_room-room.result.room) (sym c.cost.ensures) ∙ (sym c.fit.ensures ∙ c.in-None.ensures)) _ c.release_all.new.pass c.settle_all.new.locks (record { stamp = c.append-stamp.result; entry = c.take_entry-entry.result; waiting = c.waiting-waiting.result }) e.pass.1
    c.append-stamp.ensures.stamp c.take_entry-entry.ensures.left e.pass.2 e.none e.releases c.published-published.result c.published-published.ensures.number (gives_back _ _ c.args.self.now _ c.settle_all.new.locks c.settle_all.ensures e.given_back)
    c.take_entry-entry.ensures.entry c.waiting-waiting.ensures

pub returns-in-Some : goal.returns-in-Some
returns-in-Some g c =
    let k = c.take_room-room.ensures.takes in
    let e = c.give_room-in-Some.ensures in
    let given = e.gives k.turn k.is_turn in
    record {
      pass = (e.pass.0, e.pass.1 ∙ (c.take_room-room.ensures.pass.1 ∙ c.published-published.ensures.pass.1));
      «open» = open_refused (beginning_of c.args.hall.now) c.args.self.now c.args.pass.now c.published-published.new.pass c.take_room-room.new.pass c.published-published.ensures.pass.1 c.take_room-room.ensures.pass.1 c.published-published.ensures.reads c.requires.pass.lawful c.published-published.ensures.pass.0.lawful c.take_room-room.ensures.pass.0.lawful c.requires.open.0 c.requires.free c.take_room-room.result c.take_room-room.ensures.takes c.take_room-room.ensures.room c.give_room-in-Some.new.pass e.pass.1 given;
      commits = refused (beginning_of c.args.hall.now) c.args.self.now c.args.pass.now c.published-published.new.pass c.take_room-room.new.pass c.published-published.ensures.pass.1 c.take_room-room.ensures.pass.1 c.published-published.ensures.reads c.requires.pass.lawful c.published-published.ensures.pass.0.lawful c.take_room-room.ensures.pass.0.lawful c.requires.open.0 c.requires.free c.take_room-room.result c.take_room-room.ensures.takes c.take_room-room.ensures.room c.give_room-in-Some.new.pass e.pass.1 given c.in-Some.cause (ap (fit_of c.take_room-room.result.room) (sym c.cost.ensures) ∙ (sym c.fit.ensures ∙ c.in-Some.ensures));
    }
