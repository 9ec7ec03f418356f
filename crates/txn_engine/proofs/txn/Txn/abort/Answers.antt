use denote.Param.Send.{sendable}
use Rattle.std.proofs.Common.{arith}
use Rattle.fine_hall.specs.Passes.{published, seen}
use Rattle.hall_rooms.specs.Rooms.{beginning_of}
use Rattle.hall_rooms.proofs.Crossing.{bucket_send, in_hall_send}
use Rattle.txn_engine.proofs.Ending.{gives_back, still_locks}
use Rattle.txn_engine.proofs.Releasing.{aborted, locks_read, open_blank, open_read, undone_all}
use Rattle.txn_engine.proofs.txn.Txn.abort.Goals as goal

pub published-published-requires-send-B : goal.published-published-requires-send-B
published-published-requires-send-B g c κs within = search (sendable, bucket_send) depth 20

pub published-published-requires-send-R : goal.published-published-requires-send-R
published-published-requires-send-R g c κs within = let d = c.type_bounds.send-D in search (sendable, in_hall_send) depth 20

pub release_all-requires-send-B : goal.release_all-requires-send-B
release_all-requires-send-B g c κs within = search (sendable, bucket_send) depth 20

pub release_all-requires-send-R : goal.release_all-requires-send-R
release_all-requires-send-R g c κs within = let d = c.type_bounds.send-D in search (sendable, in_hall_send) depth 20

pub release_all-requires-clause-pass : goal.release_all-requires-clause-pass
release_all-requires-clause-pass g c κs within =
    let x = beginning_of c.args.hall.now in
    let r = c.published-published.ensures in (
      r.pass.0,
      still_locks _ _ c.args.self.now.locks c.undo_all.new.locks c.published-published.new.pass
          (locks_read x c.args.self.now c.args.pass.now c.published-published.new.pass r.pass.1 r.reads c.requires.open) c.undo_all.ensures,
    )

pub release_all-requires-clause-stands : goal.release_all-requires-clause-stands
release_all-requires-clause-stands g c κs within =
    let x = beginning_of c.args.hall.now in
    let r = c.published-published.ensures in
    let p = c.published-published.new.pass in
    let t = c.args.self.now in
    let read = r.number in
    undone_all _ x (published p) _ (seen p) t.draft t.locks c.undo_all.new.locks p
    (locks_read x t c.args.pass.now p r.pass.1 r.reads c.requires.open) (open_read x t c.args.pass.now p r.pass.1 r.reads c.requires.open c.requires.pass.lawful r.pass.0.lawful) (omega (arith, read)) c.undo_all.ensures

pub returns-clause-open : goal.returns-clause-open
returns-clause-open g c =
    let e = c.release_all.ensures in
    open_blank (beginning_of c.args.hall.now) _ c.release_all.new.pass c.args.self.now.draft.lane c.args.self.now.draft.turn c.clear.ensures e.pass.0.lawful e.pass.2 e.none

pub returns-clause-aborts : goal.returns-clause-aborts
returns-clause-aborts g c =
    let e = c.release_all.ensures in
    let r = c.published-published.ensures in
    aborted (beginning_of c.args.hall.now) c.args.self.now c.args.pass.now c.published-published.new.pass r.pass.1 r.reads c.requires.open c.args.keep c.published-published.result _ c.release_all.new.pass c.undo_all.new.locks e.pass.1 c.clear.ensures e.pass.2 e.none e.releases r.number
    (gives_back _ _ c.args.self.now _ c.undo_all.new.locks c.undo_all.ensures e.given_back)
