-- A pass in the midst of a transaction, after a call, after a commit that was refused, and after turns without an entry.
use Rattle.std.proofs.Common.{◌≡◌, ℕ, Bool, None, Result, List, [], ◌∷◌, ◌∙◌, ap, sym, subst, arith, le_refl}
use Rattle.std.specs.Prelude.{slice_get, slice_index_or}
use mathlib.Core.Option.{some}
use lib.ListN.{get_elem?}
use Rattle.fine_model.specs.declared.law.RoomState.{RoomState}
use Rattle.fine_model.specs.Jobs.{KeepsJob}
use Rattle.fine_places.specs.History as places
use Rattle.node_cache.specs.Cache.{Cache}
use Rattle.partition_hold.specs.Views.{ViewValue, state_of}
use Rattle.epoch_room.specs.Value.{RoomValue}
use Rattle.fine_hall.specs.Halls.{HallOf}
use Rattle.fine_hall.proofs.Troubles.{sees_law}
use Rattle.epoch_room.specs.declared.answers.RoomFault.{RoomFault}
use Rattle.room_merges.specs.declared.fault.MergeFault.{MergeFault}
use Rattle.hall_rooms.specs.declared.making.Space.{Space}
use Rattle.txn_draft.specs.Drafts.{blank}
use Rattle.hall_rooms.specs.Making.{Renews, RenewsEach, TriesRoom}
use Rattle.hall_rooms.specs.Merging.{MergesInTurn}
use Rattle.hall_rooms.specs.Turning.{DidInTurn, SealsAndPosts}
use Rattle.hall_rooms.proofs.Idle.{seals_idle}
use Rattle.hall_rooms.proofs.Left.{job_left}
use Rattle.hall_rooms.specs.Rooms.{IsRoomPass, RoomPass, beginning_of}
use Rattle.txn_engine.specs.declared.txn.CommitFault.{CommitFault}
use Rattle.txn_engine.specs.declared.txn.Txn.{Txn}
use Rattle.txn_engine.specs.Txns.{IsBlankTxn, IsOpenTxn, IsRefused, SeesCall}
use Rattle.key_locks.proofs.Held.{near}
use Rattle.txn_engine.proofs.Idle.{begins_law, refused_job, seen_law}
use Rattle.txn_engine.proofs.Turned.{tries_law, tries_no_job, turn_law}
use Rattle.hall_accounts.specs.Going.{AreGoing, IsAtRest, IsGoing, KeepsMarks}
use Rattle.hall_accounts.proofs.Begun.{first_is}

module _ {Q : Type 0} (hall : HallOf RoomValue Cache ViewValue Q) (t t' : Txn) (p p' : RoomPass) where
  pub going_on : IsGoing hall t p → IsRoomPass hall p' → p'.number ≡ p.number → SeesCall (beginning_of hall) p p' → IsOpenTxn (beginning_of hall) t' p' → IsGoing hall t' p'
  going_on g pass number s o = record {
    pass = pass;
    is_open = o;
    room = s.room ∙ g.room;
    job = λ one. let was = sym number ∙ one in ((sees_law state_of).job (beginning_of hall) p p' pass.lawful was s.sees).job ∙ g.job was;
  }

  pub refused_goes : (cause : CommitFault) → IsGoing hall t p → IsRoomPass hall p' → p'.number ≡ p.number → IsRefused (beginning_of hall) t t' p p' cause → IsOpenTxn (beginning_of hall) t' p' → IsGoing hall t' p'
  refused_goes cause g pass number r o = record {
    pass = pass;
    is_open = o;
    room = ap (λ l. get_elem? l places.room) r.held ∙ g.room;
    job = refused_job (beginning_of hall) t t' p p' cause number r g.job;
  }

-- a pass at rest is so after a turn that seals
pub shows_on : {Q : Type 0} (hall : HallOf RoomValue Cache ViewValue Q) (p p' : RoomPass) (r : Result ℕ RoomFault) → IsAtRest hall p → IsRoomPass hall p' → p'.number ≡ p.number → SealsAndPosts (beginning_of hall) p p' r → IsAtRest hall p'
shows_on hall p p' r rest pass number s = let i = seals_idle r (beginning_of hall) p p' number s rest.idle.1 rest.idle.2 in record { idle = (pass, i.0, i.1) }

-- an open transaction goes on over a turn of its pass without an entry that leaves the merge as it was, whatever else it did
pub turn_goes : {Q : Type 0} (hall : HallOf RoomValue Cache ViewValue Q) (t : Txn) (p p' : RoomPass) (does : RoomState → RoomState → Type 0) → IsGoing hall t p → IsRoomPass hall p' → p'.number ≡ p.number → DidInTurn (beginning_of hall) p p' does → IsGoing hall t p'
turn_goes hall t p p' does g pass number d = record {
  pass = pass;
  is_open = turn_law (beginning_of hall) t p p' d.found d.room (record { one = d.turn.one; same_held = d.same_held }) g.pass.lawful pass.lawful g.room g.is_open;
  room = ap (λ l. get_elem? l places.room) d.same_held ∙ g.room;
  job = job_left (beginning_of hall) d.found None 0 d.room p p' number d.turn.one d.job g.job;
}

-- so it does over one that merges
pub merges_goes : {Q : Type 0} (hall : HallOf RoomValue Cache ViewValue Q) (t : Txn) (p p' : RoomPass) (from : ℕ) (r : Result Bool MergeFault) → IsGoing hall t p → IsRoomPass hall p' → p'.number ≡ p.number → MergesInTurn (beginning_of hall) from p p' r → IsGoing hall t p'
merges_goes hall t p p' from r g pass number m = turn_goes hall t p p' KeepsJob g pass number (record { found = m.found.room; room = m.room.room; turn = m.turn; same_held = m.same_held; job = m.job; did = m.job })

-- and over one that makes room, whatever that comes to
pub tries_goes : {Q : Type 0} (hall : HallOf RoomValue Cache ViewValue Q) (t : Txn) (p p' : RoomPass) (from : ℕ) (r : Result Space MergeFault) → IsGoing hall t p → IsRoomPass hall p' → TriesRoom (beginning_of hall) from p p' r → IsGoing hall t p'
tries_goes hall t p p' from r g pass m = record {
  pass = pass;
  is_open = tries_law (beginning_of hall) t p p' from r m g.pass.lawful pass.lawful g.room g.is_open;
  room = ap (λ l. get_elem? l places.room) m.turn.same_held ∙ g.room;
  job = tries_no_job (beginning_of hall) p p' from r m;
}

-- and so does that of another pass, which looks in its mailbox in it
renews_goes : {Q : Type 0} (hall : HallOf RoomValue Cache ViewValue Q) (t : Txn) (p p' : RoomPass) → IsGoing hall t p → IsRoomPass hall p' → Renews (beginning_of hall) p p' → IsGoing hall t p'
renews_goes hall t p p' g pass r = record {
  pass = pass;
  is_open = seen_law (beginning_of hall) t p p' r.sees g.pass.lawful pass.lawful (λ k low. ap (λ l. get_elem? l k) r.same_held) g.is_open;
  room = ap (λ l. get_elem? l places.room) r.same_held ∙ g.room;
  job = λ one. let was = sym r.number ∙ one in ((sees_law state_of).job (beginning_of hall) p p' pass.lawful was r.sees).job ∙ g.job was;
}

-- the transactions of both seats go on as the first makes room with the pass of the second
pub both_go : {Q : Type 0} (hall : HallOf RoomValue Cache ViewValue Q) (t u : Txn) (p p' q : RoomPass) (before after : List RoomPass) (from : ℕ) (r : Result Space MergeFault) → AreGoing hall t p u q → before ≡ q ∷ [] → IsRoomPass hall p' × (p'.number ≡ p.number) → ((i : ℕ) (o : RoomPass) → get_elem? after i ≡ some o → IsRoomPass hall o) → RenewsEach (beginning_of hall) before after → TriesRoom (beginning_of hall) from p p' r → AreGoing hall t p' u (slice_index_or after 0 q)
both_go hall t u p p' q before after from r are is pass others renews m =
    let e = renews.each 0 q (ap (λ l. get_elem? l 0) is) in
    let goes = renews_goes hall u q e.0 are.two.0 (others 0 e.0 e.1) e.2 in
    record {
      one = (tries_goes hall t p p' from r are.one.0 pass.0 m, pass.1 ∙ are.one.1);
      two = subst (λ o. IsGoing hall u o × (o.number ≡ 2)) (sym (first_is after q e.0 e.1)) (goes, e.2.number ∙ are.two.1);
    }

-- and the second keeps the fronts that it had among its marks
pub keeps_marks : {Q : Type 0} (hall : HallOf RoomValue Cache ViewValue Q) (q : RoomPass) (before after : List RoomPass) → before ≡ q ∷ [] → RenewsEach (beginning_of hall) before after → KeepsMarks q (slice_index_or after 0 q)
keeps_marks hall q before after is renews =
    let e = renews.each 0 q (ap (λ l. get_elem? l 0) is) in
    subst (KeepsMarks q) (sym (first_is after q e.0 e.1)) e.2.marked

-- ---- a transaction that begins

-- a blank one that begins anew is blank
pub begun_blank : (t t' : Txn) (lane turn : ℕ) → t' ≡ record t { draft = blank lane turn } → IsBlankTxn t → IsBlankTxn t'
begun_blank t t' lane turn is free = record { lane = lane; turn = turn; is_blank = ap (λ (u : Txn). u.draft) is; none = λ k low. ap (λ (u : Txn). slice_get u.locks k) is ∙ free.none k low }

-- a transaction that holds nothing begins with an idle pass
pub goes : {Q : Type 0} (hall : HallOf RoomValue Cache ViewValue Q) (t : Txn) (p : RoomPass) → IsAtRest hall p → IsBlankTxn t → IsGoing hall t p
goes hall t p rest free = let idle = rest.idle in record {
  pass = idle.0;
  is_open = begins_law (beginning_of hall) t p free.lane free.turn free.is_blank free.none idle.0.lawful (λ k low. let lt = near k low in idle.1 k (omega (arith, lt)));
  room = idle.1 places.room (le_refl places.room);
  job = idle.2;
}
