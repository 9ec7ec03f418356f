-- A pass in the midst of a transaction: as it begins, after a call, a refused commit and a seal, and once it ended.
use Rattle.std.proofs.Common.{◌≡◌, ℕ, Result, ◌∙◌, ap, sym, arith, le_refl}
use Rattle.std.specs.Prelude.{slice_get}
use lib.ListN.{get_elem?}
use Rattle.fine_places.specs.History as places
use Rattle.node_cache.specs.Cache.{Cache}
use Rattle.partition_hold.specs.Views.{ViewValue, state_of}
use Rattle.epoch_room.specs.Value.{RoomValue}
use Rattle.epoch_room.specs.declared.answers.RoomFault.{RoomFault}
use Rattle.epoch_room.specs.declared.answers.Stamp.{Stamp}
use Rattle.fine_hall.specs.Halls.{HallOf}
use Rattle.fine_hall.proofs.Troubles.{sees_law}
use Rattle.key_locks.proofs.Held.{near}
use Rattle.hall_rooms.specs.Rooms.{IsIdle, IsRoomPass, RoomPass, beginning_of}
use Rattle.hall_rooms.specs.Turning.{SealsAndPosts}
use Rattle.txn_draft.specs.Drafts.{blank}
use Rattle.txn_engine.specs.declared.txn.CommitFault.{CommitFault}
use Rattle.txn_engine.specs.declared.txn.Txn.{Txn}
use Rattle.txn_engine.specs.Txns.{Aborts, Commits, IsBlankTxn, IsOpenTxn, IsRefused, SeesCall}
use Rattle.txn_engine.proofs.Idle.{aborts_idle, begins_law, commits_idle, refused_job}
use Rattle.txn_engine.proofs.Turned.{seals_law, seals_no_job}
use Rattle.txn_tries.specs.Going.{IsAtRest, IsGoing}
use Rattle.txn_tries.specs.Answering.{IsUndone}

module _ {Q : Type 0} (hall : HallOf RoomValue Cache ViewValue Q) (t t' : Txn) (p p' : RoomPass) where
  -- it begins anew on a pass that has nothing
  pub begins_going : (lane turn : ℕ) → IsIdle hall p → IsBlankTxn t → t'.draft ≡ blank lane turn → t'.locks ≡ t.locks → IsGoing hall t' p
  begins_going lane turn idle free is same = record {
    pass = idle.0;
    is_open = begins_law (beginning_of hall) t' p lane turn is (λ k low. ap (λ l. slice_get l k) same ∙ free.none k low) idle.0.lawful (λ k low. let lt = near k low in idle.1 k (omega (arith, lt)));
    room = idle.1 places.room (le_refl places.room);
    job = idle.2;
  }

  pub call_going : IsGoing hall t p → IsRoomPass hall p' → p'.number ≡ p.number → SeesCall (beginning_of hall) p p' → IsOpenTxn (beginning_of hall) t' p' → IsGoing hall t' p'
  call_going g pass number s o = record {
    pass = pass;
    is_open = o;
    room = s.room ∙ g.room;
    job = λ one. let was = sym number ∙ one in ((sees_law state_of).job (beginning_of hall) p p' pass.lawful was s.sees).job ∙ g.job was;
  }

  pub refused_going : (cause : CommitFault) → IsGoing hall t p → IsRoomPass hall p' → p'.number ≡ p.number → IsRefused (beginning_of hall) t t' p p' cause → IsOpenTxn (beginning_of hall) t' p' → IsGoing hall t' p'
  refused_going cause g pass number r o = record {
    pass = pass;
    is_open = o;
    room = ap (λ l. get_elem? l places.room) r.held ∙ g.room;
    job = refused_job (beginning_of hall) t t' p p' cause number r g.job;
  }

  pub seal_going : (r : Result ℕ RoomFault) → IsGoing hall t p → IsRoomPass hall p' → p'.number ≡ p.number → SealsAndPosts (beginning_of hall) p p' r → IsGoing hall t p'
  seal_going r g pass number s = record {
    pass = pass;
    is_open = seals_law (beginning_of hall) t p p' r s g.pass.lawful pass.lawful g.room g.is_open;
    room = ap (λ l. get_elem? l places.room) s.same_held ∙ g.room;
    job = seals_no_job (beginning_of hall) p p' r number s g.job;
  }

  pub commit_rest : (keep : ℕ) (stamp : Stamp) → IsGoing hall t p → IsRoomPass hall p' → p'.number ≡ p.number → Commits (beginning_of hall) keep t t' p p' stamp → IsAtRest hall p.number t' p'
  commit_rest keep stamp g pass number c =
      let i = commits_idle (beginning_of hall) keep t t' p p' stamp number c g.job in
      record { idle = ((pass, i.0, i.1), number); blank = record { lane = t.draft.lane; turn = t.draft.turn; is_blank = c.blank_now.0; none = c.blank_now.1 } }

  pub abort_undone : (keep : ℕ) → IsGoing hall t p → IsRoomPass hall p' → p'.number ≡ p.number → Aborts (beginning_of hall) keep t t' p p' → IsUndone hall t' p p'
  abort_undone keep g pass number a =
      let i = aborts_idle (beginning_of hall) keep t t' p p' number pass.lawful a g.room g.job in
      record { rest = record { idle = ((pass, i.0, i.1), number); blank = record { lane = t.draft.lane; turn = t.draft.turn; is_blank = a.blank_now.0; none = a.blank_now.1 } }; sees = a.sees }

-- at rest, as the seat of an earlier moment
pub rest_of : {Q : Type 0} (hall : HallOf RoomValue Cache ViewValue Q) (n m : ℕ) (t : Txn) (p : RoomPass) → n ≡ m → IsAtRest hall n t p → IsAtRest hall m t p
rest_of hall n m t p same r = record { idle = (r.idle.0, r.idle.1 ∙ same); blank = r.blank }
