-- Seals after a commit, one after another.
use Rattle.std.proofs.Common.{◌≡◌, ◌⊎◌, inl, inr, ⊎_elim, ℕ, ◌+◌, ◌<◌, ◌≤◌, ◌==◌, Bool, true, List, [], ◌++◌, None, Result, Ok, Err, refl, sym, ap, ◌∙◌, subst, arith, append-nil}
use Rattle.std.specs.Prelude.{count_by}
use Rattle.fine_model.specs.declared.RunFault.{RunFault}
use Rattle.fine_model.specs.declared.law.RoomState.{RoomState}
use Rattle.fine_hall.specs.declared.law.Beginning.{Beginning}
use Rattle.fine_hall.specs.Passes.{last_room, mine, seen, turns}
use Rattle.fine_hall.proofs.Seeing.{sees_itself}
use Rattle.epoch_room.specs.declared.answers.RoomFault.{RoomFault}
use Rattle.epoch_room.specs.declared.answers.RoomFault.TheVariants as room_fault
use Rattle.hall_rooms.specs.Rooms.{RoomPass}
use Rattle.hall_rooms.specs.Turning.{SealsAndPosts}
use Rattle.hall_rooms.proofs.Left.{last_is}
use Rattle.run_laws.specs.Needs.{Unsealed}
use Rattle.lane_laws.specs.Lanes.{InNeed, SawShut}
use Rattle.lane_laws.specs.Quiet.{QuietBut}
use Rattle.txn_tries.specs.Committing.{IsFaultOf, IsGroupDue, SealsDue, SealsOn, SealsOnce, SealsUpTo}
use Rattle.txn_tries.specs.Faults.{fault_of}
use Rattle.txn_tries.proofs.Adding.{adds_on, meets_on, own, quiet_before, sees_adds, sees_open, turn_adds, turn_open, turn_own, turn_there}
use Rattle.txn_tries.proofs.Needed.{SealsAll, SealsOr, need_seals, seal_does, seal_seen}

-- ---- one seal

module _ (group : ℕ) (x : Beginning) (p p' : RoomPass) (r : Result ℕ RoomFault) (number : p'.number ≡ p.number) (s : SealsAndPosts x p p' r) where
  due_needs : QuietBut p.number x.room (turns p') → IsGroupDue group x p → (Q : Type 0) → InNeed group x p' Q
  due_needs quiet d Q = need_seals group x p p' (seal_seen x p p' r s quiet) ⊥ Q (λ u none. absurd none) d.needed (seal_does x p p' r s quiet)
      (λ all some. inl (⊎_elim (λ none. absurd (omega (arith, none, some))) (λ (enough : group ≤ (last_room x p).waiting). subst (λ n. group ≤ n) d.needed.counts.waiting enough) d.due))

  due_on : QuietBut p.number x.room (turns p') → IsGroupDue group x p → IsGroupDue group x p'
  due_on quiet d = record {
    needed = due_needs quiet d ⊥;
    due = ⊎_elim
        (λ (u : Unsealed (last_room x p) (last_room x p')). ⊎_elim (λ none. inl (u.waiting ∙ none)) (λ (enough : group ≤ (last_room x p).waiting). inr (subst (λ n. group ≤ n) (sym u.waiting) enough)) d.due)
        (λ (a : SealsAll (last_room x p) (last_room x p')). inl a.waiting)
        (seal_does x p p' r s quiet);
  }

  abbrev pub seal_due : (P : RoomPass → Type 0) → (QuietBut p.number x.room (turns p') → IsGroupDue group x p → P p') → SealsDue group x p p' P
  seal_due P needs = record { number = number; adds = turn_adds x s.found s.room None 0 p p' s.turn.one [] refl; mine_same = turn_own x s.found s.room None 0 p p' s.turn.one ∙ append-nil (mine p); needs = needs }

  pub due_failed : SealsDue group x p p' (λ q. InNeed group x q (Unit {0}))
  due_failed = seal_due (λ q. InNeed group x q (Unit {0})) (λ quiet d. due_needs quiet d (Unit {0}))

  saw_shut : s.room.is_shut ≡ true → SawShut p'
  saw_shut shut = (own x s.found s.room None 0 p p' s.turn.one, turn_there x s.found s.room None 0 p p' s.turn.one, inl shut)

module _ (group : ℕ) (x : Beginning) (p p' : RoomPass) (number : p'.number ≡ p.number) where
  pub seal_on : (sealed : ℕ) → SealsAndPosts x p p' (Ok sealed) → SealsOn group x p p' × (sealed ≡ (last_room x p').sealed)
  seal_on sealed s = (
    record {
      seals = seal_due group x p p' (Ok sealed) number s (IsGroupDue group x) (due_on group x p p' (Ok sealed) number s);
      meets = record { meets = s.did.4; opened = turn_open x s.found s.room None 0 p p' s.turn.one (s.did.2 ∙ sym s.did.3.opened) };
    },
    s.did.0 ∙ ap (λ (r : RoomState). r.sealed) (sym (last_is x s.found None 0 s.room p p' s.turn.one)),
  )

  pub seal_fault : (fault : RoomFault) → SealsAndPosts x p p' (Err fault) → IsFaultOf p' (fault_of fault)
  seal_fault room_fault.Disk s = saw_shut group x p p' (Err room_fault.Disk) number s s.did.1
  seal_fault (room_fault.Shut epoch) s = saw_shut group x p p' (Err (room_fault.Shut epoch)) number s (ap (λ (r : RoomState). r.is_shut) s.did.2 ∙ s.did.0)
  seal_fault room_fault.NoMemory s = tt

-- ---- several

pub seals_none : (group : ℕ) (x : Beginning) (p : RoomPass) → SealsOn group x p p
seals_none group x p = record {
  seals = record { number = refl; adds = sees_adds x p p (sees_itself p); mine_same = refl; needs = λ quiet d. d };
  meets = record { meets = refl; opened = sees_open x p p (sees_itself p) };
}

module _ (group : ℕ) (x : Beginning) (p q r : RoomPass) (one : SealsOn group x p q) where
  abbrev pub seals_after : (P : RoomPass → Type 0) → SealsDue group x q r P → SealsDue group x p r P
  seals_after P two = record {
    number = two.number ∙ one.number;
    adds = adds_on p q r one.number [] [] one.adds two.adds;
    mine_same = two.mine_same ∙ one.mine_same;
    needs = λ quiet d. two.needs (subst (λ n. QuietBut n x.room (turns r)) (sym one.number) quiet) (one.needs (quiet_before p q r one.number [] [] one.adds two.adds x quiet) d);
  }

  pub seals_more : SealsOn group x q r → SealsOn group x p r
  seals_more two = record { seals = seals_after (IsGroupDue group x) two.seals; meets = meets_on p q r one.number [] [] one.adds two.adds x one.meets two.meets }
