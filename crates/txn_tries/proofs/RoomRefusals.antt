-- What a refusal of the room, and the seal that is to make place, make of an open transaction.
use Rattle.std.proofs.Common.{◌≡◌, ◌⊎◌, inl, inr, ℕ, ◌+◌, ◌<◌, ◌≤◌, true, List, [], ◌++◌, None, Result, Ok, Err, refl, sym, ap, ◌∙◌, subst, arith, append-nil}
use Rattle.std.specs.Prelude.{Contains}
use Rattle.fine_model.specs.declared.Outcome.TheVariants as outcome
use Rattle.fine_model.specs.declared.Row.{Row}
use Rattle.fine_model.specs.declared.RunFault.TheVariants as run_fault
use Rattle.fine_model.specs.declared.ScriptTxn.{ScriptTxn}
use Rattle.fine_model.specs.declared.Why.{Why}
use Rattle.fine_model.specs.declared.Why.TheVariants as why
use Rattle.fine_model.specs.declared.law.RoomState.{RoomState}
use Rattle.fine_model.specs.Buckets.{Began}
use Rattle.fine_model.specs.History.{all_rows}
use Rattle.fine_model.specs.Merge.{cost}
use Rattle.fine_model.specs.Pushed.{all_pushed}
use Rattle.fine_model.specs.RowBytes.{longest_region, short_header}
use Rattle.epoch_room.specs.Fitting.{fit_of}
use Rattle.epoch_room.specs.declared.answers.Fit.TheVariants as fit
use Rattle.epoch_room.specs.declared.answers.RoomFault.{RoomFault}
use Rattle.epoch_room.specs.declared.answers.RoomFault.TheVariants as room_fault
use Rattle.fine_hall.specs.declared.law.Beginning.{Beginning}
use Rattle.fine_hall.specs.Laws.{AreTurns}
use Rattle.fine_hall.specs.Passes.{last_room, seen, turns}
use Rattle.fine_hall.proofs.Seeing.{sees_itself}
use Rattle.hall_rooms.specs.Rooms.{RoomPass}
use Rattle.hall_rooms.specs.Turning.{SealsAndPosts}
use Rattle.hall_rooms.proofs.Left.{last_is}
use Rattle.txn_engine.specs.declared.txn.CommitFault.{CommitFault}
use Rattle.txn_engine.specs.declared.txn.Txn.{Txn}
use Rattle.txn_engine.specs.Txns.{IsOpenTxn, IsRefused}
use Rattle.txn_engine.specs.Faults.{refusal_of}
use Rattle.lane_laws.specs.Lanes.{CauseAt, IsSpentAt, OfBegan, Owes, SawShut}
use Rattle.txn_tries.specs.declared.turn.TurnEnd.TheVariants as turn_end
use Rattle.txn_tries.specs.Going.{AddsNone, IsCommittable, Waits, txn_of}
use Rattle.txn_tries.specs.Turns.{RefusedNow}
use Rattle.txn_tries.specs.Committing.{HasLast, Unplaced}
use Rattle.txn_tries.specs.Faults.{fault_of}
use Rattle.txn_tries.proofs.Adding.{own, sees_adds, turn_there}
use Rattle.txn_tries.proofs.Fits.{fits_alone, is_large, none_waits, some_left, spent, tests_of}
use Rattle.txn_tries.proofs.Grouped.{seal_fault}
use Rattle.txn_tries.proofs.Needed.{need_seals, need_still, seal_does, seal_seen}
use Rattle.txn_tries.proofs.Refused.{refused_here}
use Rattle.txn_tries.proofs.Waiting.{region_same, sees_waits, turn_none}

pub waits_none : (group : ℕ) (txn : ScriptTxn) (x : Beginning) (p : RoomPass) → Waits group txn x p p
waits_none group txn x p = sees_waits group txn x p p (record { number = refl; sees = sees_itself p; meets = refl })

-- ---- the refusals

module _ (group : ℕ) (x : Beginning) (t : Txn) (p : RoomPass) (lawful : AreTurns x (turns p)) (small : x.room.region_len ≤ longest_region) (is_open : IsOpenTxn x t p) (may : IsCommittable t.draft) (last : HasLast x p) where
  pushes : (e : ℕ) (first : List Row) → Began x.log e first → all_pushed (first ++ all_rows (seen p)) t.draft.calls ≡ Ok t.draft.rows
  pushes e first began = ((is_open.open_on.answers may.not_failed).answered e first began).is_pushed

  refused : (word : Why) → (outcome.Refused word ≡ outcome.Refused why.Full → ⊥) → OfBegan x (λ rows. CauseAt x.room.region_len (rows ++ all_rows (seen p)) (turns p) t.draft.calls word) → Unplaced group (txn_of t.draft) x p p (turn_end.Done (outcome.Refused word))
  refused word not holds = (
    waits_none group (txn_of t.draft) x p,
    record {
      of = refl;
      run = tt;
      none = tt;
      not_full = not;
      cause = λ w is. subst (λ (v : Why). RefusedNow x p p t.draft.calls v) (same_word word w is) (refused_here x p p [] t.draft.calls word (sym (append-nil (turns p))) holds);
    },
  )
    where
      same_word : (v w : Why) → outcome.Refused v ≡ outcome.Refused w → v ≡ w
      same_word v w is = cc

  pub large_over : (need most : ℕ) → fit_of (last_room x p) (cost t.draft.rows) ≡ fit.TooLarge need most → Unplaced group (txn_of t.draft) x p p (turn_end.Done (outcome.Refused why.Large))
  large_over need most is = refused why.Large (λ same. cc)
      (λ e first began. (
        t.draft.rows,
        pushes e first began,
        (let long = is_large (last_room x p).region_len (cost t.draft.rows) (tests_of (last_room x p) (cost t.draft.rows) (fit.TooLarge need most) is) in let len = region_same x p lawful in omega (arith, long, len)),
      ))

  pub number_over : (epoch place : ℕ) → fit_of (last_room x p) (cost t.draft.rows) ≡ fit.Number epoch place → Unplaced group (txn_of t.draft) x p p (turn_end.Done (outcome.Refused why.Number))
  number_over epoch place is = refused why.Number (λ same. cc)
      (λ e first began. inr (last.turn, last.there, subst IsSpentAt (sym last.is) (spent (last_room x p) (tests_of (last_room x p) (cost t.draft.rows) (fit.Number epoch place) is))))

  pub full_over : (free live retired : ℕ) → fit_of (last_room x p) (cost t.draft.rows) ≡ fit.Full free live retired → Unplaced group (txn_of t.draft) x p p turn_end.Full
  full_over free live retired is =
      let tests = tests_of (last_room x p) (cost t.draft.rows) (fit.Full free live retired) is in
      let len = region_same x p lawful in (
        waits_none group (txn_of t.draft) x p,
        λ quiet e first began. record {
          rows = t.draft.rows;
          pushed = pushes e first began;
          alone = subst (λ (n : ℕ). short_header + cost t.draft.rows ≤ n) len (fits_alone (last_room x p).region_len (cost t.draft.rows) (subst (λ (n : ℕ). n ≤ longest_region) (sym len) small) tests.0.alone);
          none_waits = none_waits (last_room x p) tests.1;
          left = some_left (last_room x p) tests.0.left;
        },
        refl,
      )

  pub shut_over : (epoch : ℕ) → fit_of (last_room x p) (cost t.draft.rows) ≡ fit.Shut epoch → Unplaced group (txn_of t.draft) x p p (turn_end.Ended None run_fault.Disk)
  shut_over epoch is = (
    record {
      number = refl;
      adds = sees_adds x p p (sees_itself p);
      mine_same = refl;
      needs = λ quiet few e first began n. need_still group x p p (record { sealed = refl; waiting = refl; used = refl }) refl (Owes (txn_of t.draft) x p first) (Unit {0}) (λ h. tt) n;
    },
    inr (last.turn, last.there, inl (ap (λ (r : RoomState). r.is_shut) last.is ∙ tests_of (last_room x p) (cost t.draft.rows) (fit.Shut epoch) is)),
  )

-- ---- a seal that failed

module _ (group : ℕ) (txn : ScriptTxn) (x : Beginning) (p p' : RoomPass) (number : p'.number ≡ p.number) where
  fault_none : (r : Result ℕ RoomFault) → SealsAndPosts x p p' r → AddsNone group txn x p p' (λ first. Unit {0})
  fault_none r s = turn_none group txn x p p' s.found s.room s.turn number (λ first. Unit {0})
      (λ quiet few e first began n. need_seals group x p p' (seal_seen x p p' r s quiet) (Owes txn x p first) (Unit {0}) (λ u h. tt) n (seal_does x p p' r s quiet) (λ all some. inr tt))

  pub fault_over : (fault : RoomFault) → SealsAndPosts x p p' (Err fault) → Unplaced group txn x p p' (turn_end.Ended None (fault_of fault))
  fault_over room_fault.Disk s = (fault_none (Err room_fault.Disk) s, inr (seal_fault group x p p' number room_fault.Disk s))
  fault_over (room_fault.Shut epoch) s = (fault_none (Err (room_fault.Shut epoch)) s, inr (seal_fault group x p p' number (room_fault.Shut epoch) s))
  fault_over room_fault.NoMemory s = fault_none (Err room_fault.NoMemory) s

-- ---- the turn that refused

module _ (x : Beginning) (t t' : Txn) (p p' : RoomPass) (cause : CommitFault) (r : IsRefused x t t' p p' cause) where
  pub refused_last : HasLast x p'
  refused_last = record {
    turn = own x r.room r.room None 0 p p' r.turn.one;
    there = turn_there x r.room r.room None 0 p p' r.turn.one;
    is = sym (last_is x r.room None 0 r.room p p' r.turn.one);
  }

  pub refused_fit : fit_of (last_room x p') (cost t'.draft.rows) ≡ refusal_of cause
  refused_fit = (λ i. fit_of (last_is x r.room None 0 r.room p p' r.turn.one i) (cost (r.same i).draft.rows)) ∙ r.is_cause
