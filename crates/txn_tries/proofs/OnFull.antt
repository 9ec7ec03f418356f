-- A transaction that is refused where the log is full.
use Rattle.std.proofs.Common.{◌≡◌, ◌⊎◌, ℕ, ◌+◌, ◌<◌, Bool, true, false, cond, min, List, [], ◌++◌, None, Some, Ok, refl, sym, ap, ◌∙◌, subst, arith, append-nil, nat_lt}
use Rattle.fine_model.specs.declared.Call.{Call}
use Rattle.fine_model.specs.declared.Ending.{Ending}
use Rattle.fine_model.specs.declared.Ending.TheVariants as ending
use Rattle.fine_model.specs.declared.Outcome.{Outcome}
use Rattle.fine_model.specs.declared.Outcome.TheVariants as outcome
use Rattle.fine_model.specs.declared.RunFault.TheVariants as run_fault
use Rattle.fine_model.specs.declared.ScriptTxn.{ScriptTxn}
use Rattle.fine_model.specs.declared.Why.{Why}
use Rattle.fine_model.specs.declared.Why.TheVariants as why
use Rattle.fine_model.specs.History.{all_rows}
use Rattle.fine_model.specs.Merge.{cost}
use Rattle.fine_model.specs.Pushed.{all_pushed}
use Rattle.fine_model.specs.RowBytes.{short_header}
use Rattle.partition_hold.specs.Views.{state_of}
use Rattle.fine_hall.specs.declared.law.Beginning.{Beginning}
use Rattle.fine_hall.specs.Halls.{SeesMore}
use Rattle.fine_hall.specs.Passes.{HoldsNothing, seen, troubles, turns}
use Rattle.hall_rooms.specs.Rooms.{RoomPass}
use Rattle.hall_rooms.specs.Turning.{MeetsNone}
use Rattle.txn_engine.specs.declared.txn.Txn.{Txn}
use Rattle.txn_engine.specs.Txns.{IsOpenTxn}
use Rattle.txn_tries.specs.declared.turn.TurnEnd.{TurnEnd}
use Rattle.txn_tries.specs.declared.turn.TurnEnd.TheVariants as turn_end
use Rattle.txn_tries.specs.Turns.{RefusedNow, RefusedOrFull, RefusesSo, RefusesTurn}
use Rattle.txn_tries.specs.Going.{OnlySees}
use Rattle.txn_tries.specs.Answering.{EndsWithout, IsAnswer, StopsTurn}
use Rattle.txn_tries.specs.Faults.{refused_as, why_on_full}
use Rattle.txn_tries.proofs.Attempted.{sees_from_idle}
use Rattle.txn_tries.proofs.Refused.{refused_here, refused_later, refused_sooner}

-- ---- after a refused call

caused : (x : Beginning) (calls : List Call) (p r : RoomPass) (word : Why) → RefusedNow x p r calls word → RefusedOrFull x calls p r (outcome.Refused word)
caused x calls p r why.Large h = h
caused x calls p r why.Bucket h = h
caused x calls p r why.Number h = h
caused x calls p r why.Full h = tt

module _ (x : Beginning) (txn : ScriptTxn) (p r : RoomPass) where
  without : (o : Outcome) → EndsWithout x txn p r o → RefusedOrFull x txn.calls p r o
  without (outcome.Committed place epoch entry) e = absurd e.none
  without outcome.Aborted e = tt
  without (outcome.Refused word) e = caused x txn.calls p r word (e.cause word refl)
  without outcome.NotRun e = absurd e.run

  pub stops_refuses : (end : TurnEnd) → SeesMore p r → StopsTurn x txn p r end → RefusesTurn x txn p r end
  stops_refuses (turn_end.Done o) sees s = record { sees = sees; ends = (s.0, s.1.of, without o s.1) }
  stops_refuses turn_end.Tried sees s = absurd s
  stops_refuses turn_end.Full sees s = absurd s
  stops_refuses (turn_end.Ended (Some o) fault) sees s = absurd s
  stops_refuses (turn_end.Ended None run_fault.Disk) sees s = record { sees = sees; ends = s }
  stops_refuses (turn_end.Ended None run_fault.Memory) sees s = record { sees = sees; ends = tt }
  stops_refuses (turn_end.Ended None (run_fault.Damaged what)) sees s = record { sees = sees; ends = s }

-- ---- from an earlier moment

module _ (x : Beginning) (txn : ScriptTxn) (p q r : RoomPass) (nothing : HoldsNothing p) (first : OnlySees x p q) where
  cause_sooner : (o : Outcome) → RefusedOrFull x txn.calls q r o → RefusedOrFull x txn.calls p r o
  cause_sooner (outcome.Committed place epoch entry) h = h
  cause_sooner outcome.Aborted h = tt
  cause_sooner (outcome.Refused why.Large) h = refused_sooner x p q r txn.calls why.Large first.sees.longer.0 first.sees.longer.1 h
  cause_sooner (outcome.Refused why.Bucket) h = refused_sooner x p q r txn.calls why.Bucket first.sees.longer.0 first.sees.longer.1 h
  cause_sooner (outcome.Refused why.Number) h = refused_sooner x p q r txn.calls why.Number first.sees.longer.0 first.sees.longer.1 h
  cause_sooner (outcome.Refused why.Full) h = tt
  cause_sooner outcome.NotRun h = h

  so_sooner : (end : TurnEnd) → RefusesSo x txn q r end → RefusesSo x txn p r end
  so_sooner (turn_end.Done o) h = (h.0 ∙ first.meets, h.1, cause_sooner o h.2)
  so_sooner turn_end.Tried h = h ∙ first.meets
  so_sooner turn_end.Full h = h
  so_sooner (turn_end.Ended (Some o) fault) h = h
  so_sooner (turn_end.Ended None run_fault.Disk) h = h
  so_sooner (turn_end.Ended None run_fault.Memory) h = tt
  so_sooner (turn_end.Ended None (run_fault.Damaged what)) h = (h.0 ∙ first.meets, h.1, h.2)

  pub refuses_after : (end : TurnEnd) → RefusesTurn x txn q r end → RefusesTurn x txn p r end
  refuses_after end h = record { sees = sees_from_idle p q r first.number nothing first.sees h.sees; ends = so_sooner end h.ends }

  pub sees_after : OnlySees x q r → OnlySees x p r
  sees_after s = record { number = s.number ∙ first.number; sees = sees_from_idle p q r first.number nothing first.sees s.sees; meets = s.meets ∙ first.meets }

-- ---- all were answered

too_large : (len cost : ℕ) → nat_lt len (min (cost + 41) 18446744073709551615) ≡ true → len < short_header + cost
too_large len cost h = grind (arith, h)

module _ (x : Beginning) (txn : ScriptTxn) (turn : ℕ) (t : Txn) (p r : RoomPass) (is_open : IsOpenTxn x t p) (answer : IsAnswer txn turn t.draft) (sees : SeesMore p r) (met : MeetsNone x p r) where
  large_now : (len : ℕ) → len ≡ x.room.region_len → nat_lt len (min (cost t.draft.rows + 41) 18446744073709551615) ≡ true → RefusedNow x p r txn.calls why.Large
  large_now len same long = refused_later x p p r txn.calls why.Large sees.longer.0 sees.longer.1
      (refused_here x p p [] txn.calls why.Large (sym (append-nil (turns p)))
      (λ e first began. (
        t.draft.rows,
        subst (λ (l : List Call). all_pushed (first ++ all_rows (seen p)) l ≡ Ok t.draft.rows) answer.calls ((is_open.open_on.answers answer.may.not_failed).answered e first began).is_pushed,
        (let h = too_large len (cost t.draft.rows) long in omega (arith, h, same)),
      )))

  full_ends : (len : ℕ) → len ≡ x.room.region_len → (a : Ending) → txn.ending ≡ a → RefusesSo x txn p r (turn_end.Done (refused_as a (why_on_full (cost t.draft.rows) len)))
  full_ends len same ending.Abort is = (met, is, tt)
  full_ends len same ending.Commit is = by (nat_lt len (min (cost t.draft.rows + 41) 18446744073709551615)) refl
    where
      by : (b : Bool) → nat_lt len (min (cost t.draft.rows + 41) 18446744073709551615) ≡ b → RefusesSo x txn p r (turn_end.Done (outcome.Refused (cond b why.Large why.Full)))
      by true long = (met, is, large_now len same long)
      by false long = (met, is, tt)

  pub full_refuses : (len : ℕ) → len ≡ x.room.region_len → RefusesTurn x txn p r (turn_end.Done (refused_as txn.ending (why_on_full (cost t.draft.rows) len)))
  full_refuses len same = record { sees = sees; ends = full_ends len same txn.ending refl }
