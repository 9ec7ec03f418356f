-- What lanes that have ended leave.
use Rattle.std.proofs.Common.{◌≡◌, ℕ, zero, suc, ◌-◌, ◌≤◌, ◌==◌, ◌&&◌, ◌||◌, not, Bool, true, false, List, [], ◌∷◌, length, Option, Some, None, is_some, cond, refl, sym, ap, ◌∙◌, subst, true≢false, arith}
use Rattle.std.specs.Prelude.{Contains, slice_get, unwrap_or, zip}
use Rattle.std.specs.List.{list_any, range_with_len}
use Rattle.std.proofs.lemmas.List.Sums.{sum_by-le-sum_by}
use Rattle.fine_model.specs.declared.Outcome.{Outcome}
use Rattle.fine_model.specs.declared.Outcome.TheVariants as outcome
use Rattle.fine_model.specs.declared.RunFault.{RunFault}
use Rattle.fine_model.specs.declared.ScriptTxn.{ScriptTxn}
use Rattle.fine_model.specs.Outcomes.{AllRun, has_run, lanes_not_run}
use Rattle.run_laws.specs.Lanes.{CutShortLaw, HaveEnded, fault_of, is_disk, most_lanes}

-- ---- faults

there : (faults : List (Option RunFault)) (i : ℕ) (fault : RunFault) → unwrap_or (slice_get faults i) None ≡ Some fault → Contains faults (Some fault)
there [] i fault is = absurd (let e : ◌≡◌ {A = Option RunFault} None (Some fault) = is in cc)
there (f ∷ faults) zero fault is = (0, omega arith, is)
there (f ∷ faults) (suc i) fault is = let (k, within, at) = there faults i fault is in (suc k, omega (arith, within), at)

by_fault : {P : Type 0} (o : Option RunFault) → is_some o ≡ true → ((fault : RunFault) → o ≡ Some fault → P) → P
by_fault None is then = absurd (true≢false (sym is))
by_fault (Some fault) is then = then fault refl

-- ---- what was not run

is_not_run : (o : Outcome) → not (has_run o) ≡ true → o ≡ outcome.NotRun
is_not_run (outcome.Committed place epoch entry) is = absurd (true≢false (sym is))
is_not_run outcome.Aborted is = absurd (true≢false (sym is))
is_not_run (outcome.Refused why) is = absurd (true≢false (sym is))
is_not_run outcome.NotRun is = refl

abbrev is_cut : ℕ → ScriptTxn × Outcome → Bool
is_cut lane p = (p.0.lane == lane) && not (has_run p.1)

both : (a b : Bool) → (a && b) ≡ true → (a ≡ true) × (b ≡ true)
both true b is = (refl, is)
both false b is = absurd (true≢false (sym is))

is_same : (n m : ℕ) → (n == m) ≡ true → n ≡ m
is_same n m h = grind (arith, h)

-- a lane that was cut short has ended
cut_ended : (script : List ScriptTxn) (outcomes : List Outcome) (faults : List (Option RunFault)) → HaveEnded script outcomes faults → (lane : ℕ) → list_any (is_cut lane) (zip script outcomes) ≡ true → is_some (fault_of faults lane) ≡ true
cut_ended [] outcomes faults ended lane is = absurd (true≢false (sym is))
cut_ended (txn ∷ script) [] faults ended lane is = absurd (true≢false (sym is))
cut_ended (txn ∷ script) (o ∷ outcomes) faults ended lane is = by (is_cut lane (txn, o)) refl (cut_ended script outcomes faults (λ i. ended (suc i)) lane)
  where
    by : (t : Bool) → is_cut lane (txn, o) ≡ t → (list_any (is_cut lane) (zip script outcomes) ≡ true → is_some (fault_of faults lane) ≡ true) → is_some (fault_of faults lane) ≡ true
    by true here later = let (of_lane, cut) = both (txn.lane == lane) (not (has_run o)) here in subst (λ n. is_some (fault_of faults n) ≡ true) (is_same txn.lane lane of_lane) (ended 0 txn refl (ap Some (is_not_run o cut)))
    by false here later = later (sym (ap (λ t. t || list_any (is_cut lane) (zip script outcomes)) here) ∙ is)

at_most_one : (a b : Bool) → (a ≡ true → b ≡ true) → cond a 1 0 ≤ cond b 1 0
at_most_one true b then = subst (λ t. 1 ≤ cond t 1 0) (sym (then refl)) (omega arith)
at_most_one false b then = omega arith

-- ---- all of it

all_run : (outcomes : List Outcome) → ((i : ℕ) → slice_get outcomes i ≡ Some outcome.NotRun → ⊥) → AllRun outcomes
all_run [] none = tt
all_run (outcome.Committed place epoch entry ∷ outcomes) none = (tt, all_run outcomes (λ i. none (suc i)))
all_run (outcome.Aborted ∷ outcomes) none = (tt, all_run outcomes (λ i. none (suc i)))
all_run (outcome.Refused why ∷ outcomes) none = (tt, all_run outcomes (λ i. none (suc i)))
all_run (outcome.NotRun ∷ outcomes) none = absurd (none 0 refl)

-- each outcome has its transaction
txn_of : (script : List ScriptTxn) (outcomes : List Outcome) → length outcomes ≡ length script → (i : ℕ) (o : Outcome) → slice_get outcomes i ≡ Some o → (txn : ScriptTxn) × (slice_get script i ≡ Some txn)
txn_of script [] same i o is = absurd (let e : ◌≡◌ {A = Option Outcome} None (Some o) = is in cc)
txn_of [] (p ∷ outcomes) same i o is = absurd (omega (arith, same))
txn_of (txn ∷ script) (p ∷ outcomes) same zero o is = (txn, refl)
txn_of (txn ∷ script) (p ∷ outcomes) same (suc i) o is = txn_of script outcomes (omega (arith, same)) i o is

pub cut_short_law : CutShortLaw
unfolding lanes_not_run
cut_short_law script outcomes faults same ended = record {
  all_run = λ none. all_run outcomes (λ i is.
      let (txn, at) = txn_of script outcomes same i outcome.NotRun is in
      by_fault (fault_of faults txn.lane) (ended i txn at is) (λ fault by. none fault (there faults (txn.lane - 1) fault by)));
  few = λ by_disk. sum_by-le-sum_by (λ lane. cond (list_any (is_cut lane) (zip script outcomes)) 1 0) (λ lane. cond (is_disk (fault_of faults lane)) 1 0) (range_with_len 1 most_lanes)
      (λ lane. at_most_one (list_any (is_cut lane) (zip script outcomes)) (is_disk (fault_of faults lane)) (λ cut.
      by_fault (fault_of faults lane) (cut_ended script outcomes faults ended lane cut) (λ fault by. ap is_disk (by ∙ ap Some (by_disk fault (there faults (lane - 1) fault by))))));
}
