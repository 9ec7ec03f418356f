-- The transactions one after another, and the end.
use Rattle.std.proofs.Common.{◌≡◌, inl, inr, ℕ, zero, suc, ◌+◌, ◌-◌, ◌<◌, ◌≤◌, false, List, [], ◌∷◌, ◌++◌, length, refl, sym, ap, ◌∙◌, subst, Option, Some, None, arith}
use Rattle.std.specs.Prelude.{Contains, replicate, slice_get, slice_set, take}
use Rattle.std.specs.List.{AllByRecursion}
use Rattle.std.proofs.lemmas.List.{append-nil}
use Rattle.fine_model.specs.declared.Options.{Options}
use Rattle.fine_model.specs.declared.Outcome.{Outcome}
use Rattle.fine_model.specs.declared.Outcome.TheVariants as outcome
use Rattle.fine_model.specs.declared.Ran.{Ran}
use Rattle.fine_model.specs.declared.RunFault.{RunFault}
use Rattle.fine_model.specs.declared.RunFault.TheVariants as run_fault
use Rattle.fine_model.specs.declared.ScriptTxn.{ScriptTxn}
use Rattle.std.proofs.lemmas.Option.{slice_get_within}
use Rattle.fine_model.specs.declared.law.Origin.{Origin}
use Rattle.fine_model.specs.Bounds.{FitsScript, FitsTxn}
use Rattle.fine_model.specs.History.{Commit}
use Rattle.fine_model.specs.Outcomes.{IsHistoryOf}
use Rattle.fine_model.specs.Report.{all_outcomes}
use Rattle.fine_model.specs.RowBytes.{greatest}
use Rattle.epoch_room.specs.Meaning.{origin_of}
use Rattle.epoch_room.specs.Value.{RoomValue}
use Rattle.epoch_room.proofs.Counting.{sealed_most}
use Rattle.open_txn.specs.Buckets.{BucketsValue, StandAll}
use Rattle.run_laws.specs.Lanes.{first_fault, none_ended, with_last}
use Rattle.run_laws.specs.Law.{nothing_ran}
use Rattle.run_laws.specs.Runs.{IsReady, RunsLanes, RunsScript, SealsLast}
use Rattle.run_laws.specs.SoFar.{AreSoFar, Finished, IsEnd}
use Rattle.run_laws.specs.Turns.{commits_of}
use Rattle.run_laws.proofs.Begin as begin
use Rattle.run_laws.proofs.Finish.{finished_law}
use Rattle.run_laws.proofs.Nothing.{nothing_law}
use Rattle.run_laws.proofs.Stepping as stepping
use Rattle.run_laws.proofs.Steps.{lane_ends_law, next_law}
use Rattle.run_laws.proofs.Turns.{in_turn_law}
use Rattle.txn_runner.specs.Body.{Body, IsBetween, RunsSoFar, serial}
use Rattle.txn_runner.specs.Steps.{BehindTxns, Comes, IsClosed, RunsTxn, is_memory}
use Rattle.txn_runner.proofs.LastSeal.{seals_last}

-- outcomes have one history
first_in : (outcomes : List Outcome) (one other : List Commit) → IsHistoryOf outcomes one → IsHistoryOf outcomes other → (place : ℕ) (c : Commit) → slice_get one place ≡ Some c → slice_get other place ≡ Some c
first_in outcomes one other a b place c at = let i = a.only place c at in (b.each i.0 place c i.1).0

same_lists : {A : Type 0} (xs ys : List A) → ((n : ℕ) (x : A) → slice_get xs n ≡ Some x → slice_get ys n ≡ Some x) → ((n : ℕ) (x : A) → slice_get ys n ≡ Some x → slice_get xs n ≡ Some x) → xs ≡ ys
same_lists [] [] to back = refl
same_lists [] (y ∷ ys) to back = absurd (let e : ◌≡◌ {A = Option _} None (Some y) = back 0 y refl in cc)
same_lists (x ∷ xs) [] to back = absurd (let e : ◌≡◌ {A = Option _} None (Some x) = to 0 x refl in cc)
same_lists (x ∷ xs) (y ∷ ys) to back = let e : ◌≡◌ {A = Option _} (Some y) (Some x) = to 0 x refl in let same : x ≡ y = cc in
    λ i. same i ∷ same_lists xs ys (λ n z at. to (suc n) z at) (λ n z at. back (suc n) z at) i

one_history : (outcomes : List Outcome) (one other : List Commit) → IsHistoryOf outcomes one → IsHistoryOf outcomes other → one ≡ other
one_history outcomes one other a b = same_lists one other (first_in outcomes one other a b) (first_in outcomes other one b a)

pub all_at : {A : Type 0} (P : A → Type 0) (xs : List A) → AllByRecursion P xs → (i : ℕ) (x : A) → slice_get xs i ≡ Some x → P x
all_at P [] all i x is = absurd (let e : ◌≡◌ {A = Option _} None (Some x) = is in cc)
all_at P (y ∷ xs) all zero x is = let same : y ≡ x = cc in subst P same all.0
all_at P (y ∷ xs) all (suc i) x is = all_at P xs all.1 i x is

few_commits : (done : List Outcome) → length (commits_of done) ≤ length done
few_commits [] = omega arith
few_commits (outcome.Committed place epoch e ∷ done) = let h = few_commits done in omega (arith, h)
few_commits (outcome.Aborted ∷ done) = let h = few_commits done in omega (arith, h)
few_commits (outcome.Refused word ∷ done) = let h = few_commits done in omega (arith, h)
few_commits (outcome.NotRun ∷ done) = let h = few_commits done in omega (arith, h)

module _ (script : List ScriptTxn) (options : Options) (entry : RoomValue) where
  -- ---- the beginning

  pub begins : (buckets : BucketsValue) → IsReady entry → 1 ≤ options.group → StandAll (origin_of entry.entry) entry.room.sealed buckets []
      → RunsSoFar script options 0 entry (record { room = entry; view = None; buckets = buckets; full = false; ended = none_ended }) (replicate (length script) outcome.NotRun)
  begins buckets ready group stand = begin.begins StandAll script options entry buckets ready group stand

  pub begins_with : (buckets : BucketsValue) → IsReady entry → 1 ≤ options.group → ((log : Origin) (published : ℕ) → StandAll log published buckets []) → (ended : List (Option RunFault)) → ended ≡ none_ended → (many : ℕ) → many ≡ length script
      → (outcomes : List Outcome) → outcomes ≡ replicate many outcome.NotRun → RunsSoFar script options 0 entry (record { room = entry; view = None; buckets = buckets; full = false; ended = ended }) outcomes
  begins_with buckets ready group stand ended none many all outcomes are = subst (λ x. RunsSoFar script options 0 entry (record { room = entry; view = None; buckets = buckets; full = false; ended = x }) outcomes) (sym none)
      (subst (RunsSoFar script options 0 entry (record { room = entry; view = None; buckets = buckets; full = false; ended = none_ended })) (sym (are ∙ ap (λ n. replicate n outcome.NotRun) all))
      (begins buckets ready group (stand (origin_of entry.entry) entry.room.sealed)))

  -- ---- one transaction more

  module _ (i : ℕ) (b : Body) (outcomes : List Outcome) (s : RunsSoFar script options i entry b outcomes) where
    pub between : IsBetween options.group entry b (commits_of s.done)
    between = record { going = record { goes = record { room = s.goes_on; no_region = s.no_region; stuck = s.stuck; view = s.view }; few = s.few; told = s.told }; stand = s.buckets }

    comes_on : FitsScript script → (txn : ScriptTxn) (next : Outcome) (after : List (Option RunFault)) → slice_get script i ≡ Some txn → Comes s.done b.ended after txn next → AreSoFar script (i + 1) (s.done ++ next ∷ []) after
    comes_on fits txn next after at (inl c) = next_law script i s.done after txn next (subst (AreSoFar script i s.done) (sym c.0) s.so_far) at c.1
    comes_on fits txn next after at (inr (fault, ends, inl comes)) =
        lane_ends_law script (i + 1) (s.done ++ next ∷ []) b.ended after txn.lane fault (λ j t is. (all_at FitsTxn script fits.txns j t is).lane.0) ends (next_law script i s.done b.ended txn next s.so_far at comes)
    comes_on fits txn next after at (inr (fault, ends, inr comes)) =
        next_law script i s.done after txn next (lane_ends_law script i s.done b.ended after txn.lane fault (λ j t is. (all_at FitsTxn script fits.txns j t is).lane.0) ends s.so_far) at comes

    -- there is a place for the next commit
    pub few_places : FitsScript script → (txn : ScriptTxn) → slice_get script i ≡ Some txn → b.room.room.places < greatest
    few_places fits txn at = let p = s.goes_on.places in let n = few_commits s.done in let c = s.so_far.count in let w = slice_get_within script i txn at in let f = fits.few in omega (arith, p, n, c, w, f)

    pub turns : FitsScript script → IsReady entry → (txn : ScriptTxn) (next : Outcome) (new : Body) → slice_get script i ≡ Some txn
        → BehindTxns options.group (i + 1) b (λ entry done. RunsTxn options.group entry done txn next b new) → RunsSoFar script options (i + 1) entry new (slice_set outcomes i next)
    turns fits ready txn next new at runs = stepping.steps StandAll script options entry i txn next (serial b outcomes) (serial new (slice_set outcomes i next)) s at (record {
      outcomes = refl;
      so_far = comes_on fits txn next new.ended at r.comes;
      goes_on = r.between.going.goes.room;
      few = r.between.going.few;
      in_need = r.in_need;
      full_need = r.full_need;
      flag = r.flag;
      no_region = r.between.going.goes.no_region;
      told = r.between.going.told;
      becomes = r.becomes;
      most = sealed_most new.room r.between.going.goes.room.whole;
      refused = r.refused;
      stuck = λ full. inr (r.between.going.goes.stuck full);
      view = r.between.going.goes.view;
      buckets = r.between.stand;
    })
      where
        r : RunsTxn options.group entry s.done txn next b new
        r = runs entry s.done ready between (ap (λ n. n + 1) (sym s.so_far.count))

  -- ---- the end

  module _ (b : Body) (outcomes : List Outcome) (s : RunsSoFar script options (length script) entry b outcomes) (ready : IsReady entry) (new : Body) (last : Option RunFault)
      (closed : IsClosed entry b new (commits_of s.done) last) where
    there : (faults : List (Option RunFault)) → Contains (faults ++ Some run_fault.Memory ∷ []) (Some run_fault.Memory)
    there [] = (0, omega arith, refl)
    there (x ∷ faults) = let h = there faults in (suc h.0, (let w = h.1 in omega (arith, w)), h.2)

    not_memory : (o : Option RunFault) → (Contains (with_last b.ended o) (Some run_fault.Memory) → ⊥) → o ≡ Some run_fault.Memory → ⊥
    not_memory o none is = none (subst (λ x. Contains (with_last b.ended x) (Some run_fault.Memory)) (sym is) (there b.ended))

    is_end : IsEnd entry b.room new.room s.done b.ended (with_last b.ended last)
    is_end = record {
      goes_on = closed.goes_on;
      tells = closed.tells;
      becomes = closed.becomes;
      most = sealed_most new.room closed.goes_on.whole;
      board = closed.board;
      sealed = λ open_room none. closed.sealed open_room (not_memory last none);
    }

    ended : Finished script options entry new.room s.done b.ended (with_last b.ended last)
    ended = stepping.ends StandAll script options entry (serial b outcomes) new.room (with_last b.ended last) s is_end

    all_done : outcomes ≡ s.done
    all_done = s.outcomes_are ∙ ap (λ n. s.done ++ replicate n outcome.NotRun) none ∙ append-nil s.done
      where
        none : length script - length script ≡ 0
        none = omega arith

    abbrev told : Ran
    told = record { outcomes = s.done; durable = new.room.room.sealed; fault = first_fault (with_last b.ended last); unsealed = is_memory last }

    run : RunsScript script options entry new.room told
    run = finished_law script options entry new.room s.done b.ended (with_last b.ended last) (is_memory last) ready ended

    -- the run's history is that of these outcomes, and no other is
    all_told : all_outcomes script s.done ≡ s.done
    all_told = ap (λ n. s.done ++ replicate n outcome.NotRun) none ∙ append-nil s.done
      where
        none : length script - length s.done ≡ 0
        none = let c = s.so_far.count in omega (arith, c)

    of_done : IsHistoryOf s.done (commits_of s.done)
    of_done = (in_turn_law (take (length script) script) entry.room.sealed s.done s.so_far.each s.so_far.numbered s.so_far.last_ones closed.goes_on.epochs).history_of

    of_run : IsHistoryOf s.done run.history
    of_run = subst (λ os. IsHistoryOf os run.history) all_told run.outcomes.history_of

    runs_lanes : RunsLanes script options entry new.room told
    runs_lanes = record {
      run = run;
      seals_last = subst (SealsLast entry new.room told) (one_history s.done (commits_of s.done) run.history of_done of_run)
          (seals_last entry new.room (commits_of s.done) ready closed.goes_on b.ended last closed.sealed closed.some_wait s.done);
    }

    pub finishes : (ran : Ran) → ran ≡ record { outcomes = outcomes; durable = new.room.room.sealed; fault = first_fault (with_last b.ended last); unsealed = is_memory last } → RunsLanes script options entry new.room ran
    finishes ran is =
        subst (RunsLanes script options entry new.room) (sym (is ∙ ap (λ os. record { outcomes = os; durable = new.room.room.sealed; fault = first_fault (with_last b.ended last); unsealed = is_memory last }) all_done)) runs_lanes

  -- ---- no memory to begin

  pub not_begun : (ran : Ran) → IsReady entry → ran ≡ nothing_ran entry.room.sealed (Some run_fault.Memory) → RunsLanes script options entry entry ran
  not_begun ran ready is = subst (RunsLanes script options entry entry) (sym is) (nothing_law script options entry ready).0
