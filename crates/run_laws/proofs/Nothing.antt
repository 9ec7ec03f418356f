-- That a run of nothing leaves a room as it is.
use Rattle.std.proofs.Common.{◌≡◌, ◌⊎◌, inl, inr, ℕ, zero, suc, ◌+◌, ◌-◌, true, false, List, [], ◌∷◌, length, refl, sym, ap, subst, Option, Some, None, le_refl, arith}
use Rattle.std.specs.Prelude.{replicate, slice_get}
use Rattle.std.specs.List.{AllZip}
use Rattle.fine_model.specs.declared.Outcome.{Outcome}
use Rattle.fine_model.specs.declared.Outcome.TheVariants as outcome
use Rattle.fine_model.specs.declared.Options.{Options}
use Rattle.fine_model.specs.declared.RunFault.{RunFault}
use Rattle.fine_model.specs.declared.RunFault.TheVariants as run_fault
use Rattle.fine_model.specs.declared.ScriptTxn.{ScriptTxn}
use Rattle.fine_model.specs.declared.Why.{Why}
use Rattle.fine_model.specs.declared.Why.TheVariants as why
use Rattle.fine_model.specs.History.{Commit}
use Rattle.fine_model.specs.Outcomes.{AllRun, AreOutcomes, IsCommittedAt, IsOutcomeOf}
use Rattle.fine_model.specs.Report.{all_outcomes}
use Rattle.epoch_room.specs.Value.{RoomValue}
use Rattle.run_laws.specs.Law.{NothingLaw, nothing_ran}
use Rattle.run_laws.specs.Runs.{HasHistory, IsNotBegun, IsReady, RunsLanes, RunsScript}
use Rattle.run_laws.proofs.NoEyes.{no_eyes}

-- a room that is ready has none of a history
pub has_none : (room : RoomValue) → IsReady room → HasHistory room room []
has_none room ready = record { epochs = tt; sealed = refl; places = ready.no_place; waiting = ready.none_waits; stands = λ first e began stands. stands; whole = ready.whole }

-- ---- outcomes of which none was run

abbrev pub none_run : ℕ → List Outcome
none_run n = replicate n outcome.NotRun

pub none_told : (script : List ScriptTxn) → none_run (length script) ≡ all_outcomes script []
none_told script = let same : length script ≡ length script - 0 = omega arith in ap none_run same

each_not_run : (script : List ScriptTxn) → AllZip IsOutcomeOf script (none_run (length script))
each_not_run [] = tt
each_not_run (txn ∷ script) = (tt, each_not_run script)

-- there is nothing else among them
what_stands : (n i : ℕ) (o : Outcome) → slice_get (none_run n) i ≡ Some o → o ≡ outcome.NotRun
what_stands zero i o is = absurd (let e : ◌≡◌ {A = Option Outcome} None (Some o) = is in cc)
what_stands (suc n) zero o is = let e : ◌≡◌ {A = Option Outcome} (Some outcome.NotRun) (Some o) = is in cc
what_stands (suc n) (suc i) o is = what_stands n i o is

not_committed : (n i place : ℕ) (c : Commit) → IsCommittedAt (none_run n) i place c → ⊥
not_committed n i place c is = let e : outcome.Committed place c.epoch c.entry ≡ outcome.NotRun = what_stands n i (outcome.Committed place c.epoch c.entry) is in cc

pub not_refused : (n i : ℕ) (why : Why) → slice_get (none_run n) i ≡ Some (outcome.Refused why) → ⊥
not_refused n i why is = let e : outcome.Refused why ≡ outcome.NotRun = what_stands n i (outcome.Refused why) is in cc

-- each transaction of the script has one
stands_at : (script : List ScriptTxn) (i : ℕ) (txn : ScriptTxn) → slice_get script i ≡ Some txn → slice_get (none_run (length script)) i ≡ Some outcome.NotRun
stands_at [] i txn is = absurd (let e : ◌≡◌ {A = Option ScriptTxn} None (Some txn) = is in cc)
stands_at (t ∷ script) zero txn is = refl
stands_at (t ∷ script) (suc i) txn is = stands_at script i txn is

pub are_none : (script : List ScriptTxn) (e : ℕ) → AreOutcomes script e (none_run (length script)) []
are_none script e = record {
  one_each = each_not_run script;
  history_of = record {
    each = λ i place c is. absurd (not_committed (length script) i (place + 1) c is);
    no_place_zero = λ i c is. not_committed (length script) i 0 c is;
    only = λ place c is. absurd (let e : ◌≡◌ {A = Option Commit} None (Some c) = is in cc);
  };
  epochs = tt;
  lanes = λ i j p q a b order is_a is_b. absurd (not_committed (length script) i p a is_a);
  last_ones = λ i j order is. let (before, a, b, is_a, is_b, same) = order in stands_at script j b is_b;
}

-- ---- both runs

module _ (script : List ScriptTxn) (options : Options) (room : RoomValue) (ready : IsReady room) (fault : Option RunFault)
    (told : (0 ≡ length script) ⊎ IsNotBegun (nothing_ran room.room.sealed fault)) (all_run : fault ≡ None → AllRun (all_outcomes script []))
    (only : (f : RunFault) → fault ≡ Some f → f ≡ run_fault.Memory) where
  ran : RunsScript script options room room (nothing_ran room.room.sealed fault)
  ran = record {
    history = [];
    adds = record {
      has = has_none room ready;
      beside = record { regions = refl; region_len = refl; no_eyes = no_eyes room ready.whole ready.board; board = ready.board; no_job = ready.no_job; origin = refl };
    };
    outcomes = subst (λ os. AreOutcomes script room.room.sealed os []) (none_told script) (are_none script room.room.sealed);
    each_told = told;
    replied = tt;
    all_run = all_run;
    few_each = λ lane e. omega arith;
    in_need = λ one first n began stands e next above is. absurd (let x : ◌≡◌ {A = Option Commit} None (Some next) = is in cc);
    last_need = λ one first e began stands i txn is at. absurd (not_refused (length script) i why.Full (subst (λ os. slice_get os i ≡ Some (outcome.Refused why.Full)) (sym (none_told script)) is.0));
    durable = refl;
    all_durable = λ to. refl;
    causes = λ after is first e began stands. record { each = λ i txn word is_txn is_refused. absurd (not_refused (length script) i word (subst (λ os. slice_get os i ≡ Some (outcome.Refused word)) (sym (none_told script)) is_refused)) };
    fault = record {
      only_risen = λ is. absurd (let e : run_fault.Disk ≡ run_fault.Memory = only run_fault.Disk is in cc);
      where_risen = λ risen. absurd (omega (arith, risen));
      no_lower = (le_refl room.disk.faults, le_refl room.disk.own_faults);
      unsound = λ what is first e began stands. let e : run_fault.Damaged what ≡ run_fault.Memory = only (run_fault.Damaged what) is in cc;
      placed = λ what is. absurd (let e : run_fault.Damaged what ≡ run_fault.Memory = only (run_fault.Damaged what) is in cc);
      one_each = λ is not first e began stands. absurd (let e : run_fault.Disk ≡ run_fault.Memory = only run_fault.Disk is in cc);
    };
  }

  nothing : RunsLanes script options room room (nothing_ran room.room.sealed fault)
  unfolding ran
  nothing = record {
    run = ran;
    seals_last = record {
      all_durable = λ to own. refl;
      some_wait = λ is. absurd (let e : false ≡ true = is in cc);
      memory_told = λ is. absurd (let e : false ≡ true = is in cc);
    };
  }

pub nothing_law : NothingLaw
nothing_law script options room ready = (
  nothing script options room ready (Some run_fault.Memory) (inr (refl, refl)) (λ is. absurd (let e : ◌≡◌ {A = Option RunFault} (Some run_fault.Memory) None = is in cc))
      (λ f is. let e : ◌≡◌ {A = Option RunFault} (Some run_fault.Memory) (Some f) = is in cc),
  nothing [] options room ready None (inl refl) (λ is. tt) (λ f is. absurd (let e : ◌≡◌ {A = Option RunFault} None (Some f) = is in cc)),
)
