-- Where no hall could be made, nothing was run.
use Rattle.std.proofs.Common.{◌≡◌, inl, inr, ℕ, zero, suc, ◌-◌, ◌≤◌, true, false, true≢false, List, [], ◌++◌, length, Option, Some, None, refl, sym, ap, ◌∙◌, subst, arith, append-nil}
use Rattle.std.specs.Prelude.{replicate, slice_get}
use Rattle.fine_model.specs.declared.Damage.{Damage}
use Rattle.fine_model.specs.declared.Options.{Options}
use Rattle.fine_model.specs.declared.Outcome.TheVariants as outcome
use Rattle.fine_model.specs.declared.RunFault.{RunFault}
use Rattle.fine_model.specs.declared.RunFault.TheVariants as run_fault
use Rattle.fine_model.specs.declared.ScriptTxn.{ScriptTxn}
use Rattle.fine_model.specs.declared.Why.TheVariants as why
use Rattle.fine_model.specs.declared.law.RoomState.{RoomState}
use Rattle.fine_model.specs.Faults.{HasRisen}
use Rattle.fine_model.specs.History.{Commit}
use Rattle.fine_model.specs.Outcomes.{AreOutcomes}
use Rattle.fine_model.specs.Report.{all_outcomes}
use Rattle.epoch_room.specs.Meaning.{origin_of}
use Rattle.epoch_room.specs.Value.{RoomValue}
use Rattle.epoch_room.specs.Whole.{IsWhole}
use Rattle.epoch_room.specs.declared.answers.RoomFault.{RoomFault}
use Rattle.epoch_room.specs.declared.answers.RoomFault.TheVariants as room_fault
use Rattle.hall_rooms.specs.Opening.{HandsBack, WhyNoHall}
use Rattle.run_laws.specs.Runs.{IsReady, OwnRose, RunsLanes, RunsScript, TellsFault}
use Rattle.run_laws.proofs.NoEyes.{no_eyes}
use Rattle.run_laws.proofs.Nothing.{are_none, none_run, not_refused}
use Rattle.lane_laws.specs.NoHall.{NoHallLaw, not_run, of_room}

-- ---- outcomes of which none was run

long : (n : ℕ) → length (none_run n) ≡ n
long zero = refl
long (suc n) = ap suc (long n)

-- with as many outcomes as transactions, none is added
told_all : (script : List ScriptTxn) → all_outcomes script (none_run (length script)) ≡ none_run (length script)
told_all script = let none : length script - length (none_run (length script)) ≡ 0 = (let n = long (length script) in omega (arith, n)) in ap (λ n. none_run (length script) ++ replicate n outcome.NotRun) none ∙ append-nil (none_run (length script))

-- ---- faults

disk_whole : (what : Damage) → ◌≡◌ {A = Option RunFault} (Some run_fault.Disk) (Some (run_fault.Damaged what)) → ⊥
disk_whole what is = let e : run_fault.Disk ≡ run_fault.Damaged what = cc in cc

memory_whole : (what : Damage) → ◌≡◌ {A = Option RunFault} (Some run_fault.Memory) (Some (run_fault.Damaged what)) → ⊥
memory_whole what is = let e : run_fault.Memory ≡ run_fault.Damaged what = cc in cc

memory_disk : ◌≡◌ {A = Option RunFault} (Some run_fault.Memory) (Some run_fault.Disk) → ⊥
memory_disk is = let e : run_fault.Memory ≡ run_fault.Disk = cc in cc

-- ---- the room that came back

module _ (old back : RoomValue) (ready : IsReady old) (whole : IsWhole back) (fault : RoomFault) (hands : HandsBack old back fault) where
  sealed : back.room.sealed ≡ old.room.sealed
  sealed = ap (λ (r : RoomState). r.sealed) hands.room

  faults_of : (v : RoomValue) → IsWhole v → v.room.faults ≡ v.disk.faults
  faults_of v w = ap (λ (r : RoomState). r.faults) w.of_disk

  own_of : (v : RoomValue) → IsWhole v → v.room.own_faults ≡ v.disk.own_faults
  own_of v w = ap (λ (r : RoomState). r.own_faults) w.of_disk

  risen : HasRisen old.room.faults back.room.faults → HasRisen old.disk.faults back.disk.faults
  risen up = subst (λ n. HasRisen n back.disk.faults) (faults_of old ready.whole) (subst (HasRisen old.room.faults) (faults_of back whole) up)

  own_risen : HasRisen old.room.own_faults back.room.own_faults → OwnRose old back
  own_risen up = subst (λ n. HasRisen n back.disk.own_faults) (own_of old ready.whole) (subst (HasRisen old.room.own_faults) (own_of back whole) up)

  no_lower : (old.disk.faults ≤ back.disk.faults) × (old.disk.own_faults ≤ back.disk.own_faults)
  no_lower =
      let a = faults_of old ready.whole in
      let b = faults_of back whole in
      let c = own_of old ready.whole in
      let d = own_of back whole in
      let f = hands.keeps.becomes.faults in
      let g = hands.keeps.becomes.own_faults in (omega (arith, a, b, f), omega (arith, c, d, g))

  module _ (script : List ScriptTxn) where
    -- why the hall was not made is why the run was not
    tells : (f : RoomFault) → WhyNoHall old.room back.room f → TellsFault script (none_run (length script)) old back (Some (of_room f))
    tells room_fault.Disk w = record {
      only_risen = λ is. risen w.2;
      where_risen = λ more. inl refl;
      no_lower = no_lower;
      unsound = λ what is. absurd (disk_whole what is);
      placed = λ what is. absurd (disk_whole what is);
      one_each = λ is not. absurd (not (own_risen w.3));
    }
    tells (room_fault.Shut epoch) w = absurd (true≢false (sym w.0 ∙ ready.not_shut))
    tells room_fault.NoMemory w = record {
      only_risen = λ is. absurd (memory_disk is);
      where_risen = λ more. inr refl;
      no_lower = no_lower;
      unsound = λ what is. absurd (memory_whole what is);
      placed = λ what is. absurd (memory_whole what is);
      one_each = λ is. absurd (memory_disk is);
    }

    module _ (options : Options) where
      ran : RunsScript script options old back (not_run script back.room.sealed fault)
      ran = record {
        history = [];
        adds = record {
          has = record {
            epochs = tt;
            sealed = sealed;
            places = ap (λ (r : RoomState). r.places) hands.room ∙ ready.no_place;
            waiting = ap (λ (r : RoomState). r.waiting) hands.room ∙ ready.none_waits;
            stands = λ first e began stands. hands.keeps.stands first e [] stands;
            whole = whole;
          };
          beside = record {
            regions = sym (ap (λ (r : RoomState). r.regions) whole.of_disk) ∙ (hands.keeps.becomes.regions ∙ ap (λ (r : RoomState). r.regions) ready.whole.of_disk);
            region_len = sym (ap (λ (r : RoomState). r.region_len) whole.of_disk) ∙ (hands.keeps.becomes.region_len ∙ ap (λ (r : RoomState). r.region_len) ready.whole.of_disk);
            no_eyes = no_eyes back whole hands.board;
            board = hands.board;
            no_job = ap (λ (r : RoomState). r.job) hands.room ∙ ready.no_job;
            origin = ap origin_of hands.entry;
          };
        };
        outcomes = subst (λ os. AreOutcomes script old.room.sealed os []) (sym (told_all script)) (are_none script old.room.sealed);
        each_told = inl (long (length script));
        replied = tt;
        all_run = λ is. absurd (let e : ◌≡◌ {A = Option RunFault} (Some (of_room fault)) None = is in cc);
        few_each = λ lane e. omega arith;
        in_need = λ one first n began stands e next above is. absurd (let x : ◌≡◌ {A = Option Commit} None (Some next) = is in cc);
        last_need = λ one first e began stands i txn is at. absurd (not_refused (length script) i why.Full (subst (λ os. slice_get os i ≡ Some (outcome.Refused why.Full)) (told_all script) is.0));
        durable = refl;
        all_durable = λ to. sealed;
        causes = λ after is first e began stands. record { each = λ i txn word is_txn is_refused. absurd (not_refused (length script) i word (subst (λ os. slice_get os i ≡ Some (outcome.Refused word)) (told_all script) is_refused)) };
        fault = subst (λ os. TellsFault script os old back (Some (of_room fault))) (sym (told_all script)) (tells fault hands.cause);
      }

      pub runs : RunsLanes script options old back (not_run script back.room.sealed fault)
      unfolding ran
      runs = record {
        run = ran;
        seals_last = record {
          all_durable = λ to own. sealed;
          some_wait = λ is. absurd (let e : false ≡ true = is in cc);
          memory_told = λ is. absurd (let e : false ≡ true = is in cc);
        };
      }

pub no_hall_law : NoHallLaw
no_hall_law script options old back fault ready whole hands = runs old back ready whole fault hands script options
