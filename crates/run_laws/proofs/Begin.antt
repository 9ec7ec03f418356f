-- That the body on one thread begins.
use Rattle.std.proofs.Common.{◌≡◌, inl, inr, ℕ, zero, suc, ◌+◌, ◌-◌, ◌≤◌, false, true, List, [], length, refl, sym, ap, ◌∙◌, Option, Some, None, arith}
use Rattle.std.specs.Prelude.{Contains, min, replicate, slice_get}
use Rattle.fine_model.specs.declared.Options.{Options}
use Rattle.fine_model.specs.declared.Outcome.{Outcome}
use Rattle.fine_model.specs.declared.Outcome.TheVariants as outcome
use Rattle.fine_model.specs.declared.RunFault.{RunFault}
use Rattle.fine_model.specs.declared.RunFault.TheVariants as run_fault
use Rattle.fine_model.specs.declared.ScriptTxn.{ScriptTxn}
use Rattle.fine_model.specs.declared.Why.TheVariants as why
use Rattle.fine_model.specs.declared.law.Origin.{Origin}
use Rattle.fine_model.specs.Faults.{last_count}
use Rattle.fine_model.specs.History.{Commit}
use Rattle.fine_model.proofs.Histories.Goings.{becomes_itself}
use Rattle.epoch_room.specs.Meaning.{origin_of}
use Rattle.epoch_room.specs.Value.{RoomValue}
use Rattle.run_laws.specs.Lanes.{none_ended}
use Rattle.run_laws.specs.Runs.{IsReady}
use Rattle.run_laws.specs.SoFar.{SoFar}
use Rattle.run_laws.proofs.Nothing.{has_none}

abbrev nones : ℕ → List (Option RunFault)
nones n = replicate n None

only_none : (n : ℕ) (x : RunFault) → Contains (nones n) (Some x) → ⊥
only_none zero x (k, within, is) = omega (arith, within)
only_none (suc n) x (zero, within, is) = let e : ◌≡◌ {A = Option RunFault} None (Some x) = is in cc
only_none (suc n) x (suc k, within, is) = only_none n x (k, omega (arith, within), is)

nothing_at : {P : Type 0} (i : ℕ) (o : Outcome) → slice_get [] i ≡ Some o → P
nothing_at i o is = absurd (let e : ◌≡◌ {A = Option Outcome} None (Some o) = is in cc)

at_least : (a : ℕ) → 0 + a ≤ a + 0
at_least a = omega arith

none_out : (a m : ℕ) → min a m ≤ a + 0
none_out a m = grind arith

module _ {B : Type 0} (stands_for : Origin → ℕ → B → List Commit → Type 0) (script : List ScriptTxn) (options : Options) (entry : RoomValue) (buckets : B) (ready : IsReady entry) (group : 1 ≤ options.group)
    (stand : stands_for (origin_of entry.entry) entry.room.sealed buckets []) where
  pub begins : SoFar stands_for script options 0 entry (record { room = entry; view = None; buckets = buckets; full = false; ended = none_ended; outcomes = replicate (length script) outcome.NotRun })
  begins = record {
    done = [];
    outcomes_are = let same : length script ≡ length script - 0 = omega arith in ap (λ n. replicate n outcome.NotRun) same;
    so_far = record {
      order = record { count = refl; each = tt; numbered = tt; last_ones = λ i j order is. nothing_at i outcome.NotRun is; replied = tt };
      ends = λ i txn is_txn is. nothing_at i outcome.NotRun is;
    };
    goes_on = record {
      regions = refl;
      region_len = refl;
      same_entry = refl;
      no_job = ready.no_job;
      has = has_none entry ready;
      becomes = becomes_itself entry.room;
    };
    few = record { most = λ lane e. omega arith; open_epoch = λ lane is none. omega (arith, group) };
    in_need = λ lane all. record {
      so_far = record {
        each = λ e next above is. absurd (let x : ◌≡◌ {A = Option Commit} None (Some next) = is in cc);
        used = (ready.whole.epoch.none ready.none_waits).2;
        no_region = λ is. absurd (let e : false ≡ true = is in cc);
      };
      ends = λ none waits above. absurd (omega (arith, above));
    };
    last_need = λ lane all first e began stands i txn is at. absurd (nothing_at i (outcome.Refused why.Full) is.0);
    full_ends = record {
      known = λ i is. nothing_at i (outcome.Refused why.Full) is;
      some = λ is. absurd (let e : false ≡ true = is in cc);
      none_behind = λ i j place c before is is_c. nothing_at i (outcome.Refused why.Full) is;
    };
    no_region = λ is. absurd (let e : false ≡ true = is in cc);
    told = record {
      lanes = refl;
      low = none_out entry.disk.faults last_count;
      all = λ fault there. there;
      failed = inr (inl (at_least entry.disk.faults));
      only_risen = λ there. absurd (only_none 16 run_fault.Disk there);
      where_risen = λ risen. absurd (omega (arith, risen));
      shut = λ is. absurd (let e : false ≡ true = sym ready.not_shut ∙ is in cc);
      unsound = λ what there. absurd (only_none 16 (run_fault.Damaged what) there);
      placed = λ what there. absurd (only_none 16 (run_fault.Damaged what) there);
    };
    refused = λ first e began stands. record { each = λ i txn word is_txn is. nothing_at i (outcome.Refused word) is };
    stuck = λ is. absurd (let e : false ≡ true = is in cc);
    view = ready.board;
    buckets = stand;
  }
