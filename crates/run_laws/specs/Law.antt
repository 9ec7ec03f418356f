-- What a run of lanes is in the words of the theorems.
use Rattle.std.specs.Prelude.{◌≡◌, ◌⊎◌, ℕ, ◌-◌, ◌≤◌, false, List, [], Option, Some, Ok, None}
use Rattle.log_disk.specs.Disk.{Disk, Told, IsImageNow, IsImageSince, clock_of}
use Rattle.fine_model.specs.declared.Damage.{Damage}
use Rattle.fine_model.specs.declared.Options.{Options}
use Rattle.fine_model.specs.declared.Part.{Part}
use Rattle.fine_model.specs.declared.Ran.{Ran}
use Rattle.fine_model.specs.declared.Row.{Row}
use Rattle.fine_model.specs.declared.RunFault.{RunFault}
use Rattle.fine_model.specs.declared.RunFault.TheVariants as run_fault
use Rattle.fine_model.specs.declared.ScriptTxn.{ScriptTxn}
use Rattle.fine_model.specs.Chain.{Shows, chain, chain_end}
use Rattle.fine_model.specs.Damages.{IsDurableFor, IsPlaceOrNode, IsUnsound}
use Rattle.fine_model.specs.Faults.{HasRisen, last_count}
use Rattle.fine_model.specs.Headline.{Start, Return, IsDoneRun, IsRunWith, HasStatus, causes_of}
use Rattle.fine_model.specs.History.{Commit}
use Rattle.fine_model.specs.Outcomes.{AllRun, AreOutcomes}
use Rattle.fine_model.specs.Report.{all_outcomes}
use Rattle.fine_model.specs.Trees.{IsSound}
use Rattle.epoch_room.specs.Meaning.{StandsAtFirst}
use Rattle.epoch_room.specs.Value.{RoomValue, made}
use Rattle.epoch_room.specs.Whole.{IsWhole}
use Rattle.run_laws.specs.Runs.{IsReady, RunsLanes, RunsScript}

-- what is known at entry
abbrev pub start_of : List ScriptTxn → Disk → ℕ → List Row → Start
start_of script old e first = record { script = Ok script; region_len = old.region_len; e = e; rows = first }

-- what is known on return; of the source and of the output the counts of faults before and after
abbrev pub return_of : Disk → Disk → ℕ × ℕ → ℕ × ℕ → Told → Told → Return
return_of old new source output before after = record {
  image = after.bytes;
  rise = new.faults - old.faults;
  at_last = last_count ≤ new.faults;
  own_rose = HasRisen old.own_faults new.own_faults;
  source_rose = HasRisen source.0 source.1;
  output_rose = HasRisen output.0 output.1;
  still = clock_of after ≡ clock_of before;
}

-- a room that was just made, and stands for what its disk shows, is one on which a run may begin
abbrev pub ReadyLaw : Type 0
ReadyLaw = (disk : Disk) (live retired : List Part) → IsWhole (made disk live retired) → StandsAtFirst (made disk live retired) disk.told → IsReady (made disk live retired)

-- On each sound log that the disk told at entry, a run of lanes is a run with all that holds of it: one legal history, images that keep it, causes,
-- few entries an epoch, and a fault only where it has its cause.
abbrev pub RunLaw : Type 0
RunLaw =
    (script : List ScriptTxn) (options : Options) (old new : RoomValue) (ran : Ran) (r : RunsScript script options old new ran) (source output : ℕ × ℕ)
    (before after : Told) (first : List Row) (e : ℕ) → IsReady old → old.disk.told ≡ Some before → new.disk.told ≡ Some after → Shows old.disk.region_len before.bytes e first → IsSound first
    → IsRunWith (causes_of (start_of script old.disk e first) (return_of old.disk new.disk source output before after)) (start_of script old.disk e first) options.group
    (IsImageSince (clock_of before) after) (IsImageNow after) (return_of old.disk new.disk source output before after) script ran r.history

-- and with status 0, 6 or 8 it is one that was done
abbrev pub DoneLaw : Type 0
DoneLaw =
    (script : List ScriptTxn) (options : Options) (old new : RoomValue) (ran : Ran) (r : RunsScript script options old new ran) (source output : ℕ × ℕ)
    (before after : Told) (first : List Row) (e status : ℕ) → IsReady old → old.disk.told ≡ Some before → new.disk.told ≡ Some after → Shows old.disk.region_len before.bytes e first → IsSound first
    → HasStatus status (all_outcomes script ran.outcomes) ran.fault → (status ≡ 0) ⊎ (status ≡ 6) ⊎ (status ≡ 8)
    → IsDoneRun (start_of script old.disk e first) (return_of old.disk new.disk source output before after) status script (all_outcomes script ran.outcomes) ran.durable r.history

-- what holds of a run behind the parts of a chain, sound or not: what a report has beside its text, and that it names damage on a log alone that is not sound
pub record RunsBehind (script : List ScriptTxn) (region_len : ℕ) (before : Told) (parts : List Part) (ran : Ran) (history : List Commit) : Type 0 where
  pub outcomes : AreOutcomes script (chain_end parts) (all_outcomes script ran.outcomes) history
  pub durable : IsDurableFor parts history ran.fault ran.durable
  pub all_run : ran.fault ≡ None → AllRun (all_outcomes script ran.outcomes)
  pub unsound : (what : Damage) → ran.fault ≡ Some (run_fault.Damaged what) → IsUnsound region_len before.bytes
  pub placed : (what : Damage) → ran.fault ≡ Some (run_fault.Damaged what) → IsPlaceOrNode what

-- on each log that the disk told at entry
abbrev pub BehindLaw : Type 0
BehindLaw =
    (script : List ScriptTxn) (options : Options) (old new : RoomValue) (ran : Ran) (r : RunsScript script options old new ran)
    (before : Told) (parts : List Part) → IsReady old → old.disk.told ≡ Some before → chain old.disk.region_len before.bytes ≡ Ok parts
    → RunsBehind script old.disk.region_len before parts ran r.history

-- ---- on every disk, whatever it tells

-- What a status tells of the disk's count of faults: 6 comes only where it rose, and where it is greater than it was 6 comes, or 1 before it.
pub record TellsDisk (old new : Disk) (status : ℕ) : Type 0 where
  pub disk : status ≡ 6 → (1 ≤ new.faults - old.faults) ⊎ (last_count ≤ new.faults)
  pub told : 1 ≤ new.faults - old.faults → (status ≡ 1) ⊎ (status ≡ 6)

abbrev pub StatusLaw : Type 0
StatusLaw =
    (script : List ScriptTxn) (options : Options) (old new : RoomValue) (ran : Ran) (r : RunsScript script options old new ran) (status : ℕ)
    → HasStatus status (all_outcomes script ran.outcomes) ran.fault → TellsDisk old.disk new.disk status

-- ---- what leaves a room as it is

-- nothing is run, since there is nothing, or since memory ran out before the first transaction
abbrev pub nothing_ran : ℕ → Option RunFault → Ran
nothing_ran sealed fault = record { outcomes = []; durable = sealed; fault = fault; unsealed = false }

abbrev pub NothingLaw : Type 0
NothingLaw =
    (script : List ScriptTxn) (options : Options) (room : RoomValue) → IsReady room
    → RunsLanes script options room room (nothing_ran room.room.sealed (Some run_fault.Memory)) × RunsLanes [] options room room (nothing_ran room.room.sealed None)
