-- How a call of the command `gen` ends, and what it prints then.
use Rattle.std.specs.Prelude.{◌≡◌, ◌⊎◌, ℕ, ◌<◌, ◌==◌, Bool, false, true, List, [], ◌∷◌, ◌++◌, Option, Some, None, Result, Ok, Err}
use Rattle.log_disk.specs.Disk.{Disk, Told, HasRisen, IsImageNow, IsImageSince, clock_of}
use Rattle.log_disk.specs.Moments.{ContinuesOn}
use Rattle.fine_model.specs.declared.Damage.{Damage}
use Rattle.fine_model.specs.declared.Options.{Options}
use Rattle.fine_model.specs.declared.Outcome.{Outcome}
use Rattle.fine_model.specs.declared.Ran.{Ran}
use Rattle.fine_model.specs.declared.Row.{Row}
use Rattle.fine_model.specs.declared.RunFault.{RunFault}
use Rattle.fine_model.specs.declared.RunFault.TheVariants as run_fault
use Rattle.fine_model.specs.declared.ScriptTxn.{ScriptTxn}
use Rattle.fine_model.specs.Bounds.{FitsScript}
use Rattle.fine_model.specs.Chain.{Shows}
use Rattle.fine_model.specs.Commands.{GenDamagedTheorem, GenTheorem, are_durable, fault_summary, summary}
use Rattle.fine_model.specs.Damages.{IsPlaceOrNode}
use Rattle.fine_model.specs.Generator.{generated}
use Rattle.fine_model.specs.History.{Commit, map_at}
use Rattle.fine_model.specs.Headline.{OneOf}
use Rattle.fine_model.specs.Map.{Pair}
use Rattle.fine_model.specs.Report.{all_outcomes, fault_line}
use Rattle.fine_model.specs.Trees.{IsSound}
use Rattle.fine_model.specs.Words.{none_given, with_defaults}
use Rattle.epoch_room.specs.Value.{RoomValue}
use Rattle.epoch_room.specs.Whole.{IsWhole}
use Rattle.log_commands.specs.Ends.{fault_status}
use Rattle.log_commands.specs.Found.{FindsChain}
use Rattle.log_commands.specs.Maps.{AnswersRows, ReadsMap, tells_room}
use Rattle.reopen.specs.declared.chain.Chain.{Chain}
use Rattle.reopen.specs.Opening.{SeesChain}
use Rattle.run_laws.specs.Law.{return_of, start_of}
use Rattle.script_text.specs.Streams.{Puts}
use Rattle.fine_top.specs.declared.opening.Opened.{Opened}
use Rattle.fine_top.specs.Opened.{IsOpenedLog, IsUnsoundLog}
use Rattle.fine_top.specs.Running.{IsRunBehind, IsRunOn, LeavesBeside, RunsFrom, run_status}

-- the options of `run` where none is given
abbrev pub default_options : Options
default_options = with_defaults none_given

-- what is generated
pub record Numbers : Type 0 where
  pub start : ℕ
  pub count : ℕ
  pub lanes : ℕ

abbrev pub numbers : ℕ → ℕ → ℕ → Numbers
numbers start count lanes = record { start = start; count = count; lanes = lanes }

abbrev pub script_by : Numbers → List ScriptTxn
script_by n = generated n.start n.count n.lanes

-- A call ends before anything is run, for a fault; or with a run of the generated script, whether all of its history is durable, and the map that was read at the end, or
-- the fault that ended the run or the reading.
pub data Ended : Type 0 where
  early : RunFault → Ended
  counted : Ran → Bool → Result (List Pair) RunFault → Ended

-- the text of outcomes, and of the map or the fault behind them
abbrev pub counted_text : Numbers → List Outcome → Bool → Result (List Pair) RunFault → List ℕ
counted_text n outcomes all_durable (Ok pairs) = summary n.start n.count n.lanes outcomes (Some pairs) all_durable
counted_text n outcomes all_durable (Err fault) = fault_summary n.start n.count n.lanes outcomes all_durable fault

abbrev pub counted_status : List Outcome → Result (List Pair) RunFault → ℕ
counted_status outcomes (Ok pairs) = run_status outcomes None
counted_status outcomes (Err fault) = fault_status fault

-- what is printed
unfoldable pub text_of : Numbers → Ended → List ℕ
text_of n (early fault) = fault_line fault
text_of n (counted ran all_durable found) = counted_text n (all_outcomes (script_by n) ran.outcomes) all_durable found

-- the status of a call whose text was written
abbrev pub status_of : Ended → ℕ
status_of (early fault) = fault_status fault
status_of (counted ran all_durable found) = counted_status ran.outcomes found

-- ---- what a run and its reading were

-- On a log that shows epoch e and these rows: it is a run on this log, and the map that was read is that of the log with its history.
pub record IsCountedOn (n : Numbers) (old new : Disk) (before after : Told) (ran : Ran) (found : Result (List Pair) RunFault) (history : List Commit) (e : ℕ) (rows : List Row) : Type 0 where
  pub on : IsRunOn default_options old new before after (script_by n) ran history e rows
  pub map : (pairs : List Pair) → found ≡ Ok pairs → pairs ≡ map_at rows history

-- A run of the generated script between two states of the disk, behind the chain that was found, with what was read at its end; on each sound log that the disk told it is a run on this log. Whatever it tells:
-- a fault of the run is the one that is told; a failed disk is told only where its count rose, and where that is greater than it was, a failed disk or want of memory; damage, of the run or of the
-- final reading, only on a log that is not sound: a place or a node, and which one is free.
pub record IsCounted (n : Numbers) (old new : Disk) (ran : Ran) (all_durable : Bool) (found : Result (List Pair) RunFault) : Type 0 where
  pub chain : Chain
  pub sees : SeesChain old chain
  pub history : List Commit
  pub behind : IsRunBehind default_options chain.parts (script_by n) ran history
  pub durable_is : all_durable ≡ are_durable history ran.durable
  pub fault_is : (fault : RunFault) → ran.fault ≡ Some fault → found ≡ Err fault
  pub beside : LeavesBeside old new
  pub time : ContinuesOn old new
  pub only_risen : found ≡ Err run_fault.Disk → HasRisen old.faults new.faults
  pub where_risen : old.faults < new.faults → (found ≡ Err run_fault.Disk) ⊎ (found ≡ Err run_fault.Memory)
  pub unsound : (what : Damage) → found ≡ Err (run_fault.Damaged what) → IsUnsoundLog old
  pub placed : (what : Damage) → found ≡ Err (run_fault.Damaged what) → IsPlaceOrNode what
  pub told : (before after : Told) (e : ℕ) (rows : List Row) → old.told ≡ Some before → new.told ≡ Some after → Shows old.region_len before.bytes e rows → IsSound rows
      → IsCountedOn n old new before after ran found history e rows

-- ---- how a call ended

abbrev pub IsEnd : Numbers → Disk → Disk → Ended → Type 0
IsEnd n old new (early fault) = FindsChain old new (Err fault)
IsEnd n old new (counted ran all_durable found) = IsCounted n old new ran all_durable found

-- How a call ended: its whole text was written and the status is the end's, or the output failed and the status is 5.
pub record Ends (n : Numbers) (old new : Disk) (status : ℕ) (was now : Option (List ℕ)) : Type 0 where
  pub ended : Ended
  pub is_end : IsEnd n old new ended
  pub status_is : (status ≡ 5) ⊎ (status ≡ status_of ended)
  pub printed : Puts (text_of n ended) (status ≡ 5) was now

-- ---- the steps of the call

-- the script was generated, and the chain of the log that it is run on was found
pub record OpensGen (n : Numbers) (disk : Disk) (opened : Opened) : Type 0 where
  pub generates : opened.script ≡ script_by n
  pub sees : SeesChain disk opened.chain
  pub fits : FitsScript opened.script

-- The map at the end of a run, or the fault that ended it, or the reading. A room that was shut is not read.
abbrev pub ReadsEnd : Option RunFault → RoomValue → RoomValue → Result (List Pair) RunFault → Type 0
ReadsEnd (Some fault) old new found = (found ≡ Err fault) × (new ≡ old)
ReadsEnd None old new found =
    ((found ≡ Err run_fault.Disk) × (old.room.is_shut ≡ true) × (new ≡ old))
    ⊎ ((old.room.is_shut ≡ false) × ReadsMap old new found × ((rows : List Row) → tells_room old rows → AnswersRows rows found))

-- the outcomes of a script were printed, with what was read at the end: the whole text, or with status 5 a first part of it
pub record PrintsCounted (n : Numbers) (script : List ScriptTxn) (outcomes : List Outcome) (all_durable : Bool) (found : Result (List Pair) RunFault) (status : ℕ) (was now : Option (List ℕ)) : Type 0 where
  pub status_is : (status ≡ 5) ⊎ (status ≡ counted_status outcomes found)
  pub puts : Puts (counted_text n (all_outcomes script outcomes) all_durable found) (status ≡ 5) was now

-- the map at the end of a run was read, and the summary printed; all is durable where nothing waits
pub record CountsRun (n : Numbers) (script : List ScriptTxn) (ran : Ran) (room : RoomValue) (new : Disk) (status : ℕ) (was now : Option (List ℕ)) : Type 0 where
  pub behind : RoomValue
  pub whole : IsWhole behind
  pub of_disk : new ≡ behind.disk
  pub found : Result (List Pair) RunFault
  pub reads : ReadsEnd ran.fault room behind found
  pub prints : PrintsCounted n script ran.outcomes (room.room.waiting == 0) found status was now

-- memory ran out before anything was run, and its line was printed
pub record LacksMemory (old new : Disk) (status : ℕ) (was now : Option (List ℕ)) : Type 0 where
  pub same : new ≡ old
  pub status_is : (status ≡ 5) ⊎ (status ≡ 1)
  pub puts : Puts (fault_line run_fault.Memory) (status ≡ 5) was now

-- a script was run on a log that was opened, and counted, or there was no memory
pub record CountsGenerated (n : Numbers) (opened : Opened) (old new : Disk) (status : ℕ) (was now : Option (List ℕ)) : Type 0 where
  pub ran : Ran
  pub room : RoomValue
  pub runs : RunsFrom default_options opened.script old opened.chain ran room
  pub counts : CountsRun n opened.script ran room new status was now

abbrev pub EndsGenerated : Numbers → Opened → Disk → Disk → ℕ → Option (List ℕ) → Option (List ℕ) → Type 0
EndsGenerated n opened old new status was now = CountsGenerated n opened old new status was now ⊎ LacksMemory old new status was now

-- ---- the theorem

-- The theorem of a generated run, where output and disk are told, and the log is sound. The disk then tells its bytes on return too. Of the output the counts of faults before and after are
-- known; those of a source matter to no status, and are any.
pub record GensWell (n : Numbers) (output : ℕ × ℕ) (old new : Disk) (status : ℕ) (was now : Option (List ℕ)) : Type 0 where
  pub holds : (source : ℕ × ℕ) (first : List ℕ) (before : Told) (e : ℕ) (rows : List Row) → was ≡ Some first → old.told ≡ Some before
      → Shows old.region_len before.bytes e rows → IsSound rows
      → (after : Told) × (new.told ≡ Some after) × (written : List ℕ) × (now ≡ Some (first ++ written))
      × GenTheorem (start_of (script_by n) old e rows) n.start n.count n.lanes (IsImageSince (clock_of before) after) (IsImageNow after) (return_of old new source output before after) status written

-- The theorem of a generated run on every log that the disk told at entry, sound or not, where the output is told.
pub record GensAny (n : Numbers) (output : ℕ × ℕ) (old new : Disk) (status : ℕ) (was now : Option (List ℕ)) : Type 0 where
  pub holds : (source : ℕ × ℕ) (first : List ℕ) (before : Told) → was ≡ Some first → old.told ≡ Some before
      → (after : Told) × (new.told ≡ Some after) × (written : List ℕ) × (now ≡ Some (first ++ written))
      × GenDamagedTheorem n.start n.count n.lanes old.region_len before.bytes (return_of old new source output before after) (new.told ≡ old.told) status written

-- why a generated run has its status, and what it leaves on the disk
pub record TellsEnd (old new : Disk) (status : ℕ) : Type 0 where
  pub damaged : status ≡ 7 → IsUnsoundLog old
  pub opened : OneOf (0 ∷ 8 ∷ []) status → IsOpenedLog old
  pub disk_failed : status ≡ 6 → HasRisen old.faults new.faults
  pub disk_told : old.faults < new.faults → OneOf (1 ∷ 5 ∷ 6 ∷ []) status
  pub known : OneOf (0 ∷ 1 ∷ 5 ∷ 6 ∷ 7 ∷ 8 ∷ []) status
  pub beside : LeavesBeside old new
  pub told : ContinuesOn old new
