-- How a call of the command `run` ends, and what it prints then.
use Rattle.std.specs.Prelude.{◌≡◌, ◌⊎◌, ℕ, ◌<◌, List, [], ◌∷◌, ◌++◌, if◌then◌else◌, Option, Some, None, Ok, Err}
use Rattle.std.specs.List.{AllByRecursion, list_any}
use Rattle.log_disk.specs.Disk.{Disk, Told, HasRisen, OnlyFails, IsImageNow, IsImageSince, clock_of}
use Rattle.log_disk.specs.Moments.{ContinuesOn}
use Rattle.fine_model.specs.declared.Options.{Options}
use Rattle.fine_model.specs.declared.Row.{Row}
use Rattle.fine_model.specs.declared.ScriptTxn.{ScriptTxn}
use Rattle.fine_model.specs.declared.Outcome.{Outcome}
use Rattle.fine_model.specs.declared.RunFault.{RunFault}
use Rattle.fine_model.specs.declared.RunFault.TheVariants as run_fault
use Rattle.fine_model.specs.declared.Damage.{Damage}
use Rattle.fine_model.specs.declared.Reason.{Reason}
use Rattle.fine_model.specs.declared.Reason.TheVariants as reason
use Rattle.fine_model.specs.declared.Ran.{Ran}
use Rattle.fine_model.specs.declared.Part.{Part}
use Rattle.fine_model.specs.Bounds.{FitsScript}
use Rattle.fine_model.specs.Damages.{IsDurableFor, IsPlaceOrNode, RunDamagedTheorem}
use Rattle.fine_model.specs.Outcomes.{AllRun, AreOutcomes, IsOneLane, is_refused}
use Rattle.fine_model.specs.History.{Commit}
use Rattle.fine_model.specs.Trees.{IsSound}
use Rattle.fine_model.specs.Chain.{Shows, chain_end}
use Rattle.fine_model.specs.Room.{IsSealedUpTo}
use Rattle.fine_model.specs.Headline.{Start, HasStatus, IsDoneRun, IsRunWith, IsRefusedAt, OneOf, RunTheorem, causes_of}
use Rattle.fine_model.specs.Script.{script_of}
use Rattle.fine_model.specs.Report.{all_outcomes, reason_bytes, report}
use Rattle.reopen.specs.declared.chain.Chain.{Chain}
use Rattle.reopen.specs.Opening.{SeesChain}
use Rattle.log_commands.specs.Ends.{fault_status}
use Rattle.log_commands.specs.Found.{SeesLog}
use Rattle.run_laws.specs.Law.{return_of, start_of}
use Rattle.run_laws.specs.Needs.{AreSealedInNeed}
use Rattle.run_laws.specs.Runs.{AreFewOfLanes, IsReplied, RunsLanes}
use Rattle.epoch_room.specs.Meaning.{StandsAtFirst}
use Rattle.epoch_room.specs.Value.{RoomValue, made}
use Rattle.epoch_room.specs.Whole.{IsWhole}
use Rattle.fine_top.specs.declared.opening.Opened.{Opened}
use Rattle.fine_top.specs.Opened.{IsOpenedLog, IsUnsoundLog}
use Rattle.script_text.specs.Streams.{Puts}
use Rattle.script_text.specs.declared.read.ScriptFault.{ScriptFault}
use Rattle.script_text.specs.declared.read.ScriptFault.TheVariants as fault

-- a call ends before anything is run, for a reason, or with a script that was run
pub data Ended : Type 0 where
  early : Reason → Ended
  ran : List ScriptTxn → Ran → Ended

-- what is printed
unfoldable pub text_of : Ended → List ℕ
text_of (early r) = reason_bytes r
text_of (ran script r) = report script r

-- the status of a run: that of its fault, or whether a transaction was refused
abbrev pub run_status : List Outcome → Option RunFault → ℕ
run_status outcomes None = if list_any is_refused outcomes then 8 else 0
run_status outcomes (Some fault) = fault_status fault

abbrev pub reason_status : Reason → ℕ
reason_status reason.Words = 2
reason_status (reason.Script n) = 3
reason_status reason.Source = 4
reason_status (reason.Fault fault) = fault_status fault

-- the status of a call whose text was written
abbrev pub status_of : Ended → ℕ
status_of (early r) = reason_status r
status_of (ran script r) = run_status r.outcomes r.fault

-- the reason for which a script was not read
abbrev pub reason_of : ScriptFault → Reason
reason_of (fault.Many n) = reason.Script n
reason_of (fault.TooLong n) = reason.Script n
reason_of (fault.Bad n) = reason.Script n
reason_of fault.Read = reason.Source
reason_of fault.NoMemory = reason.Fault run_fault.Memory

-- P of the script's bytes, where they are told
abbrev pub OfTold : Option (List ℕ) → (List ℕ → Type 0) → Type 0
OfTold left P = (bytes : List ℕ) → left ≡ Some bytes → P bytes

-- the bytes spell a script that is taken
abbrev pub SpellsScript : List ℕ → Type 0
SpellsScript bytes = (script : List ScriptTxn) × (script_of bytes ≡ Ok script)

-- the first refusal of the script that they spell stands at line n
abbrev pub IsRefusedIn : ℕ → List ℕ → Type 0
IsRefusedIn n bytes = IsRefusedAt n (script_of bytes)

-- the grammar refuses the script
abbrev pub IsRefused : List ℕ → Type 0
IsRefused bytes = (n : ℕ) × IsRefusedIn n bytes

-- ---- what a run was

-- What a run with this history is on a log that shows epoch e and these rows: the history is legal, every image keeps it as far as it is durable, each refusal has its cause, and a fault that
-- ended it too. Nothing of it depends on the counts of the source and of the output.
pub record IsRunOn (options : Options) (old new : Disk) (before after : Told) (script : List ScriptTxn) (ran : Ran) (history : List Commit) (e : ℕ) (rows : List Row) : Type 0 where
  pub run : (source output : ℕ × ℕ)
      → IsRunWith (causes_of (start_of script old e rows) (return_of old new source output before after)) (start_of script old e rows) options.group
      (IsImageSince (clock_of before) after) (IsImageNow after) (return_of old new source output before after) script ran history
  -- with status 0, 6 or 8 it was done
  pub done : (source output : ℕ × ℕ) (status : ℕ) → HasStatus status (all_outcomes script ran.outcomes) ran.fault → (status ≡ 0) ⊎ (status ≡ 6) ⊎ (status ≡ 8)
      → IsDoneRun (start_of script old e rows) (return_of old new source output before after) status script (all_outcomes script ran.outcomes) ran.durable history
  -- where all transactions are of one lane, an epoch that another one follows has a group of entries, or the rows of the next entry did not fit it
  pub in_need : IsOneLane script → AreSealedInNeed old.region_len options.group e history

-- What a run with this history is on every disk, whatever it tells, behind the parts of the log at entry: the outcomes are those of the history, whose epochs go on from the chain's; each call of a
-- commit has a reply that the store has on some map; no epoch has more entries of a lane than a group; and the epoch that is told durable is the last of the history, or the one before it, and the last where
-- no fault came. Of what is on a disk that tells no bytes this says nothing.
pub record IsRunBehind (options : Options) (parts : List Part) (script : List ScriptTxn) (ran : Ran) (history : List Commit) : Type 0 where
  pub outcomes : AreOutcomes script (chain_end parts) (all_outcomes script ran.outcomes) history
  pub replied : AllByRecursion IsReplied history
  pub few_each : AreFewOfLanes options.group history
  pub durable : IsDurableFor parts history ran.fault ran.durable
  pub all_but_last : IsSealedUpTo (chain_end parts) history ran.durable
  pub all_run : ran.fault ≡ None → AllRun (all_outcomes script ran.outcomes)

-- what a command leaves beside the log: the geometry, and no eye that is open
pub record LeavesBeside (old new : Disk) : Type 0 where
  pub regions : new.regions ≡ old.regions
  pub region_len : new.region_len ≡ old.region_len
  pub no_eyes : new.eyes ≡ []

-- A run between two states of the disk, behind the chain that was found, by one history; on each sound log that the disk told it is a run on this log. Whatever it tells: a failed disk is told only
-- where its count rose, and where that is greater than it was, a failed disk or want of memory; damage only on a log that is not sound: a place or a node, and which one is free.
pub record IsRunOf (options : Options) (old new : Disk) (script : List ScriptTxn) (ran : Ran) : Type 0 where
  pub found : Chain
  pub sees : SeesChain old found
  pub history : List Commit
  pub behind : IsRunBehind options found.parts script ran history
  pub beside : LeavesBeside old new
  pub time : ContinuesOn old new
  pub only_risen : ran.fault ≡ Some run_fault.Disk → HasRisen old.faults new.faults
  pub where_risen : old.faults < new.faults → (ran.fault ≡ Some run_fault.Disk) ⊎ (ran.fault ≡ Some run_fault.Memory)
  pub unsound : (what : Damage) → ran.fault ≡ Some (run_fault.Damaged what) → IsUnsoundLog old
  pub placed : (what : Damage) → ran.fault ≡ Some (run_fault.Damaged what) → IsPlaceOrNode what
  pub told : (before after : Told) (e : ℕ) (rows : List Row) → old.told ≡ Some before → new.told ≡ Some after → Shows old.region_len before.bytes e rows → IsSound rows
      → IsRunOn options old new before after script ran history e rows

-- ---- how a call ended

-- why a call ends before anything is run: `source_rose` says that the source's count of faults rose, `left` are the script's bytes, `disk` is the log at entry
abbrev pub IsReason : Type 0 → Option (List ℕ) → Disk → Reason → Type 0
IsReason source_rose left disk reason.Words = ⊥
IsReason source_rose left disk (reason.Script n) = OfTold left (IsRefusedIn n)
IsReason source_rose left disk reason.Source = source_rose
IsReason source_rose left disk (reason.Fault run_fault.Memory) = Unit {0}
IsReason source_rose left disk (reason.Fault run_fault.Disk) = OfTold left SpellsScript
IsReason source_rose left disk (reason.Fault (run_fault.Damaged what)) = OfTold left SpellsScript × SeesLog disk (Err what)

-- what an early end leaves of the disk: everything, but for the count of a call that failed
pub record EndsEarly (r : Reason) (old new : Disk) : Type 0 where
  pub failed : r ≡ reason.Fault run_fault.Disk → OnlyFails old new
  pub same : (r ≡ reason.Fault run_fault.Disk → ⊥) → new ≡ old

-- a script may be run: it is what the bytes spell
abbrev pub MayRun : Option (List ℕ) → List ScriptTxn → Type 0
MayRun left script = OfTold left (λ bytes. script_of bytes ≡ Ok script)

abbrev pub IsEnd : Options → Type 0 → Option (List ℕ) → Disk → Disk → Ended → Type 0
IsEnd options source_rose left old new (early r) = IsReason source_rose left old r × EndsEarly r old new
IsEnd options source_rose left old new (ran script r) = MayRun left script × IsRunOf options old new script r

-- How a call ended: its whole text was written and the status is the end's, or the output failed and the status is 5.
pub record Ends (options : Options) (source_rose : Type 0) (left : Option (List ℕ)) (old new : Disk) (status : ℕ) (was now : Option (List ℕ)) : Type 0 where
  pub ended : Ended
  pub is_end : IsEnd options source_rose left old new ended
  pub status_is : (status ≡ 5) ⊎ (status ≡ status_of ended)
  pub printed : Puts (text_of ended) (status ≡ 5) was now

-- ---- the steps of the call

-- A script was run on the room of a chain that was found, which stood for what the disk showed then.
pub record RunsFrom (options : Options) (script : List ScriptTxn) (disk : Disk) (found : Chain) (ran : Ran) (room : RoomValue) : Type 0 where
  pub whole : IsWhole (made disk found.parts found.retired)
  pub stood : StandsAtFirst (made disk found.parts found.retired) disk.told
  pub runs : RunsLanes script options (made disk found.parts found.retired) room ran

-- a script may be run, and the chain of the log that it runs on was found
pub record OpensRun (left : Option (List ℕ)) (disk : Disk) (opened : Opened) : Type 0 where
  pub spelled : MayRun left opened.script
  pub sees : SeesChain disk opened.chain
  pub fits : FitsScript opened.script

-- an end of a run of this script: want of memory before anything was run, or a run
abbrev pub IsEndOfRun : Options → List ScriptTxn → Disk → Disk → Ended → Type 0
IsEndOfRun options script old new (early r) = (r ≡ reason.Fault run_fault.Memory) × (new ≡ old)
IsEndOfRun options script old new (ran its r) = (its ≡ script) × IsRunOf options old new script r

-- how a run of this script ended, and what was printed
pub record EndsRunOf (options : Options) (script : List ScriptTxn) (old new : Disk) (status : ℕ) (was now : Option (List ℕ)) : Type 0 where
  pub ended : Ended
  pub is_end : IsEndOfRun options script old new ended
  pub status_is : (status ≡ 5) ⊎ (status ≡ status_of ended)
  pub printed : Puts (text_of ended) (status ≡ 5) was now

-- ---- the theorem

-- what is known at entry
abbrev pub start_on : Disk → List ℕ → ℕ → List Row → Start
start_on old bytes e rows = record { script = script_of bytes; region_len = old.region_len; e = e; rows = rows }

-- The theorem of a run with these options, where script, output and disk are told, and the log is sound. The disk then tells its bytes on return too. Of the source and
-- of the output the counts of faults before and after are known.
pub record RunsWell (options : Options) (left : Option (List ℕ)) (source output : ℕ × ℕ) (old new : Disk) (status : ℕ) (was now : Option (List ℕ)) : Type 0 where
  pub holds : (bytes first : List ℕ) (before : Told) (e : ℕ) (rows : List Row) → left ≡ Some bytes → was ≡ Some first → old.told ≡ Some before
      → Shows old.region_len before.bytes e rows → IsSound rows
      → (after : Told) × (new.told ≡ Some after) × (written : List ℕ) × (now ≡ Some (first ++ written))
      × RunTheorem (causes_of (start_on old bytes e rows) (return_of old new source output before after)) (start_on old bytes e rows) options.group (IsImageSince (clock_of before) after) (IsImageNow after)
      (return_of old new source output before after) (new ≡ old) status written

-- The theorem of a run on every log that the disk told at entry, sound or not, where script and output are told.
pub record RunsAny (left : Option (List ℕ)) (source output : ℕ × ℕ) (old new : Disk) (status : ℕ) (was now : Option (List ℕ)) : Type 0 where
  pub holds : (bytes first : List ℕ) (before : Told) → left ≡ Some bytes → was ≡ Some first → old.told ≡ Some before
      → (after : Told) × (new.told ≡ Some after) × (written : List ℕ) × (now ≡ Some (first ++ written))
      × RunDamagedTheorem (script_of bytes) old.region_len before.bytes (return_of old new source output before after) (new.told ≡ old.told) status written

-- what the status of a run tells of the script and of the log, and that the disk's moments go on
pub record TellsRun (left : Option (List ℕ)) (old new : Disk) (status : ℕ) : Type 0 where
  pub script : status ≡ 3 → OfTold left IsRefused
  pub damaged : status ≡ 7 → IsUnsoundLog old
  pub opened : OneOf (0 ∷ 8 ∷ []) status → IsOpenedLog old
  pub told : ContinuesOn old new
