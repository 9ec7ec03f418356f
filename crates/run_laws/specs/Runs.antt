-- What a run of a script on a room does.
use Rattle.std.specs.Prelude.{◌≡◌, ◌⊎◌, ℕ, ◌+◌, ◌-◌, ◌<◌, ◌≤◌, ◌==◌, ◌&&◌, false, true, List, [], length, count_by, Option, Some, None}
use Rattle.std.specs.List.{AllByRecursion, AllZip, list_all}
use Rattle.log_disk.specs.Disk.{Told}
use Rattle.fine_model.specs.declared.Damage.{Damage}
use Rattle.fine_model.specs.declared.Options.{Options}
use Rattle.fine_model.specs.declared.Outcome.{Outcome}
use Rattle.fine_model.specs.declared.Ran.{Ran}
use Rattle.fine_model.specs.declared.Row.{Row}
use Rattle.fine_model.specs.declared.RunFault.{RunFault}
use Rattle.fine_model.specs.declared.RunFault.TheVariants as run_fault
use Rattle.fine_model.specs.declared.ScriptTxn.{ScriptTxn}
use Rattle.fine_model.specs.Boards.{is_empty}
use Rattle.fine_model.specs.Buckets.{Began}
use Rattle.fine_model.specs.Causes.{HaveCauses, IsFullInNeed}
use Rattle.fine_model.specs.Damages.{IsPlaceOrNode}
use Rattle.fine_model.specs.Faults.{HasRisen, last_count}
use Rattle.fine_model.specs.History.{Commit, last_epoch}
use Rattle.fine_model.specs.Outcomes.{AllRun, AreOutcomes, EpochsFollow, IsOneLane, lanes_not_run}
use Rattle.fine_model.specs.Report.{all_outcomes}
use Rattle.fine_model.specs.Room.{IsSealedUpTo}
use Rattle.fine_model.specs.Store.{IsReplyTo}
use Rattle.epoch_room.specs.Meaning.{Stands, origin_of}
use Rattle.epoch_room.specs.Value.{RoomValue}
use Rattle.epoch_room.specs.Whole.{IsWhole}
use Rattle.run_laws.specs.Needs.{AreSealedInNeed}

-- P of the rows and the last epoch of each sound log that the disk told at entry, and for which the room stands with no history
abbrev pub OfSound : RoomValue → (List Row → ℕ → Type 0) → Type 0
OfSound room P = (first : List Row) (e : ℕ) → Began (origin_of room.entry) e first → Stands room first e [] → P first e

-- A room on which a run may begin: its disk is as it was when the room was made, nothing waits and nothing is out, and it stands for what its
-- log showed at entry.
pub record IsReady (room : RoomValue) : Type 0 where
  pub whole : IsWhole room
  pub at_entry : room.disk ≡ room.entry
  pub not_shut : room.room.is_shut ≡ false
  pub board : list_all is_empty room.room.board ≡ true
  pub no_job : room.room.job ≡ None
  pub no_place : room.room.places ≡ 0
  pub none_waits : room.room.waiting ≡ 0
  pub stands : (first : List Row) (e : ℕ) → Began (origin_of room.entry) e first → Stands room first e []

-- What a run leaves beside what it means: the geometry, no eye, no view and no merge that is out, and a room of the same log at entry. A hall of
-- threads keeps no more of the entry than its origin.
pub record LeavesBeside (old new : RoomValue) : Type 0 where
  pub regions : new.disk.regions ≡ old.disk.regions
  pub region_len : new.disk.region_len ≡ old.disk.region_len
  pub no_eyes : new.disk.eyes ≡ []
  pub board : list_all is_empty new.room.board ≡ true
  pub no_job : new.room.job ≡ None
  pub origin : origin_of new.entry ≡ origin_of old.entry

-- What the room has of the history that was added, whoever added it: a place for each commit, epochs that follow on those at entry, up to which one
-- they are sealed, and as many entries that wait as the history has in the open epoch. On a sound log it stands for this history.
pub record HasHistory (old new : RoomValue) (history : List Commit) : Type 0 where
  pub epochs : EpochsFollow old.room.sealed history
  pub sealed : IsSealedUpTo old.room.sealed history new.room.sealed
  pub places : new.room.places ≡ length history
  pub waiting : new.room.waiting ≡ count_by (λ c. c.epoch == new.room.sealed + 1) history
  pub stands : OfSound old (λ first e. Stands new first e history)
  pub whole : IsWhole new

-- it has the history, and beside it nothing is out
pub record AddsHistory (old new : RoomValue) (history : List Commit) : Type 0 where
  pub has : HasHistory old new history
  pub open has use *
  pub beside : LeavesBeside old new

-- the disk's own count of faults rose
abbrev pub OwnRose : RoomValue → RoomValue → Type 0
OwnRose old new = HasRisen old.disk.own_faults new.disk.own_faults

-- How the fault of a run is told. A failed disk is told only where its count rose, and where the count is greater than it was, unless memory ran out too.
-- Damage comes on an unsound log alone, and names a place of a region or a node. Without a failure of the disk's own, each lane that was cut short has a failed call.
pub record TellsFault (script : List ScriptTxn) (outcomes : List Outcome) (old new : RoomValue) (fault : Option RunFault) : Type 0 where
  pub only_risen : fault ≡ Some run_fault.Disk → HasRisen old.disk.faults new.disk.faults
  pub where_risen : old.disk.faults < new.disk.faults → (fault ≡ Some run_fault.Disk) ⊎ (fault ≡ Some run_fault.Memory)
  pub no_lower : (old.disk.faults ≤ new.disk.faults) × (old.disk.own_faults ≤ new.disk.own_faults)
  pub unsound : (what : Damage) → fault ≡ Some (run_fault.Damaged what) → OfSound old (λ first e. ⊥)
  pub placed : (what : Damage) → fault ≡ Some (run_fault.Damaged what) → IsPlaceOrNode what
  pub one_each : fault ≡ Some run_fault.Disk → ¬ OwnRose old new
      → OfSound old (λ first e. (lanes_not_run script outcomes ≤ new.disk.faults - old.disk.faults) ⊎ (last_count ≤ new.disk.faults))

-- a run that is to leave all its commits durable: no fault ended it, or one that was neither want of memory nor a failure of the disk's own
abbrev pub IsToSeal : RoomValue → RoomValue → Option RunFault → Type 0
IsToSeal old new fault = (fault ≡ None) ⊎ ((fault ≡ Some run_fault.Memory → ⊥) × (OwnRose old new → ⊥))

-- memory ran out before the list of outcomes was had, and nothing was run
abbrev pub IsNotBegun : Ran → Type 0
IsNotBegun ran = (ran.fault ≡ Some run_fault.Memory) × (ran.outcomes ≡ [])

-- no epoch of a history has more entries of one lane than these
abbrev pub AreFewOfLanes : ℕ → List Commit → Type 0
AreFewOfLanes most history = (lane e : ℕ) → count_by (λ c. (c.entry.lane == lane) && (c.epoch == e)) history ≤ most

-- each call of a commit has its reply
abbrev pub IsReplied : Commit → Type 0
IsReplied c = AllZip IsReplyTo c.entry.calls c.entry.replies

-- The run. Its outcomes are those of one history, which the room was given, and each refusal has its cause. No clause names a
-- thread, an order across lanes, a try or a merge. There is an outcome for each transaction, unless memory ran out before the first.
pub record RunsScript (script : List ScriptTxn) (options : Options) (old new : RoomValue) (ran : Ran) : Type 0 where
  pub history : List Commit
  pub adds : AddsHistory old new history
  pub outcomes : AreOutcomes script old.room.sealed (all_outcomes script ran.outcomes) history
  pub each_told : (length ran.outcomes ≡ length script) ⊎ IsNotBegun ran
  pub replied : AllByRecursion IsReplied history
  pub all_run : ran.fault ≡ None → AllRun (all_outcomes script ran.outcomes)
  pub few_each : AreFewOfLanes options.group history
  -- on a sound log a single lane has no epoch, of those that another one follows, sealed before a group is full, unless the rows of the next entry did not fit
  pub in_need : IsOneLane script → OfSound old (λ first e. AreSealedInNeed old.room.region_len options.group old.room.sealed history)
  -- and so it is of the epoch before its first transaction that is refused as full
  pub last_need : IsOneLane script
      → OfSound old (λ first e. IsFullInNeed old.room.region_len options.group old.room.sealed first script (all_outcomes script ran.outcomes) history)
  pub durable : ran.durable ≡ new.room.sealed
  pub all_durable : IsToSeal old new ran.fault → ran.durable ≡ last_epoch old.room.sealed history
  pub causes : (after : Told) → new.disk.told ≡ Some after
      → OfSound old (λ first e. HaveCauses old.room.region_len first after.bytes script (all_outcomes script ran.outcomes) history ran.durable)
  pub fault : TellsFault script (all_outcomes script ran.outcomes) old new ran.fault

-- What a run with this history says of its last seal. Whatever ended its lanes, all that was committed is durable, unless memory was wanting for this
-- seal, or the disk's own count rose. Where memory was wanting, entries wait in the open epoch, which are not durable, and it is told.
pub record SealsLast (old new : RoomValue) (ran : Ran) (history : List Commit) : Type 0 where
  pub all_durable : ran.unsealed ≡ false → (OwnRose old new → ⊥) → ran.durable ≡ last_epoch old.room.sealed history
  pub some_wait : ran.unsealed ≡ true → 1 ≤ new.room.waiting
  pub memory_told : ran.unsealed ≡ true → ran.fault ≡ Some run_fault.Memory

-- A run, and what it says of its last seal. Which place or node it names as damaged, no clause says.
pub record RunsLanes (script : List ScriptTxn) (options : Options) (old new : RoomValue) (ran : Ran) : Type 0 where
  pub run : RunsScript script options old new ran
  pub open run use *
  pub seals_last : SealsLast old new ran run.history
