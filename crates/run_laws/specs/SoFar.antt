-- The body on one thread, after some transactions, and at its end.
use Rattle.std.specs.Prelude.{◌≡◌, ◌≢◌, ◌⊎◌, ℕ, ◌+◌, ◌-◌, ◌<◌, ◌≤◌, ◌==◌, ◌&&◌, min, Bool, true, false, is_some, List, [], ◌∷◌, ◌++◌, length, take, replicate, count_by, slice_get, slice_set, Option, Some, None, Contains}
use Rattle.std.specs.List.{AllByRecursion, AllZip, list_all}
use Rattle.fine_model.specs.declared.Damage.{Damage}
use Rattle.fine_model.specs.declared.Options.{Options}
use Rattle.fine_model.specs.declared.Outcome.{Outcome}
use Rattle.fine_model.specs.declared.Outcome.TheVariants as outcome
use Rattle.fine_model.specs.declared.Row.{Row}
use Rattle.fine_model.specs.declared.RunFault.{RunFault}
use Rattle.fine_model.specs.declared.RunFault.TheVariants as run_fault
use Rattle.fine_model.specs.declared.ScriptTxn.{ScriptTxn}
use Rattle.fine_model.specs.declared.Why.{Why}
use Rattle.fine_model.specs.declared.Why.TheVariants as why
use Rattle.fine_model.specs.declared.law.Origin.{Origin}
use Rattle.fine_model.specs.declared.law.RoomState.{RoomState}
use Rattle.fine_model.specs.Becomes.{Becomes, IsStuck}
use Rattle.fine_model.specs.Boards.{is_empty}
use Rattle.fine_model.specs.Causes.{IsFullInNeed, IsRefusedInNeed}
use Rattle.fine_model.specs.Damages.{IsPlaceOrNode}
use Rattle.fine_model.specs.Faults.{HasRisen, last_count}
use Rattle.fine_model.specs.History.{Commit, all_rows}
use Rattle.fine_model.specs.Outcomes.{IsOneLane, IsOutcomeOf}
use Rattle.fine_model.specs.RowBytes.{greatest}
use Rattle.epoch_room.specs.Meaning.{origin_of}
use Rattle.epoch_room.specs.Value.{RoomValue}
use Rattle.partition_hold.specs.Views.{ViewValue}
use Rattle.room_shelf.specs.Shelves.{IsShelf, shelf, total}
use Rattle.run_laws.specs.Lanes.{EndsLane, HaveEnded, IsLane, fault_of, first_fault, lanes_failed, most_lanes, none_ended}
use Rattle.run_laws.specs.Needs.{AreSealedInNeed, HasNoRegion, RunsInNeed}
use Rattle.run_laws.specs.Runs.{AreFewOfLanes, HasHistory, IsReady, IsReplied, OfSound, OwnRose, RunsScript}
use Rattle.run_laws.specs.Turns.{AreNumbered, AreRefused, EndsLanes, NoneBehindFull, RefusesBehind, commit_of, commits_of}

-- ---- the outcomes

-- one for each transaction so far, in the order of the script
pub record AreInOrder (script : List ScriptTxn) (i : ℕ) (done : List Outcome) : Type 0 where
  pub count : length done ≡ i
  pub each : AllZip IsOutcomeOf (take i script) done
  pub numbered : AreNumbered 0 0 done
  pub last_ones : EndsLanes (take i script) done
  pub replied : AllByRecursion IsReplied (commits_of done)

-- and a lane that did not run one has ended
pub record AreSoFar (script : List ScriptTxn) (i : ℕ) (done : List Outcome) (ended : List (Option RunFault)) : Type 0 where
  pub order : AreInOrder script i done
  pub open order use *
  pub ends : HaveEnded (take i script) done ended

-- The outcome of the next transaction: it is not run exactly where its lane has ended, and one that was committed has the next place and turn.
pub record ComesNext (done : List Outcome) (ended : List (Option RunFault)) (txn : ScriptTxn) (next : Outcome) : Type 0 where
  pub is : IsOutcomeOf txn next
  pub number : AreNumbered (length done) (length (commits_of done)) (next ∷ [])
  pub runs : ((next ≡ outcome.NotRun) × (is_some (fault_of ended txn.lane) ≡ true)) ⊎ ((next ≢ outcome.NotRun) × (fault_of ended txn.lane ≡ None))
  pub replied : AllByRecursion IsReplied (commits_of (next ∷ []))

abbrev pub NextLaw : Type 0
NextLaw =
    (script : List ScriptTxn) (i : ℕ) (done : List Outcome) (ended : List (Option RunFault)) (txn : ScriptTxn) (next : Outcome) → AreSoFar script i done ended → slice_get script i ≡ Some txn → ComesNext done ended txn next
    → AreSoFar script (i + 1) (done ++ next ∷ []) ended

-- the list of all outcomes, that of the next one set
abbrev pub SetsLaw : Type 0
SetsLaw =
    (many : ℕ) (done : List Outcome) (next : Outcome) → length done < many
    → slice_set (done ++ replicate (many - length done) outcome.NotRun) (length done) next ≡ (done ++ next ∷ []) ++ replicate (many - (length done + 1)) outcome.NotRun

-- why transactions were refused is so as the room goes on, with the next one
abbrev pub RefusedNext : Type 0
RefusedNext =
    (script : List ScriptTxn) (done : List Outcome) (txn : ScriptTxn) (next : Outcome) (old new : RoomState) (first : List Row) → slice_get script (length done) ≡ Some txn → Becomes old new → new.sealed ≤ greatest
    → ((word : Why) → next ≡ outcome.Refused word → RefusesBehind new (first ++ all_rows (commits_of done)) txn.calls word) → AreRefused script done old first → AreRefused script (done ++ next ∷ []) new first

-- the outcomes so far stay as a lane ends
abbrev pub LaneEndsLaw : Type 0
LaneEndsLaw =
    (script : List ScriptTxn) (i : ℕ) (done : List Outcome) (ended after : List (Option RunFault)) (lane : ℕ) (fault : RunFault) → ((j : ℕ) (txn : ScriptTxn) → slice_get script j ≡ Some txn → 1 ≤ txn.lane)
    → EndsLane ended after lane fault → AreSoFar script i done ended → AreSoFar script i done after

-- ---- the flag of a full log

-- It is set where some transaction was refused as full, and nothing was committed after that one.
pub record FullEnds (done : List Outcome) (full : Bool) : Type 0 where
  pub known : (i : ℕ) → slice_get done i ≡ Some (outcome.Refused why.Full) → full ≡ true
  pub some : full ≡ true → (i : ℕ) × (slice_get done i ≡ Some (outcome.Refused why.Full))
  pub none_behind : NoneBehindFull done

-- As a transaction comes to its end, the flag stays where it is set, it is set by a refusal as full alone, and where it was set nothing is committed.
pub record KeepsFlag (old new : Bool) (next : Outcome) : Type 0 where
  pub stays : old ≡ true → new ≡ true
  pub sets : next ≡ outcome.Refused why.Full → new ≡ true
  pub only : new ≡ true → (old ≡ true) ⊎ (next ≡ outcome.Refused why.Full)
  pub none : old ≡ true → commit_of next ≡ None

-- ---- the room

-- it goes on from the entry, with these commits
pub record GoesOn (entry room : RoomValue) (history : List Commit) : Type 0 where
  pub regions : room.disk.regions ≡ entry.disk.regions
  pub region_len : room.disk.region_len ≡ entry.disk.region_len
  pub same_entry : room.entry ≡ entry.entry
  pub no_job : room.room.job ≡ None
  pub has : HasHistory entry room history
  pub open has use *
  pub becomes : Becomes entry.room room.room

-- no epoch has more entries of a lane than a group, and a lane that goes on has fewer in the open one
pub record AreFewSoFar (group sealed : ℕ) (ended : List (Option RunFault)) (history : List Commit) : Type 0 where
  pub most : AreFewOfLanes group history
  pub open_epoch : (lane : ℕ) → IsLane lane → fault_of ended lane ≡ None → count_by (λ c. (c.entry.lane == lane) && (c.epoch == sealed + 1)) history < group

-- ---- faults

-- What some faults tell, of which those in `ended` ended lanes, where the count of all faults is this: each lane that a failed disk ended has a failed call, unless the disk's own
-- count rose; a count that rose, and a room that is shut, are told by a fault; damage is told on an unsound log alone.
pub record AreTold (entry room : RoomValue) (count : ℕ) (ended told : List (Option RunFault)) : Type 0 where
  pub lanes : length ended ≡ most_lanes
  pub low : min entry.disk.faults last_count ≤ count
  pub all : (fault : RunFault) → Contains ended (Some fault) → Contains told (Some fault)
  pub failed : OwnRose entry room ⊎ (lanes_failed ended + entry.disk.faults ≤ count) ⊎ (last_count ≤ count)
  pub only_risen : Contains told (Some run_fault.Disk) → HasRisen entry.disk.faults count
  pub where_risen : entry.disk.faults < count → Contains told (Some run_fault.Disk) ⊎ Contains told (Some run_fault.Memory)
  pub shut : room.room.is_shut ≡ true → Contains told (Some run_fault.Disk) ⊎ Contains told (Some run_fault.Memory)
  pub unsound : (what : Damage) → Contains told (Some (run_fault.Damaged what)) → OfSound entry (λ first e. ⊥)
  pub placed : (what : Damage) → Contains told (Some (run_fault.Damaged what)) → IsPlaceOrNode what

-- ---- all of it

-- the room, the view that is out for loading, the buckets, the flag that the log is stuck, how each lane ended, and the outcomes
pub record Serial (B : Type 0) : Type 0 where
  pub room : RoomValue
  pub view : Option ViewValue
  pub buckets : B
  pub full : Bool
  pub ended : List (Option RunFault)
  pub outcomes : List Outcome

-- After i transactions, with buckets of any kind, as they stand together for a history on a log while an epoch is published.
module _ {B : Type 0} (stands_for : Origin → ℕ → B → List Commit → Type 0) where
  pub record SoFar (script : List ScriptTxn) (options : Options) (i : ℕ) (entry : RoomValue) (s : Serial B) : Type 0 where
    pub done : List Outcome
    pub outcomes_are : s.outcomes ≡ done ++ replicate (length script - i) outcome.NotRun
    pub so_far : AreSoFar script i done s.ended
    pub goes_on : GoesOn entry s.room (commits_of done)
    pub few : AreFewSoFar options.group s.room.room.sealed s.ended (commits_of done)
    pub in_need : (lane : ℕ) → AllByRecursion (λ txn. txn.lane ≡ lane) script → RunsInNeed options.group lane entry s.room s.full s.ended (commits_of done)
    -- the first that was refused as full has its need
    pub last_need : (lane : ℕ) → AllByRecursion (λ txn. txn.lane ≡ lane) script
        → OfSound entry (λ first e. IsFullInNeed entry.room.region_len options.group entry.room.sealed first script done (commits_of done))
    pub full_ends : FullEnds done s.full
    pub no_region : s.full ≡ true → HasNoRegion s.room.room
    pub told : AreTold entry s.room (total (shelf s.room s.view)) s.ended s.ended
    pub refused : OfSound entry (λ first e. AreRefused script done s.room.room first)
    pub stuck : s.full ≡ true → OfSound entry (λ first e. IsStuck s.room.room)
    pub view : IsShelf s.room.room s.view
    pub buckets : stands_for (origin_of entry.entry) s.room.room.sealed s.buckets (commits_of done)

  -- The step of a transaction, after the outcomes of those before it: what holds of the outcomes, the room, the faults and the buckets holds with its
  -- outcome, and with its commit, if it has one. Its lane may end by it, also where it was committed and the seal after it failed.
  pub record IsStep (script : List ScriptTxn) (options : Options) (i : ℕ) (entry : RoomValue) (done : List Outcome) (txn : ScriptTxn) (next : Outcome) (old new : Serial B) : Type 0 where
    pub outcomes : new.outcomes ≡ slice_set old.outcomes i next
    pub so_far : AreSoFar script (i + 1) (done ++ next ∷ []) new.ended
    pub goes_on : GoesOn entry new.room (commits_of done ++ commits_of (next ∷ []))
    pub few : AreFewSoFar options.group new.room.room.sealed new.ended (commits_of done ++ commits_of (next ∷ []))
    pub in_need : RunsInNeed options.group txn.lane entry old.room old.full old.ended (commits_of done) → RunsInNeed options.group txn.lane entry new.room new.full new.ended (commits_of done ++ commits_of (next ∷ []))
    pub full_need : next ≡ outcome.Refused why.Full → old.full ≡ false → RunsInNeed options.group txn.lane entry old.room old.full old.ended (commits_of done)
        → OfSound entry (λ first e. IsRefusedInNeed entry.room.region_len options.group entry.room.sealed first (commits_of done) txn.calls)
    pub flag : KeepsFlag old.full new.full next
    pub no_region : new.full ≡ true → HasNoRegion new.room.room
    pub told : AreTold entry new.room (total (shelf new.room new.view)) new.ended new.ended
    pub becomes : Becomes old.room.room new.room.room
    pub most : new.room.room.sealed ≤ greatest
    pub refused : (word : Why) → next ≡ outcome.Refused word → OfSound entry (λ first e. RefusesBehind new.room.room (first ++ all_rows (commits_of done)) txn.calls word)
    pub stuck : new.full ≡ true → (old.full ≡ true) ⊎ OfSound entry (λ first e. IsStuck new.room.room)
    pub view : IsShelf new.room.room new.view
    pub buckets : stands_for (origin_of entry.entry) new.room.room.sealed new.buckets (commits_of done ++ commits_of (next ∷ []))

  -- on a room that is ready, with buckets that stand for no history, the body begins
  abbrev pub BeginsLaw : Type 0
  BeginsLaw =
      (script : List ScriptTxn) (options : Options) (entry : RoomValue) (buckets : B) → IsReady entry → 1 ≤ options.group → stands_for (origin_of entry.entry) entry.room.sealed buckets []
      → SoFar script options 0 entry (record { room = entry; view = None; buckets = buckets; full = false; ended = none_ended; outcomes = replicate (length script) outcome.NotRun })

  -- the step of the next transaction keeps what holds of it
  abbrev pub StepsLaw : Type 0
  StepsLaw =
      (script : List ScriptTxn) (options : Options) (entry : RoomValue) (i : ℕ) (txn : ScriptTxn) (next : Outcome) (old new : Serial B) (s : SoFar script options i entry old) → slice_get script i ≡ Some txn
      → IsStep script options i entry s.done txn next old new → SoFar script options (i + 1) entry new

-- what is done after the last transaction: the view is taken back, and what waits is sealed, unless the room is shut
pub record IsEnd (entry old room : RoomValue) (done : List Outcome) (ended told : List (Option RunFault)) : Type 0 where
  pub goes_on : GoesOn entry room (commits_of done)
  pub tells : AreTold entry room room.disk.faults ended told
  pub becomes : Becomes old.room room.room
  pub most : room.room.sealed ≤ greatest
  pub board : list_all is_empty room.room.board ≡ true
  pub sealed : room.room.is_shut ≡ false → ¬ Contains told (Some run_fault.Memory) → room.room.waiting ≡ 0

-- At the end: the view was taken back, and what waited was sealed, unless the room is shut; `told` has the fault of this last seal too.
pub record Finished (script : List ScriptTxn) (options : Options) (entry room : RoomValue) (done : List Outcome) (ended told : List (Option RunFault)) : Type 0 where
  pub so_far : AreSoFar script (length script) done ended
  pub goes_on : GoesOn entry room (commits_of done)
  pub few : AreFewOfLanes options.group (commits_of done)
  pub in_need : IsOneLane script → AreSealedInNeed entry.room.region_len options.group entry.room.sealed (commits_of done)
  pub last_need : IsOneLane script → OfSound entry (λ first e. IsFullInNeed entry.room.region_len options.group entry.room.sealed first script done (commits_of done))
  pub none_behind : NoneBehindFull done
  pub tells : AreTold entry room room.disk.faults ended told
  pub refused : OfSound entry (λ first e. AreRefused script done room.room first)
  pub board : list_all is_empty room.room.board ≡ true
  pub sealed : room.room.is_shut ≡ false → ¬ Contains told (Some run_fault.Memory) → room.room.waiting ≡ 0

-- so it has where these are done
module _ {B : Type 0} (stands_for : Origin → ℕ → B → List Commit → Type 0) where
  abbrev pub EndsLaw : Type 0
  EndsLaw =
      (script : List ScriptTxn) (options : Options) (entry : RoomValue) (s : Serial B) (room : RoomValue) (told : List (Option RunFault)) (so_far : SoFar stands_for script options (length script) entry s)
      → IsEnd entry s.room room so_far.done s.ended told → Finished script options entry room so_far.done s.ended told

-- then it was a run
abbrev pub FinishedLaw : Type 0
FinishedLaw =
    (script : List ScriptTxn) (options : Options) (entry room : RoomValue) (done : List Outcome) (ended told : List (Option RunFault)) (unsealed : Bool) → IsReady entry → Finished script options entry room done ended told
    → RunsScript script options entry room (record { outcomes = done; durable = room.room.sealed; fault = first_fault told; unsealed = unsealed })
