-- Steps of the room on one thread: calls that add and seal nothing, an entry more, and a seal.
use Rattle.std.specs.Prelude.{◌≡◌, ℕ, ◌+◌, ◌<◌, ◌≤◌, ◌==◌, Bool, true, false, List, [], ◌∷◌, ◌++◌, count_by, length, Option, None, Some, Result}
use Rattle.fine_model.specs.declared.RunFault.{RunFault}
use Rattle.fine_model.specs.Becomes.{Becomes, IsStuck}
use Rattle.fine_model.specs.Causes.{NoneFit}
use Rattle.fine_model.specs.History.{Commit, IsLegal}
use Rattle.fine_model.specs.Regions.{Image}
use Rattle.epoch_room.specs.Meaning.{GoesOnStanding, Keeps, StandsForMore}
use Rattle.epoch_room.specs.Steps.{SealsOr, appended}
use Rattle.epoch_room.specs.Value.{RoomValue}
use Rattle.epoch_room.specs.Whole.{IsWhole}
use Rattle.epoch_room.specs.declared.answers.RoomFault.{RoomFault}
use Rattle.partition_hold.specs.Views.{ViewValue}
use Rattle.room_shelf.specs.Shelves.{IsLater, shelf}
use Rattle.run_laws.specs.Lanes.{EndsLane, IsLane, fault_of}
use Rattle.run_laws.specs.Needs.{EndsInNeed, HadNeed, HasNoRegion, IsInNeed, IsSealed, Unsealed}
use Rattle.run_laws.specs.Runs.{AreFewOfLanes, OfSound}
use Rattle.run_laws.specs.SoFar.{AreFewSoFar, GoesOn}

-- a room on which nothing was added or sealed, whatever was loaded, merged or erased
pub record StaysOn (old new : RoomValue) : Type 0 where
  pub entry : new.entry ≡ old.entry
  pub job : new.room.job ≡ old.room.job
  pub sealed : new.room.sealed ≡ old.room.sealed
  pub places : new.room.places ≡ old.room.places
  pub waiting : new.room.waiting ≡ old.room.waiting
  pub stands : GoesOnStanding old new
  pub becomes : Becomes old.room new.room

-- as by what is done with the view for loading
abbrev pub LaterLaw : Type 0
LaterLaw = (old new : RoomValue) (out view : Option ViewValue) → IsLater (shelf old out) (shelf new view) → StaysOn old new

abbrev pub StaysLaw : Type 0
StaysLaw = (entry old new : RoomValue) (history : List Commit) → GoesOn entry old history → IsWhole new → StaysOn old new → GoesOn entry new history

-- a commit more: the room has an entry of its rows more, and its epoch is the open one
pub record Commits (entry old new : RoomValue) (history : List Commit) (c : Commit) : Type 0 where
  pub room : new ≡ appended old c.entry.rows
  pub epoch : c.epoch ≡ old.room.sealed + 1
  pub stands : StandsForMore old new c.entry.rows
  pub becomes : Becomes old.room new.room
  pub legal : OfSound entry (λ first e. IsLegal first (history ++ c ∷ []))

abbrev pub CommitsLaw : Type 0
CommitsLaw = (entry old new : RoomValue) (history : List Commit) (c : Commit) → GoesOn entry old history → IsWhole new → Commits entry old new history c → GoesOn entry new (history ++ c ∷ [])

-- a seal, by its answer: with every refusal nothing was added or sealed
abbrev pub SealsLaw : Type 0
SealsLaw =
    (entry old new : RoomValue) (history : List Commit) (result : Result ℕ RoomFault) → GoesOn entry old history → IsWhole new → 1 ≤ old.room.waiting → SealsOr old new result → Keeps old new → new.room.job ≡ old.room.job
    → GoesOn entry new history

-- Where nothing waits or is retired, fewer than two regions are free and no two neighbours fit these, the log is stuck: so after a merge that found none that fit.
abbrev pub FullLaw : Type 0
FullLaw =
    (entry room : RoomValue) (history : List Commit) → GoesOn entry room history → room.room.lost ≡ [] → room.room.waiting ≡ 0 → room.room.retired ≡ [] → length room.room.free < 2
    → ((image : Image) → room.room.image ≡ Some image → NoneFit room.room.region_len image room.room.parts (length room.room.free)) → OfSound entry (λ first e. IsStuck room.room)

-- ---- how few entries of a lane wait

-- with fewer entries that wait than a group, each lane has fewer
abbrev pub FewWait : Type 0
FewWait = (group sealed : ℕ) (ended : List (Option RunFault)) (history : List Commit) → AreFewOfLanes group history → count_by (λ c. c.epoch == sealed + 1) history < group → AreFewSoFar group sealed ended history

-- a lane that goes on may commit
abbrev pub FewMore : Type 0
FewMore =
    (group sealed : ℕ) (ended : List (Option RunFault)) (history : List Commit) (c : Commit) → AreFewSoFar group sealed ended history → IsLane c.entry.lane → fault_of ended c.entry.lane ≡ None → c.epoch ≡ sealed + 1
    → AreFewOfLanes group (history ++ c ∷ [])

-- and where it ends with this commit, as its seal failed, the others have as many entries as before
abbrev pub FewEnd : Type 0
FewEnd =
    (group sealed : ℕ) (ended after : List (Option RunFault)) (history : List Commit) (c : Commit) (fault : RunFault) → AreFewSoFar group sealed ended history → IsLane c.entry.lane → fault_of ended c.entry.lane ≡ None → c.epoch ≡ sealed + 1
    → EndsLane ended after c.entry.lane fault → AreFewSoFar group sealed after (history ++ c ∷ [])

-- so it is where a lane ends that commits nothing
abbrev pub FewLess : Type 0
FewLess =
    (group sealed : ℕ) (ended after : List (Option RunFault)) (history : List Commit) (lane : ℕ) (fault : RunFault) → AreFewSoFar group sealed ended history → EndsLane ended after lane fault → AreFewSoFar group sealed after history

-- ---- what epochs were sealed for

-- a full log has no region
abbrev pub KeepsFull : Bool → RoomValue → Type 0
KeepsFull full room = full ≡ true → HasNoRegion room.room

-- where nothing was sealed, and where what waits was
abbrev pub NeedStays : Type 0
NeedStays = (group : ℕ) (entry old new : RoomValue) (full full' : Bool) (history : List Commit) → IsInNeed group entry old full history → Unsealed old.room new.room → KeepsFull full' new → IsInNeed group entry new full' history

abbrev pub NeedSealed : Type 0
NeedSealed =
    (group : ℕ) (entry old new : RoomValue) (full full' : Bool) (history : List Commit) → IsInNeed group entry old full history → IsSealed old.room new.room → GoesOn entry new history → KeepsFull full' new
    → IsInNeed group entry new full' history

abbrev pub NeedStill : Type 0
NeedStill =
    (group : ℕ) (entry old new : RoomValue) (full full' : Bool) (history : List Commit) → EndsInNeed group entry old full history → Unsealed old.room new.room → (full ≡ true → full' ≡ true) → EndsInNeed group entry new full' history

-- with a commit more, which is of an open epoch, or of one after an epoch that was sealed in need
abbrev pub NeedCommits : Type 0
NeedCommits =
    (group : ℕ) (entry old new : RoomValue) (full : Bool) (history : List Commit) (c : Commit) → IsInNeed group entry old full history → GoesOn entry old history → new ≡ appended old c.entry.rows → c.epoch ≡ old.room.sealed + 1 → full ≡ false
    → (old.room.waiting ≡ 0 → entry.room.sealed < old.room.sealed → HadNeed entry.room.region_len group history old.room.sealed c) → IsInNeed group entry new full (history ++ c ∷ [])

-- as a full group was sealed, it ends so
abbrev pub NeedEnds : Type 0
NeedEnds =
    (group : ℕ) (entry old new : RoomValue) (full : Bool) (history : List Commit) → GoesOn entry old history → group ≤ old.room.waiting → IsSealed old.room new.room → EndsInNeed group entry new full history
