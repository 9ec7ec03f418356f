-- A lane on a thread of its own, between two transactions.
use Rattle.std.specs.Prelude.{◌≡◌, ◌≢◌, ◌⊎◌, ℕ, ◌+◌, ◌<◌, ◌≤◌, ◌==◌, Bool, true, false, List, [], ◌++◌, length, take, filter, count_by, slice_get, Some, option_map, unwrap_or, Ok, Err, Contains}
use Rattle.std.specs.List.{AllByRecursion, range_with_len}
use Rattle.fine_model.specs.declared.Call.{Call}
use Rattle.fine_model.specs.declared.Ending.TheVariants as ending
use Rattle.fine_model.specs.declared.Damage.{Damage}
use Rattle.fine_model.specs.declared.Outcome.{Outcome}
use Rattle.fine_model.specs.declared.Outcome.TheVariants as outcome
use Rattle.fine_model.specs.declared.Row.{Row}
use Rattle.fine_model.specs.declared.RunFault.{RunFault}
use Rattle.fine_model.specs.declared.RunFault.TheVariants as run_fault
use Rattle.fine_model.specs.declared.ScriptTxn.{ScriptTxn}
use Rattle.fine_model.specs.declared.Why.{Why}
use Rattle.fine_model.specs.declared.Why.TheVariants as why
use Rattle.fine_model.specs.declared.law.RoomState.{RoomState}
use Rattle.fine_model.specs.Becomes.{IsStuck}
use Rattle.fine_model.specs.Buckets.{Began}
use Rattle.fine_model.specs.Causes.{IsFirstFull, IsRefusedInNeed, used_in}
use Rattle.fine_model.specs.Damages.{IsPlaceOrNode}
use Rattle.fine_model.specs.Faults.{last_count}
use Rattle.fine_model.specs.History.{Commit, all_rows}
use Rattle.fine_model.specs.Merge.{cost}
use Rattle.fine_model.specs.Outcomes.{AtMostEach, IsCommittedAt}
use Rattle.fine_model.specs.Pushed.{all_pushed}
use Rattle.fine_model.specs.RowBytes.{greatest, short_header}
use Rattle.node_cache.specs.Cache.{Cache}
use Rattle.partition_hold.specs.Views.{ViewValue, state_of}
use Rattle.epoch_room.specs.Value.{RoomValue}
use Rattle.fine_places.specs.declared.model.Placed.{Placed}
use Rattle.fine_hall.specs.declared.law.Beginning.{Beginning}
use Rattle.fine_hall.specs.declared.turn.Turn.{Turn}
use Rattle.fine_hall.specs.Laws.{CountsEpochs}
use Rattle.fine_hall.specs.Passes.{turns, seen, mine, troubles, last_room}
use Rattle.fine_hall.specs.Halls.{HallOf}
use Rattle.hall_rooms.specs.Rooms.{IsIdle, RoomPass, beginning_of}
use Rattle.hall_rooms.specs.Turning.{NotBegan}
use Rattle.run_laws.specs.Needs.{AreSealedInNeed}
use Rattle.run_laws.specs.Runs.{IsReplied}
use Rattle.lane_laws.specs.Placing.{placed_by}
use Rattle.lane_laws.specs.Quiet.{OpenOf, QuietBut}
use Rattle.lane_laws.specs.Works.{HasDone, Work, placed_of}

-- what a lane has beside its pass: its number, and its work
pub record LaneValue : Type 0 where
  pub lane : ℕ
  pub work : Work

-- a lane goes on, as no fault ended it
abbrev pub GoesOn : LaneValue → Type 0
GoesOn w = w.work.left ≡ []

-- a fault ended it
abbrev pub EndedBy : RunFault → LaneValue → Type 0
EndedBy fault w = Contains w.work.left fault

-- the places of a lane's transactions in the script
abbrev pub lane_at : List ScriptTxn → ℕ → ℕ
lane_at script i = unwrap_or (option_map (λ txn. txn.lane) (slice_get script i)) 0

unfoldable pub places_in : List ScriptTxn → ℕ → List ℕ
places_in script lane = filter (λ i. lane_at script i == lane) (range_with_len 0 (length script))

-- P of the rows at entry, where the log was told then and sound
abbrev pub OfBegan : Beginning → (List Row → Type 0) → Type 0
OfBegan x P = (e : ℕ) (first : List Row) → Began x.log e first → P first

-- ---- why it was refused

-- no number is left in a room
abbrev pub IsSpentAt : RoomState → Type 0
IsSpentAt room = (greatest ≤ room.sealed) ⊎ (greatest ≤ room.places)

-- by what its calls push after these rows, or by the room of one of these turns
abbrev pub CauseAt : ℕ → List Row → List (Placed Turn) → List Call → Why → Type 0
CauseAt region_len before turns calls why.Large = (rows : List Row) × (all_pushed before calls ≡ Ok rows) × (region_len < short_header + cost rows)
CauseAt region_len before turns calls why.Bucket = all_pushed before calls ≡ Err why.Bucket
CauseAt region_len before turns calls why.Number = (all_pushed before calls ≡ Err why.Number) ⊎ ((t : Placed Turn) × Contains turns t × IsSpentAt t.item.room)
CauseAt region_len before turns calls why.Full = (t : Placed Turn) × Contains turns t × IsStuck t.item.room

-- The j-th outcome (of `done`) is a refusal after k commits of those that the pass saw, among which are the lane's own before it, and none of its own after it. Where no other seat adds an entry they are
-- just the lane's own before it. `first` are the turns that the pass of the seat 1 saw, where room was sought for this lane.
pub record RefusedAt (x : Beginning) (first : List (Placed Turn)) (p : RoomPass) (done : List Outcome) (j : ℕ) (calls : List Call) (word : Why) : Type 0 where
  pub k : ℕ
  pub within : k ≤ length (seen p)
  pub behind : (m place : ℕ) (c : Commit) → m < j → IsCommittedAt done m place c → place ≤ k
  pub ahead : (m place : ℕ) (c : Commit) → j < m → IsCommittedAt done m place c → k < place
  pub exact : QuietBut p.number x.room (turns p) → k ≡ length (placed_of (take j done))
  pub holds : OfBegan x (λ rows. CauseAt x.room.region_len (rows ++ all_rows (take k (seen p))) (turns p ++ first) calls word)

-- ---- what its outcomes are

-- The outcomes are those of the lane's first transactions, each of which was run. Its commits are those of the pass, each at its place in what this saw, with the replies of some map to its calls. Each
-- refusal has its cause, and after one for a full log nothing more is committed.
pub record HasOutcomes (x : Beginning) (first : List (Placed Turn)) (script : List ScriptTxn) (p : RoomPass) (w : LaneValue) : Type 0 where
  pub at : w.work.at ≡ places_in script w.lane
  pub done : HasDone script (placed_by p.number 0 (turns p)) w.work
  pub replied : AllByRecursion IsReplied (mine p)
  pub refused : (j i : ℕ) (txn : ScriptTxn) (word : Why) → slice_get w.work.at j ≡ Some i → slice_get script i ≡ Some txn → slice_get w.work.done j ≡ Some (outcome.Refused word)
      → RefusedAt x first p w.work.done j txn.calls word
  pub full_last : (j m place : ℕ) (c : Commit) → slice_get w.work.done j ≡ Some (outcome.Refused why.Full) → IsCommittedAt w.work.done m place c → m < j

-- ---- how many entries an epoch has, and why it was sealed

-- no epoch has more own commits than a group, and a lane that goes on has fewer in the one that is open as far as its pass saw
pub record AreFewIn (group : ℕ) (x : Beginning) (p : RoomPass) (w : LaneValue) : Type 0 where
  pub most : AtMostEach group (mine p)
  pub open_epoch : GoesOn w → count_by (λ c. c.epoch == (last_room x p).sealed + 1) (mine p) < group

-- a transaction that is to be committed after a seal: what its calls push fits a region alone, and is more than the last epoch had room for
pub record Owes (txn : ScriptTxn) (x : Beginning) (p : RoomPass) (before : List Row) : Type 0 where
  pub commits : txn.ending ≡ ending.Commit
  pub rows : List Row
  pub pushed : all_pushed (before ++ all_rows (seen p)) txn.calls ≡ Ok rows
  pub alone : short_header + cost rows ≤ x.room.region_len
  pub too_long : x.room.region_len < short_header + used_in (last_room x p).sealed (seen p) + cost rows

-- What epochs were sealed for, where no other seat adds or seals anything: each that another one follows has a group, or the rows of the next entry did not fit it. Where nothing waits, the last one has a
-- group, or P, or no number is left.
pub record InNeed (group : ℕ) (x : Beginning) (p : RoomPass) (P : Type 0) : Type 0 where
  pub each : AreSealedInNeed x.room.region_len group x.room.sealed (seen p)
  pub used : (last_room x p).used ≡ used_in ((last_room x p).sealed + 1) (seen p)
  pub counts : CountsEpochs x (last_room x p) (seen p)
  pub ends : (last_room x p).waiting ≡ 0 → x.room.sealed < (last_room x p).sealed
      → (group ≤ count_by (λ c. c.epoch == (last_room x p).sealed) (seen p)) ⊎ P ⊎ (greatest ≤ (last_room x p).sealed)

-- so it is of the lane's next transaction
pub record OwesNext (script : List ScriptTxn) (x : Beginning) (p : RoomPass) (w : LaneValue) (before : List Row) : Type 0 where
  pub i : ℕ
  pub txn : ScriptTxn
  pub next_at : slice_get w.work.at (length w.work.done) ≡ Some i
  pub is_next : slice_get script i ≡ Some txn
  pub owes : Owes txn x p before

-- some transaction of the lane was refused for a full log
abbrev pub HasFull : LaneValue → Type 0
HasFull w = (j : ℕ) × (slice_get w.work.done j ≡ Some (outcome.Refused why.Full))

-- The last epoch was sealed in need, as long as the lane goes on and none of its transactions was refused for a full log. The first one that was so refused was refused in need.
pub record NeedsSoFar (script : List ScriptTxn) (group : ℕ) (x : Beginning) (p : RoomPass) (w : LaneValue) (before : List Row) : Type 0 where
  pub so_far : InNeed group x p (OwesNext script x p w before ⊎ (GoesOn w → ⊥) ⊎ HasFull w)
  pub full : (j i : ℕ) (txn : ScriptTxn) → IsFirstFull w.work.done j → slice_get w.work.at j ≡ Some i → slice_get script i ≡ Some txn
      → IsRefusedInNeed x.room.region_len group x.room.sealed before (seen p) txn.calls

-- ---- what was met

-- some turn that was seen left the room shut, or its count of faults at its last value
abbrev pub SawShut : RoomPass → Type 0
SawShut p = (t : Placed Turn) × Contains (turns p) t × ((t.item.room.is_shut ≡ true) ⊎ (last_count ≤ t.item.room.faults))

-- Its own calls met no fault, nor did its turns shut the room, or a failed disk or want of memory ended it. What it names as damaged is a place or a node, and comes on a log alone that was not told or is not sound. (Where a count
-- stands at its last value a failed call shows in no count.)
pub record HasMet (x : Beginning) (p : RoomPass) (w : LaneValue) : Type 0 where
  pub clean : (troubles state_of x p ≡ 0) ⊎ EndedBy run_fault.Disk w ⊎ EndedBy run_fault.Memory w
  pub opened : OpenOf p.number x.room (turns p) ⊎ EndedBy run_fault.Disk w ⊎ EndedBy run_fault.Memory w
  pub failed : EndedBy run_fault.Disk w → (0 < troubles state_of x p) ⊎ SawShut p
  pub unsound : (what : Damage) → EndedBy (run_fault.Damaged what) w → NotBegan x × IsPlaceOrNode what
  pub one : length w.work.left ≤ 1

-- ---- all of it

-- what a lane has with its pass, whoever runs it: `first` are the turns that the pass of the seat 1 saw
pub record LaneRuns (x : Beginning) (first : List (Placed Turn)) (script : List ScriptTxn) (group : ℕ) (p : RoomPass) (w : LaneValue) : Type 0 where
  pub has : HasOutcomes x first script p w
  pub few : AreFewIn group x p w
  pub needs : QuietBut p.number x.room (turns p) → OfBegan x (NeedsSoFar script group x p w)

-- While threads run, between two transactions. The result of a worker is the same, with nothing left to do unless the lane has ended or is set aside.
pub record LaneSoFar {Q : Type 0} (hall : HallOf RoomValue Cache ViewValue Q) (script : List ScriptTxn) (group : ℕ) (p : RoomPass) (w : LaneValue) : Type 0 where
  pub idle : IsIdle hall p
  pub seat : p.number ≢ 1
  pub runs : LaneRuns (beginning_of hall) [] script group p w
  pub open runs use *
  pub met : HasMet (beginning_of hall) p w

-- a worker came to its end: its lane was done, or has ended, or is set aside
pub record LaneEnds {Q : Type 0} (hall : HallOf RoomValue Cache ViewValue Q) (script : List ScriptTxn) (group : ℕ) (p : RoomPass) (w : LaneValue) (aside : Bool) : Type 0 where
  pub so_far : LaneSoFar hall script group p w
  pub finished : GoesOn w → aside ≡ false → length w.work.done ≡ length w.work.at
