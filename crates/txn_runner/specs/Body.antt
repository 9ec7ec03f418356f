-- The body of a run on one thread, between transactions.
use Rattle.std.specs.Prelude.{◌≡◌, ℕ, Bool, true, List, Option, None}
use Rattle.fine_model.specs.declared.Options.{Options}
use Rattle.fine_model.specs.declared.Outcome.{Outcome}
use Rattle.fine_model.specs.declared.RunFault.{RunFault}
use Rattle.fine_model.specs.declared.ScriptTxn.{ScriptTxn}
use Rattle.fine_model.specs.declared.law.RoomState.{RoomState}
use Rattle.fine_model.specs.Becomes.{IsStuck}
use Rattle.fine_model.specs.History.{Commit}
use Rattle.partition_hold.specs.Views.{ViewValue}
use Rattle.epoch_room.specs.Meaning.{origin_of}
use Rattle.epoch_room.specs.Value.{RoomValue}
use Rattle.room_shelf.specs.Shelves.{IsShelf, ShelfValue, shelf, total}
use Rattle.open_txn.specs.Buckets.{BucketsValue, StandAll}
use Rattle.run_laws.specs.Needs.{HasNoRegion}
use Rattle.run_laws.specs.Runs.{OfSound}
use Rattle.run_laws.specs.SoFar.{AreFewSoFar, AreTold, GoesOn, Serial, SoFar}

-- the room, the view that is out for loading, the flag that the log is stuck, and how each lane ended
pub record RunnerValue : Type 0 where
  pub room : RoomValue
  pub view : Option ViewValue
  pub full : Bool
  pub ended : List (Option RunFault)

-- with the buckets
pub record Body : Type 0 where
  pub room : RoomValue
  pub view : Option ViewValue
  pub buckets : BucketsValue
  pub full : Bool
  pub ended : List (Option RunFault)

abbrev pub body : RunnerValue → BucketsValue → Body
body r buckets = record { room = r.room; view = r.view; buckets = buckets; full = r.full; ended = r.ended }

-- the room with its view
abbrev pub shelf_of : Body → ShelfValue
shelf_of b = shelf b.room b.view

-- the count of all faults
abbrev pub count_of : Body → ℕ
count_of b = total (shelf_of b)

-- with the outcomes
abbrev pub serial : Body → List Outcome → Serial BucketsValue
serial b outcomes = record { room = b.room; view = b.view; buckets = b.buckets; full = b.full; ended = b.ended; outcomes = outcomes }

-- what holds after some transactions
abbrev pub RunsSoFar : List ScriptTxn → Options → ℕ → RoomValue → Body → List Outcome → Type 0
RunsSoFar script options i entry b outcomes = SoFar StandAll script options i entry (serial b outcomes)

-- nothing is out but the view, and no merge is
abbrev pub IsHeld : RoomState → Option ViewValue → Type 0
IsHeld room view = IsShelf room view × (room.job ≡ None)

-- the room goes on with a history, the flag is true, and nothing is out but the view
pub record Goes (entry : RoomValue) (b : Body) (history : List Commit) : Type 0 where
  pub room : GoesOn entry b.room history
  pub no_region : b.full ≡ true → HasNoRegion b.room.room
  pub stuck : b.full ≡ true → OfSound entry (λ first e. IsStuck b.room.room)
  pub view : IsShelf b.room.room b.view

-- the buckets stand for it, up to what is sealed
abbrev pub Stand : RoomValue → Body → List Commit → Type 0
Stand entry b history = StandAll (origin_of entry.entry) b.room.room.sealed b.buckets history

-- besides, few entries wait, and what failed is told
pub record IsGoing (group : ℕ) (entry : RoomValue) (b : Body) (history : List Commit) : Type 0 where
  pub goes : Goes entry b history
  pub few : AreFewSoFar group b.room.room.sealed b.ended history
  pub told : AreTold entry b.room (count_of b) b.ended b.ended

-- all that a transaction finds
pub record IsBetween (group : ℕ) (entry : RoomValue) (b : Body) (history : List Commit) : Type 0 where
  pub going : IsGoing group entry b history
  pub stand : Stand entry b history
