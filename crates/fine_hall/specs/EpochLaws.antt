-- Laws of the epochs of a hall's history, each the contract of a function.
use Rattle.std.specs.Prelude.{◌≡◌, ◌⊎◌, ℕ, ◌+◌, ◌<◌, ◌≤◌, List, [], ◌∷◌, ◌++◌, Option, All}
use Rattle.fine_model.specs.declared.NodeId.{NodeId}
use Rattle.fine_model.specs.declared.law.Origin.{Origin}
use Rattle.fine_model.specs.declared.law.RoomState.{RoomState}
use Rattle.fine_model.specs.Buckets.{IsBucketFor, IsUpTo}
use Rattle.fine_model.specs.History.{Commit, upto}
use Rattle.fine_model.specs.Nodes.{Content}
use Rattle.fine_places.specs.declared.model.Placed.{Placed}
use Rattle.fine_hall.specs.declared.turn.Turn.{Turn}
use Rattle.fine_hall.specs.declared.law.Beginning.{Beginning}
use Rattle.fine_hall.specs.Turns.{RoomsGoOn, commits}
use Rattle.fine_hall.specs.Laws.{CountsEpochs}

-- ---- what a room counts of its history

-- a commit of the open epoch waits
abbrev pub CountsMore : Type 0
CountsMore =
    (x : Beginning) (room room' : RoomState) (history : List Commit) (c : Commit) → CountsEpochs x room history → c.epoch ≡ room.sealed + 1 → room'.sealed ≡ room.sealed → room'.waiting ≡ room.waiting + 1
    → CountsEpochs x room' (history ++ c ∷ [])

-- the open epoch was sealed, in which some commit waited
abbrev pub CountsSealed : Type 0
CountsSealed = (x : Beginning) (room room' : RoomState) (history : List Commit) → CountsEpochs x room history → 0 < room.waiting → room'.sealed ≡ room.sealed + 1 → room'.waiting ≡ 0 → CountsEpochs x room' history

-- what is sealed and what waits stayed
abbrev pub CountsStay : Type 0
CountsStay = (x : Beginning) (room room' : RoomState) (history : List Commit) → CountsEpochs x room history → room'.sealed ≡ room.sealed → room'.waiting ≡ room.waiting → CountsEpochs x room' history

-- where none waits, all of the history is sealed
abbrev pub CountsAll : Type 0
CountsAll = (x : Beginning) (room : RoomState) (history : List Commit) → CountsEpochs x room history → room.waiting ≡ 0 → upto history room.sealed ≡ history

-- ---- no epoch of the history was sealed as it began

-- no epoch of the history was sealed as the hall began, and what follows for nodes and buckets
abbrev pub EpochsLater : Type 0
EpochsLater = (before : RoomState) (turns : List (Placed Turn)) → RoomsGoOn before turns → All (λ c. before.sealed < c.epoch) (commits turns)

-- So a node that has no row above that epoch has none, and none above any other.
abbrev pub NodesLater : Type 0
NodesLater =
    (before : RoomState) (turns : List (Placed Turn)) (id : NodeId) (low published : ℕ) → RoomsGoOn before turns → (low ≤ published) ⊎ (low ≤ before.sealed) → IsUpTo low id (commits turns) → IsUpTo published id (commits turns)

-- A bucket whose absent nodes have no row above the greater of the published epoch and that one stands while the epoch is published.
abbrev pub BucketsLater : {B : Type 0} → (B → ℕ) → (B → ℕ → Option (Content × ℕ)) → (B → Type 0) → Type 0
BucketsLater bucket cached is_settled =
    (log : Origin) (before : RoomState) (turns : List (Placed Turn)) (k low published : ℕ) (b : _) → RoomsGoOn before turns → (low ≤ published) ⊎ (low ≤ before.sealed)
    → IsBucketFor bucket cached is_settled log k low b (commits turns) → IsBucketFor bucket cached is_settled log k published b (commits turns)
