-- Laws of passes and turns that a hall's user needs, each the contract of a function.
use Rattle.std.specs.Prelude.{◌≡◌, ◌≢◌, ℕ, ◌+◌, ◌-◌, ◌≤◌, Bool, List, ◌∷◌, ◌++◌, length, Option, None, MatchBool}
use mathlib.Core.Option.{some}
use lib.ListN.{get_elem?}
use Rattle.atomic_table.specs.Seated.{TableId}
use Rattle.fine_model.specs.declared.Entry.{Entry}
use Rattle.fine_model.specs.declared.Row.{Row}
use Rattle.fine_model.specs.declared.Node.TheVariants as node
use Rattle.fine_model.specs.Buckets.{Began, IsBucketFor, node_id}
use Rattle.fine_model.specs.History.{all_rows}
use Rattle.fine_model.specs.Nodes.{Content, content}
use Rattle.fine_model.specs.Views.{TellsRows, counting}
use Rattle.fine_model.specs.declared.law.RoomState.{RoomState}
use Rattle.fine_model.specs.declared.law.ViewState.{ViewState}
use Rattle.fine_model.specs.Becomes.{Becomes, IsStuck, StaysStuck}
use Rattle.fine_model.specs.Jobs.{KeepsJob}
use Rattle.fine_places.specs.declared.model.Placed.{Placed}
use Rattle.fine_places.specs.History as places
use Rattle.fine_boxes.specs.declared.model.TurnNote.{TurnNote}
use Rattle.fine_hall.specs.declared.turn.Turn.{Turn}
use Rattle.fine_hall.specs.declared.law.Beginning.{Beginning}
use Rattle.fine_hall.specs.declared.pass.Pass.{Pass}
use Rattle.fine_hall.specs.Turns.{RoomsGoOn, added, room_after}
use Rattle.fine_hall.specs.Laws.{AreTurns}
use Rattle.fine_hall.specs.Passes.{known, reads, turns, last_room, front_of, troubles, published, seen, mine, HasPlace, IsHolder, IsPass, HoldsNothing, LacksJob}
use Rattle.fine_hall.specs.Halls.{SeesMore, KeepsPlaces, KeepsViews, Takes, Gives, GivesRoom, Posts, Refreshes, FindsStale, Publishes, Reads, UsedFront, IsAhead, AreAll}
use Rattle.fine_hall.specs.Opening.{HandedOut}

module _ {V : Type 0} (view : V → ViewState) where
  -- a pass goes on once its front was read through
  abbrev pub FrontLaw : Type 0
  FrontLaw = (z : TableId) (x : Beginning) (p p' : Pass V) → IsPass view z x p → UsedFront view p p' → IsPass view z x p'

  -- All that it knows is as it was, and so are its front but for the count, and its turn. Where the front was ahead, it still is.
  pub record StaysUsed (x : Beginning) (p p' : Pass V) : Type 0 where
    pub same_known : known p' ≡ known p
    pub same_reads : reads p' ≡ reads p
    pub same_number : p'.number ≡ p.number
    pub same_buffers : (p'.buffer ≡ p.buffer) × (p'.backs ≡ p.backs)
    pub front : front_of view p' ≡ counting (front_of view p) (front_of view p').faults
    pub no_lower : (front_of view p).faults ≤ (front_of view p').faults
    pub sees : SeesMore p p'
    pub ahead : IsAhead view x p → IsAhead view x p'
    pub holder : (t : TurnNote) → IsHolder x p t → IsHolder x p' t

  abbrev pub UsedStays : Type 0
  UsedStays = (x : Beginning) (p p' : Pass V) → UsedFront view p p' → StaysUsed x p p'

  -- several reads through the front, or none, are as one
  abbrev pub UsedItself : Type 0
  UsedItself = (z : TableId) (x : Beginning) (p : Pass V) → IsPass view z x p → UsedFront view p p

  abbrev pub UsedOn : Type 0
  UsedOn = (p q r : Pass V) → UsedFront view p q → UsedFront view q r → UsedFront view p r

-- the room at the end became what it is from the room of each turn
abbrev pub SinceLaw : Type 0
SinceLaw = (before : RoomState) (turns more : List (Placed Turn)) → RoomsGoOn before (turns ++ more) → Becomes (room_after before turns) (room_after before (turns ++ more))

abbrev pub SinceTurn : Type 0
SinceTurn = (before : RoomState) (turns : List (Placed Turn)) (t : Placed Turn) (more : List (Placed Turn)) → RoomsGoOn before (turns ++ t ∷ more) → Becomes t.item.room (room_after before (turns ++ t ∷ more))

-- what a pass knows of the room and the history once it gave the room back
pub record KnowsTurn {V : Type 0} (x : Beginning) (room : RoomState) (entry : Option Entry) (epoch : ℕ) (p p' : Pass V) : Type 0 where
  pub last : last_room x p' ≡ room
  pub seen_more : seen p' ≡ seen p ++ added entry epoch
  pub mine_more : mine p' ≡ mine p ++ added entry epoch

abbrev pub GivesLaw : Type 0 → Type 0
GivesLaw V = (x : Beginning) (room : RoomState) (entry : Option Entry) (epoch : ℕ) (t : TurnNote) (p p' : Pass V) → GivesRoom room entry epoch t p p' → KnowsTurn x room entry epoch p p'

-- a room that was stuck in some turn is stuck at the end
abbrev pub StuckLaw : Type 0
StuckLaw = (before : RoomState) (turns more : List (Placed Turn)) → RoomsGoOn before (turns ++ more) → IsStuck (room_after before turns) → IsStuck (room_after before (turns ++ more))

-- a room that was stuck within a turn, and became what was given back at its end, is stuck at the end
abbrev pub StuckWithin : Type 0
StuckWithin = (before room : RoomState) (turns : List (Placed Turn)) (t : Placed Turn) (more : List (Placed Turn)) → RoomsGoOn before (turns ++ t ∷ more) → IsStuck room → Becomes room t.item.room
    → StaysStuck room (room_after before (turns ++ t ∷ more))

-- ---- the passes of a new hall

module _ {V : Type 0} (view : V → ViewState) where
  -- the passes that a new hall hands out have all numbers, each once
  abbrev pub HandedLaw : Type 0
  HandedLaw = (z : TableId) (x : Beginning) (fronts : List V) (passes : List (Pass V)) → length passes ≡ x.seats → HandedOut view z x fronts passes → AreAll x.seats passes

  -- and hold nothing, and have no job out, where none is out at the beginning
  abbrev pub HandedIdle : Type 0
  HandedIdle = (z : TableId) (x : Beginning) (fronts : List V) (passes : List (Pass V)) → x.room.job ≡ None → HandedOut view z x fronts passes → (i : ℕ) (p : Pass V) → get_elem? passes i ≡ some p
      → IsPass view z x p × HoldsNothing p × LacksJob x p

-- ---- what a call does to the troubles of a pass

module _ {V : Type 0} (view : V → ViewState) (x : Beginning) where
  -- No call of the hall but the end of a turn changes them: a refresh moves the count of the old front to what was given up.
  pub record SameTroubles (p p' : Pass V) : Type 0 where
    pub takes : (k : ℕ) → Takes k p p' → troubles view x p' ≡ troubles view x p
    pub stays : KeepsPlaces p p' → KeepsViews p p' → troubles view x p' ≡ troubles view x p
    pub sees : SeesMore p p' → KeepsViews p p' → troubles view x p' ≡ troubles view x p
    pub turns_stay : turns p' ≡ turns p → KeepsViews p p' → troubles view x p' ≡ troubles view x p
    pub gives : (k : ℕ) → Gives k p p' → troubles view x p' ≡ troubles view x p
    pub reads : Reads p p' → troubles view x p' ≡ troubles view x p
    pub looks : (b : Bool) → MatchBool b (Refreshes view x p p') (FindsStale p p') → troubles view x p' ≡ troubles view x p
    pub posts : (seat : ℕ) (t : TurnNote) (new old : ViewState) → Posts x seat t new old p p' → troubles view x p' ≡ troubles view x p
    pub publishes : (epoch : ℕ) → Publishes epoch p p' → troubles view x p' ≡ troubles view x p

  -- At the end of a turn they rise by what the count of the room rose beyond the counts in the turn's hand, and as the front is read
  -- through by what its count rose.
  pub record TroublesLaw : Type 0 where
    pub same : (p p' : Pass V) → p'.number ≡ p.number → SameTroubles p p'
    pub turn : (room : RoomState) (entry : Option Entry) (epoch : ℕ) (t : TurnNote) (p p' : Pass V) → p'.number ≡ p.number → GivesRoom room entry epoch t p p'
        → troubles view x p' ≡ troubles view x p + (room.faults - ((last_room x p).faults + t.in_hand))
    pub front : (p p' : Pass V) → UsedFront view p p' → troubles view x p' + (front_of view p).faults ≡ troubles view x p + (front_of view p').faults

-- ---- how a pass goes on that sees more

module _ {V : Type 0} (view : V → ViewState) where
  -- The merge job is left by turns of others, and a look sees more, whatever it finds. A pass that sees more twice, and between holds all
  -- that it held, sees more.
  pub record SeesLaw : Type 0 where
    pub job : (x : Beginning) (p p' : Pass V) → AreTurns x (turns p') → p.number ≡ 1 → SeesMore p p' → KeepsJob (last_room x p) (last_room x p')
    pub look : (b : Bool) (x : Beginning) (p p' : Pass V) → MatchBool b (Refreshes view x p p') (FindsStale p p') → SeesMore p p' × ((known p').held ≡ (known p).held)
    pub itself : (p : Pass V) → SeesMore p p
    pub on : (p q r : Pass V) → q.number ≡ p.number → ((k : ℕ) → k ≤ places.room → HasPlace p k → HasPlace q k) → SeesMore p q → SeesMore q r → SeesMore p r

-- ---- what a front leaves in the nodes that a bucket does not cache

-- A node that is absent from a bucket has no row above the published epoch. So a front that shows the history up to that epoch or a later
-- one tells rows that leave in each such node what the whole history leaves in it, unless that is broken.
abbrev pub LoadLaw : {B V : Type 0} → (B → ℕ) → (B → ℕ → Option (Content × ℕ)) → (B → Type 0) → (V → ViewState) → Type 0
LoadLaw bucket cached is_settled view =
    (z : TableId) (x : Beginning) (p : Pass _) (b : _) (k : ℕ) → IsPass view z x p → IsAhead view x p → IsBucketFor bucket cached is_settled x.log k (published p) b (seen p)
    → (e : ℕ) (first : List Row) → Began x.log e first
    → (rows : List Row) × TellsRows (front_of view p) rows
    × ((n : ℕ) → cached b n ≡ None → (content (first ++ all_rows (seen p)) (node_id k n)).0 ≢ node.Broken → content rows (node_id k n) ≡ content (first ++ all_rows (seen p)) (node_id k n))
