-- What clauses say of a hall, and how a pass goes on.
use Rattle.std.specs.Prelude.{◌≡◌, ◌≢◌, ◌⊎◌, ℕ, suc, ◌+◌, ◌*◌, ◌-◌, ◌<◌, ◌≤◌, List, [], ◌∷◌, ◌++◌, true, false, Some, None, Option, slice_set, slice_get, replicate, length, map, sum_by, All, IsPermutation, Bool, MatchBool, MatchOption, IfSome}
use Rattle.std.specs.List.{AllByRecursion, filter_map, range_with_len}
use mathlib.Core.Option.{some}
use lib.ListN.{get_elem?}
use Rattle.atomic_table.specs.Seated.{TableId}
use Rattle.fine_model.specs.Views.{counting}
use Rattle.fine_model.specs.declared.Entry.{Entry}
use Rattle.fine_model.specs.declared.Row.{Row}
use Rattle.fine_model.specs.declared.law.Origin.{Origin}
use Rattle.fine_model.specs.Faults.{last_count}
use Rattle.fine_model.specs.History.{Commit, IsLegal, upto}
use Rattle.fine_model.specs.Nodes.{Content}
use Rattle.fine_model.specs.declared.law.RoomState.{RoomState}
use Rattle.fine_model.specs.declared.law.ViewState.{ViewState}
use Rattle.fine_model.specs.declared.law.OpenedEye.{OpenedEye}
use Rattle.fine_model.specs.Becomes.{Becomes}
use Rattle.fine_model.specs.Buckets.{Began}
use Rattle.fine_model.specs.Jobs.{KeepsJob}
use Rattle.fine_places.specs.declared.model.Placed.{Placed}
use Rattle.fine_places.specs.declared.model.Found.{Found}
use Rattle.fine_places.specs.History as places
use Rattle.fine_places.specs.History.{by_seat}
use Rattle.fine_boxes.specs.declared.model.TurnNote.{TurnNote}
use Rattle.fine_boxes.specs.declared.model.Mark.{Mark}
use Rattle.fine_boxes.specs.Telling.{posting}
use Rattle.fine_hall.specs.declared.turn.Turn.{Turn}
use Rattle.fine_hall.specs.declared.law.Beginning.{Beginning}
use Rattle.fine_hall.specs.declared.law.Load.{Load}
use Rattle.fine_hall.specs.declared.law.Start.{Start}
use Rattle.fine_hall.specs.declared.pass.Pass.{Pass}
use Rattle.fine_hall.specs.declared.hall.HallTable.{HallTable}
use Rattle.fine_hall.specs.Turns.{added, commits, in_bucket, is_in, places_more}
use Rattle.fine_hall.specs.Laws.{beginning, AreTurns, CountsEpochs, IsRoomFor, IsViewFor}
use Rattle.fine_hall.specs.Passes.{turns, own_turns, seen, known, reads, published, found_held, last_room, given_up, looks, marks, front_of, troubles, HasPlace, HoldsNothing, IsHolder, IsPass}

-- how a hall began, by what it was told once
abbrev pub begun_by : {R V : Type 0} → (R → RoomState) → (R → Origin) → (V → ViewState) → Start R V → Beginning
begun_by state origin view key = beginning key.seats (origin key.room.value) (state key.room.value) view key.fronts.value.items

abbrev pub HallOf : Type 0 → Type 0 → Type 0 → Type 0 → Type 0
HallOf R B V Q = HallTable (Option (Load R B V)) (Start R V) Q

module _ {R B V Q : Type 0} (state : R → RoomState) (origin : R → Origin) (view : V → ViewState) where
  -- how the hall began
  abbrev pub begun : HallOf R B V Q → Beginning
  begun h = beginning h.table.shared.key.seats (origin h.table.shared.key.room.value) (state h.table.shared.key.room.value) view h.table.shared.key.fronts.value.items

  abbrev pub IsPassOf : HallOf R B V Q → Pass V → Type 0
  IsPassOf h p = IsPass view h.table.shared.table_id (begun h) p

abbrev pub turn_of : Option Entry → ℕ → RoomState → ℕ → Turn
turn_of entry epoch room returned = record { entry = entry; epoch = epoch; room = room; returned = returned }

module _ {V : Type 0} where
  -- ---- seeing

  -- The pass saw the turns so far, of which none behind those that it saw is its own, and no earlier published number; what is in each
  -- bucket that it holds stayed. While it holds the room there are no further turns.
  pub record SeesMore (p p' : Pass V) : Type 0 where
    pub longer : (more : List (Placed Turn)) × (turns p' ≡ turns p ++ more) × (by_seat p.number more ≡ [])
    pub same_own : own_turns p' ≡ own_turns p
    pub kept : (j : ℕ) → j < places.room → HasPlace p j → in_bucket j (seen p) ≡ in_bucket j (seen p')
    pub whole : HasPlace p places.room → turns p' ≡ turns p
    pub no_earlier : published p ≤ published p'

  -- what the pass knows of its views, and its front, is as it was
  pub record KeepsViews (p p' : Pass V) : Type 0 where
    pub reads : reads p' ≡ reads p
    pub front : (p'.front ≡ p.front) × (p'.buffer ≡ p.buffer)
    pub backs : p'.backs ≡ p.backs

  -- what the pass saw and holds is as it was
  pub record KeepsPlaces (p p' : Pass V) : Type 0 where
    pub same_held : (known p').held ≡ (known p).held
    pub same_turns : turns p' ≡ turns p
    pub same_own : own_turns p' ≡ own_turns p
    pub same_published : published p' ≡ published p

  -- what the pass saw, the buckets that it found held, and its views are as they were
  pub record KeepsTurns (p p' : Pass V) : Type 0 where
    pub same_turns : turns p' ≡ turns p
    pub same_own : own_turns p' ≡ own_turns p
    pub found : found_held p' ≡ found_held p
    pub views : KeepsViews p p'

  -- ---- taking

  pub record Takes (k : ℕ) (p p' : Pass V) : Type 0 where
    pub held : (known p').held ≡ slice_set (known p).held k true
    pub sees : SeesMore p p'
    pub tried : (more : List Found) × (found_held p' ≡ found_held p ++ more) × (k < places.room → more ≡ [])
    pub front : (p'.front ≡ p.front) × (p'.buffer ≡ p.buffer)
    pub notes : (reads p').notes ≡ (reads p).notes
    pub turn : k < places.room → ((reads p').turn ≡ (reads p).turn) × (p'.backs ≡ p.backs)

  -- another seat of the hall was found to hold the bucket, by the one try of this call
  pub record FindsHeld (x : Beginning) (bucket owner : ℕ) (p p' : Pass V) : Type 0 where
    pub tried : found_held p' ≡ found_held p ++ record { place = bucket; owner = owner } ∷ []
    pub somebody : 0 < owner
    pub another : owner ≢ p.number
    pub seat : owner ≤ x.seats
    pub places : KeepsPlaces p p'
    pub views : KeepsViews p p'

  -- other seats were found to hold the room, and nothing else changed
  pub record Waits (p p' : Pass V) : Type 0 where
    pub tried : (more : List Found) × (found_held p' ≡ found_held p ++ more)
    pub places : KeepsPlaces p p'
    pub views : KeepsViews p p'

  -- the room was taken: the turn begins with its board and its sealed epoch, and the board names the front
  pub record TakesRoom (view : V → ViewState) (x : Beginning) (room : RoomState) (p p' : Pass V) : Type 0 where
    pub takes : Takes places.room p p'
    pub turn : TurnNote
    pub is_turn : IsHolder x p' turn
    pub board : turn.board ≡ room.board
    pub top : turn.top ≡ room.sealed
    pub none_posted : turn.posted ≡ replicate (length turn.backs) 0
    pub none_in_hand : turn.in_hand ≡ 0
    pub on_board : slice_get room.board (3 * (p.number - 1) + p.buffer) ≡ Some (Some (front_of view p).eye)
    pub front_sealed : (front_of view p).upto ≤ room.sealed
    pub same_job : p.number ≡ 1 → KeepsJob (last_room x p) room

  -- ---- giving back

  pub record Gives (k : ℕ) (p p' : Pass V) : Type 0 where
    pub held : (known p').held ≡ slice_set (known p).held k false
    pub same_published : published p' ≡ published p
    pub keeps : KeepsTurns p p'
    pub open keeps use *

  -- The room was given back: the history grew by a turn, which is the pass's own.
  pub record GivesRoom (room : RoomState) (entry : Option Entry) (epoch : ℕ) (t : TurnNote) (p p' : Pass V) : Type 0 where
    pub held : (known p').held ≡ slice_set (known p).held places.room false
    pub turns_more : turns p' ≡ turns p ++ record { seat = p.number; item = turn_of entry epoch room t.in_hand } ∷ []
    pub own_more : own_turns p' ≡ own_turns p ++ record { seat = p.number; item = turn_of entry epoch room t.in_hand } ∷ []
    pub same_published : published p' ≡ published p
    pub found : found_held p' ≡ found_held p
    pub front : (p'.front ≡ p.front) × (p'.buffer ≡ p.buffer)
    pub notes : (reads p').notes ≡ (reads p).notes

  pub record MayCommit (x : Beginning) (room : RoomState) (entry : Entry) (epoch : ℕ) (p : Pass V) : Type 0 where
    pub open_epoch : epoch ≡ room.sealed + 1
    pub legal : (e : ℕ) (first : List Row) → Began x.log e first → IsLegal first (seen p ++ added (Some entry) epoch)
    pub touched : (k : ℕ) → k < places.room → is_in k entry ≡ true → HasPlace p k

  abbrev pub MayGive : Beginning → RoomState → Option Entry → ℕ → Pass V → Type 0
  MayGive x room None epoch p = Unit {0}
  MayGive x room (Some entry) epoch p = MayCommit x room entry epoch p

  -- What is owed of the room: it became this from what it was as it was taken, stands for the history with the entry, and has the board
  -- that the turn records.
  pub record MayGiveRoom {R : Type 0} (state : R → RoomState) (origin : R → Origin) (stands_for : R → List Row → ℕ → List Commit → Type 0)
      (x : Beginning) (room : R) (entry : Option Entry) (epoch : ℕ) (t : TurnNote) (p : Pass V) : Type 0 where
    pub log : origin room ≡ x.log
    pub stands : (e : ℕ) (first : List Row) → Began x.log e first → stands_for room first e (seen p ++ added entry epoch)
    pub becomes : Becomes (last_room x p) (state room)
    pub places : (state room).places ≡ places_more (last_room x p).places entry
    pub epochs : CountsEpochs x (state room) (seen p ++ added entry epoch)
    pub top : t.top ≤ (state room).sealed
    pub board : (state room).board ≡ t.board
    pub job : p.number ≢ 1 → KeepsJob (last_room x p) (state room)
    pub counted : ((last_room x p).faults + t.in_hand ≤ (state room).faults) ⊎ (last_count ≤ (state room).faults)
    pub commits : MayGive x (state room) entry epoch p

  -- ---- views

  -- a view may be posted to a seat: it is for the buffer that the board leaves empty, shows the whole history up to an epoch that is
  -- not below the sealed one nor any posted one, and its eye met no fault
  pub record MayPost (x : Beginning) (seat : ℕ) (t : TurnNote) (p : Pass V) (new : ViewState) : Type 0 where
    pub seat_is : new.seat ≡ seat
    pub empty : slice_get t.board (3 * (seat - 1) + new.buffer) ≡ Some None
    pub within : new.buffer < 3
    pub shows : IsViewFor x (seen p) new
    pub clean : new.faults ≡ 0
    pub later : t.top ≤ new.upto

  -- a view was posted, and the old middle came back, which the board named
  pub record Posts (x : Beginning) (seat : ℕ) (t : TurnNote) (new old : ViewState) (p p' : Pass V) : Type 0 where
    pub places : KeepsPlaces p p'
    pub found : found_held p' ≡ found_held p
    pub front : (p'.front ≡ p.front) × (p'.buffer ≡ p.buffer)
    pub notes : (reads p').notes ≡ (reads p).notes
    pub is_turn : IsHolder x p' (posting t (seat - 1) new.buffer new old)
    pub old_seat : old.seat ≡ seat
    pub on_board : slice_get t.board (3 * (seat - 1) + old.buffer) ≡ Some (Some old.eye)
    pub within : old.buffer < 3
    pub apart : old.buffer ≢ new.buffer

  -- The front shows the history so far up to an epoch that is not below the published one.
  pub record IsAhead (view : V → ViewState) (x : Beginning) (p : Pass V) : Type 0 where
    pub shows : IsViewFor x (seen p) (front_of view p)
    pub reaches : published p ≤ (front_of view p).upto

  -- in a turn of the pass the board names its front, which shows no epoch above the sealed one and all that were posted in the turn
  abbrev pub NamesFront : (V → ViewState) → Beginning → Pass V → Pass V → Type 0
  NamesFront view x p p' = (t : TurnNote) → HasPlace p places.room → IsHolder x p t → (slice_get t.board (3 * (p.number - 1) + p'.buffer) ≡ Some (Some (front_of view p').eye)) × ((front_of view p').upto ≤ t.top)

  -- the pass looked at its mailbox, found it fresh, and has a new front, and the old one was given up
  pub record Refreshes (view : V → ViewState) (x : Beginning) (p p' : Pass V) : Type 0 where
    pub sees : SeesMore p p'
    pub same_held : (known p').held ≡ (known p).held
    pub found : found_held p' ≡ found_held p
    pub later : (front_of view p).upto ≤ (front_of view p').upto
    pub clean : (front_of view p').faults ≡ 0
    pub given_more : given_up p' ≡ given_up p + (front_of view p).faults
    pub marked : marks p' ≡ record { upto = (front_of view p').upto; seen = turns p' } ∷ marks p
    pub looked : looks p' ≡ looks p ++ true ∷ []
    pub turn : ((reads p').turn ≡ (reads p).turn) × (p'.backs ≡ p.backs)

  -- The one look at the mailbox found it not fresh, and nothing of the views changed.
  pub record FindsStale (p p' : Pass V) : Type 0 where
    pub sees : SeesMore p p'
    pub same_held : (known p').held ≡ (known p).held
    pub found : found_held p' ≡ found_held p
    pub looked : looks p' ≡ looks p ++ false ∷ []
    pub same_marks : (marks p' ≡ marks p) × (given_up p' ≡ given_up p)
    pub turn : ((reads p').turn ≡ (reads p).turn) × (p'.backs ≡ p.backs)
    pub front : (p'.front ≡ p.front) × (p'.buffer ≡ p.buffer)

  -- ---- the published number

  pub record Publishes (epoch : ℕ) (p p' : Pass V) : Type 0 where
    pub same_held : (known p').held ≡ (known p).held
    pub now : published p' ≡ epoch
    pub keeps : KeepsTurns p p'
    pub open keeps use *

  -- the published number was read
  pub record Reads (p p' : Pass V) : Type 0 where
    pub sees : SeesMore p p'
    pub same_held : (known p').held ≡ (known p).held
    pub found : found_held p' ≡ found_held p
    pub views : KeepsViews p p'

-- ---- one try to take the room

-- The room was taken, and is as it was given back last, or another seat holds it; the pass is one of the hall still.
pub record TriesToTakeRoom {R V : Type 0} (state : R → RoomState) (origin : R → Origin) (stands_for : R → List Row → ℕ → List Commit → Type 0) (view : V → ViewState) (z : TableId) (x : Beginning) (p p' : Pass V) (found : Option R) : Type 0 where
  pub pass : IsPass view z x p' × (p'.number ≡ p.number)
  pub takes : MatchOption found (Waits p p') (λ room. TakesRoom view x (state room) p p')
  pub room : IfSome found (λ room. IsRoomFor state origin stands_for x (published p') room (turns p'))

-- ---- one look at the mailbox

-- The pass looked at its mailbox, and has a new front where that was fresh. It is a pass of the hall still, its front shows the history so far, and
-- in a turn of the pass the board names it.
pub record LooksOnce {V : Type 0} (view : V → ViewState) (z : TableId) (x : Beginning) (p p' : Pass V) (is_fresh : Bool) : Type 0 where
  pub pass : IsPass view z x p' × (p'.number ≡ p.number)
  pub answer : MatchBool is_fresh (Refreshes view x p p') (FindsStale p p')
  pub ahead : IsAhead view x p'
  pub on_board : NamesFront view x p p'

-- ---- the front on loan

-- only the count of faults of the front rose
pub record UsedFront {V : Type 0} (view : V → ViewState) (p p' : Pass V) : Type 0 where
  pub after : V
  pub is : p' ≡ record p { front = Some after }
  pub same : view after ≡ counting (front_of view p) (view after).faults
  pub no_lower : (front_of view p).faults ≤ (view after).faults

-- ---- the beginning

-- the buckets of all numbers, in ascending order, which cache nothing
pub record AreFreshBuckets {B : Type 0} (bucket : B → ℕ) (cached : B → ℕ → Option (Content × ℕ)) (is_settled : B → Type 0) (buckets : List B) : Type 0 where
  pub all : length buckets ≡ 256
  pub empty : (k : ℕ) (b : B) → get_elem? buckets k ≡ some b → (bucket b ≡ k) × is_settled b × ((n : ℕ) → cached b n ≡ None)

-- the board of a room in which each seat has a front in buffer 0 and a middle in buffer 1
abbrev pub first_board : List ViewState → List ViewState → List (Option OpenedEye)
first_board (f ∷ fs) (m ∷ ms) = Some f.eye ∷ Some m.eye ∷ None ∷ first_board fs ms
first_board _ _ = []

pub record IsFreshView (x : Beginning) (seat buffer : ℕ) (v : ViewState) : Type 0 where
  pub place : (v.seat ≡ seat) × (v.buffer ≡ buffer)
  pub upto : v.upto ≡ x.room.sealed
  pub clean : v.faults ≡ 0
  pub shows : IsViewFor x [] v

pub record IsFreshHall {R V : Type 0} (state : R → RoomState) (view : V → ViewState) (stands_for : R → List Row → ℕ → List Commit → Type 0)
    (x : Beginning) (room : R) (fronts middles : List V) : Type 0 where
  pub stands : (e : ℕ) (first : List Row) → Began x.log e first → stands_for room first e []
  pub places : (state room).places ≡ 0
  pub none_waits : (state room).waiting ≡ 0
  pub not_shut : (state room).is_shut ≡ false
  pub no_job : (state room).job ≡ None
  pub board : (state room).board ≡ first_board (map view fronts) (map view middles)
  pub each_front : (i : ℕ) (v : V) → get_elem? fronts i ≡ some v → IsFreshView x (suc i) 0 (view v)
  pub each_middle : (i : ℕ) (v : V) → get_elem? middles i ≡ some v → IsFreshView x (suc i) 1 (view v)

pub record IsFreshPass {V : Type 0} (view : V → ViewState) (x : Beginning) (number : ℕ) (front : V) (p : Pass V) : Type 0 where
  pub numbered : p.number ≡ number
  pub seen_none : turns p ≡ []
  pub mine_none : own_turns p ≡ []
  pub found_none : found_held p ≡ []
  pub holds_none : HoldsNothing p
  pub none_published : published p ≡ 0
  pub front_is : p.front ≡ Some front
  pub front_clean : (view front).faults ≡ 0
  pub none_given : given_up p ≡ 0
  pub marked : marks p ≡ record { upto = (view front).upto; seen = [] } ∷ []
  pub none_looked : looks p ≡ []
  pub ahead : IsAhead view x p

-- ---- the end

-- the views are those that the board names, each once, and the board names no others
pub record AreAllOnBoard (board : List (Option OpenedEye)) (views : List ViewState) : Type 0 where
  pub each : AllByRecursion (λ v. (0 < v.seat) × (v.buffer < 3) × (slice_get board (3 * (v.seat - 1) + v.buffer) ≡ Some (Some v.eye))) views
  pub apart : (i j : ℕ) (v w : ViewState) → get_elem? views i ≡ some v → get_elem? views j ≡ some w → v.seat ≡ w.seat → v.buffer ≡ w.buffer → i ≡ j
  pub only : (q : ℕ) (eye : OpenedEye) → slice_get board q ≡ Some (Some eye) → (i : ℕ) × (v : ViewState) × (get_elem? views i ≡ some v) × (q ≡ 3 * (v.seat - 1) + v.buffer)

-- There is one list of turns, which begins with what each pass saw, and for which the room stands.
pub record Closes {R V : Type 0} (state : R → RoomState) (origin : R → Origin) (stands_for : R → List Row → ℕ → List Commit → Type 0) (view : V → ViewState)
    (x : Beginning) (passes : List (Pass V)) (views : List V) (room : R) : Type 0 where
  pub all : List (Placed Turn)
  pub lawful : AreTurns x all
  pub published : ℕ
  pub no_earlier : (i : ℕ) (p : Pass V) → get_elem? passes i ≡ some p → (known p).published ≤ published
  pub stood : IsRoomFor state origin stands_for x published room all
  pub authors : All (λ t. (0 < t.seat) × (t.seat ≤ x.seats)) all
  pub parts : (i : ℕ) (p : Pass V) → get_elem? passes i ≡ some p → own_turns p ≡ by_seat p.number all
  pub saw : (i : ℕ) (p : Pass V) → get_elem? passes i ≡ some p → (more : List (Placed Turn)) × (all ≡ turns p ++ more)
  pub marks : (i : ℕ) (p : Pass V) → get_elem? passes i ≡ some p → AllByRecursion (λ (k : Mark Turn). (upto (commits all) k.upto ≡ upto (commits k.seen) k.upto) × (k.upto ≤ (state room).sealed)) (marks p)
  pub middles : List V
  pub views_are : IsPermutation views (filter_map (λ p. p.front) passes ++ middles)
  pub on_board : AreAllOnBoard (state room).board (map view views)
  pub no_job : (state room).job ≡ None
  pub high : (state room).faults + sum_by (λ v. (view v).faults) views ≤ x.room.faults + sum_by (troubles view x) passes
  pub low : (x.room.faults + sum_by (troubles view x) passes ≤ (state room).faults + sum_by (λ v. (view v).faults) views) ⊎ (last_count ≤ (state room).faults)

-- the numbers of all passes are 1 to so many
abbrev pub AreAll : {V : Type 0} → ℕ → List (Pass V) → Type 0
AreAll seats passes = IsPermutation (map (λ p. p.number) passes) (range_with_len 1 seats)
