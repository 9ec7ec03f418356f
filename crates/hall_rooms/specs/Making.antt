-- Making room with the passes of a hall, in one turn of the seat 1.
use Rattle.std.specs.Prelude.{◌≡◌, ◌≢◌, ◌⊎◌, ℕ, zero, suc, ◌<◌, ◌≤◌, Bool, true, false, List, [], ◌++◌, length, None, Result, Ok, Err, ⊤}
use mathlib.Core.Option.{some}
use lib.ListN.{get_elem?}
use Rattle.fine_model.specs.declared.Row.{Row}
use Rattle.fine_model.specs.declared.law.RoomState.{RoomState}
use Rattle.fine_model.specs.Becomes.{IsStuck}
use Rattle.fine_model.specs.Buckets.{Began}
use Rattle.node_cache.specs.Cache.{Cache}
use Rattle.partition_hold.specs.Views.{ViewValue, state_of}
use Rattle.epoch_room.specs.Meaning.{Stands}
use Rattle.epoch_room.specs.Value.{RoomValue, all_regions, regions_outside}
use Rattle.epoch_room.specs.Whole.{IsWhole}
use Rattle.epoch_room.specs.declared.answers.RoomFault.{RoomFault}
use Rattle.epoch_room.specs.declared.answers.RoomFault.TheVariants as room_fault
use Rattle.room_merges.specs.declared.fault.MergeFault.{MergeFault}
use Rattle.room_merges.specs.declared.fault.MergeFault.TheVariants as merge_fault
use Rattle.fine_boxes.specs.declared.model.Mark.{Mark}
use Rattle.fine_hall.specs.declared.law.Beginning.{Beginning}
use Rattle.fine_hall.specs.declared.turn.Turn.{Turn}
use Rattle.fine_hall.specs.Laws.{AreTurns}
use Rattle.fine_hall.specs.Passes.{turns, own_turns, seen, known, marks, published, last_room, HoldsNothing, LacksJob}
use Rattle.fine_hall.specs.Halls.{HallOf, IsAhead, SeesMore}
use Rattle.hall_rooms.specs.declared.making.Space.{Space}
use Rattle.hall_rooms.specs.declared.making.Space.TheVariants as space
use Rattle.hall_rooms.specs.Rooms.{IsRoomPass, RoomPass, beginning_of, room_log}
use Rattle.hall_rooms.specs.Posting.{PostsAll, PostsFirst}
use Rattle.hall_rooms.specs.Steps.{ErasesOr, IsCleanTurn, IsFailedTurn, SameEpochs}
use Rattle.hall_rooms.specs.Turning.{ErasesFirst, ErasesUnheld, LosesFirst, MeetsNone, MeetsSome, NotBegan, OneTurn}
use Rattle.hall_rooms.specs.Merging.{Failing, MergesThroughOr, OnDamage, StaysUnshut}

-- ---- the fronts of passes

-- The pass looked at its mailbox, or is as it was: it saw more, holds what it held, and met no fault. The fronts that it had stay among its marks, behind
-- those that it has since.
pub record Renews (x : Beginning) (p p' : RoomPass) : Type 0 where
  pub number : p'.number ≡ p.number
  pub marked : (newer : List (Mark Turn)) × (marks p' ≡ newer ++ marks p)
  pub sees : SeesMore p p'
  pub same_held : (known p').held ≡ (known p).held
  pub meets : MeetsNone x p p'

-- So it is of each of some passes below a place, whose front shows the history so far up to an epoch that is not below the published one; the
-- others are as they were.
pub record RenewsBelow (x : Beginning) (upto : ℕ) (old new : List RoomPass) : Type 0 where
  pub many : length new ≡ length old
  pub each : (i : ℕ) (p : RoomPass) → i < upto → get_elem? old i ≡ some p → (p' : RoomPass) × (get_elem? new i ≡ some p') × Renews x p p' × IsAhead state_of x p'
  pub rest : (i : ℕ) (p : RoomPass) → upto ≤ i → get_elem? old i ≡ some p → get_elem? new i ≡ some p

-- each of some passes looked at its mailbox, or is as it was
pub record RenewsEach (x : Beginning) (old new : List RoomPass) : Type 0 where
  pub many : length new ≡ length old
  pub each : (i : ℕ) (p : RoomPass) → get_elem? old i ≡ some p → (p' : RoomPass) × (get_elem? new i ≡ some p') × Renews x p p'

-- their fronts show the history so far up to an epoch that is not below the published one
abbrev pub AllAhead : Beginning → List RoomPass → Type 0
AllAhead x passes = (i : ℕ) (p : RoomPass) → get_elem? passes i ≡ some p → IsAhead state_of x p

-- In a turn of the pass: what it saw and holds stays, and it met no fault. Its front may be another.
pub record TurnsOn (x : Beginning) (p p' : RoomPass) : Type 0 where
  pub held : (known p').held ≡ (known p).held
  pub turns : turns p' ≡ turns p
  pub own : own_turns p' ≡ own_turns p
  pub no_earlier : published p ≤ published p'
  pub meets : MeetsNone x p p'

-- A pass of a hall has a turn of the room in which no call failed, and these are passes of the hall too.
pub record AreInTurn {Q : Type 0} (hall : HallOf RoomValue Cache ViewValue Q) (room : RoomValue) (p : RoomPass) (passes : List RoomPass) : Type 0 where
  pub pass : IsRoomPass hall p
  pub others : (i : ℕ) (q : RoomPass) → get_elem? passes i ≡ some q → IsRoomPass hall q
  pub turn : IsCleanTurn (beginning_of hall) room p

-- They are passes of it still: the one goes on in its turn, and the others looked at their mailboxes, or are as they were.
pub record StayInTurn {Q : Type 0} (hall : HallOf RoomValue Cache ViewValue Q) (p p' : RoomPass) (old new : List RoomPass) : Type 0 where
  pub pass : IsRoomPass hall p' × (p'.number ≡ p.number)
  pub others : (i : ℕ) (q : RoomPass) → get_elem? new i ≡ some q → IsRoomPass hall q
  pub goes : TurnsOn (beginning_of hall) p p'
  pub renews : RenewsEach (beginning_of hall) old new

-- ---- clearing

-- Nothing waits, nothing is retired, and each region that is of no live part is free.
pub record IsCleared (room : RoomValue) : Type 0 where
  pub whole : IsWhole room
  pub not_shut : room.room.is_shut ≡ false
  pub none_waits : room.room.waiting ≡ 0
  pub none_retired : room.room.retired ≡ []
  pub no_job : room.room.job ≡ None
  pub all_free : room.room.free ≡ regions_outside room.room.regions (all_regions room.room.parts)

-- the chain and the epochs are as they were
pub record LeavesChain (old new : RoomState) : Type 0 where
  pub parts : new.parts ≡ old.parts
  pub epochs : SameEpochs old new

-- One round that came to its end: each seat has a new view of all live parts, and then all was erased that no view names.
pub record WholeRound (seats : ℕ) (old new : RoomValue) : Type 0 where
  pub shown : RoomState
  pub posts : PostsAll old.room shown seats
  pub erased : ℕ
  pub erases : ErasesUnheld shown new.room erased

-- so many rounds, each of which left something retired
abbrev pub WholeRounds : ℕ → ℕ → RoomValue → RoomValue → Type 0
WholeRounds seats zero old new = new ≡ old
WholeRounds seats (suc rounds) old new = (mid : RoomValue) × WholeRounds seats rounds old mid × WholeRound seats mid new × (new.room.retired ≢ [])

-- Two rounds at most came to their end, each of which left something retired, and one more, behind which nothing is retired.
pub record Clears (seats : ℕ) (old new : RoomValue) : Type 0 where
  pub rounds : ℕ
  pub few : rounds < 3
  pub before : RoomValue
  pub ended : WholeRounds seats rounds old before
  pub last : WholeRound seats before new
  pub unshut : StaysUnshut old.room new.room
  pub chain : LeavesChain old.room new.room
  pub cleared : IsCleared new

-- three rounds came to their end, each of which left something retired
pub record LeavesHeld (seats : ℕ) (old new : RoomValue) : Type 0 where
  pub ended : WholeRounds seats 3 old new
  pub unshut : StaysUnshut old.room new.room
  pub chain : LeavesChain old.room new.room

-- the room was cleared, or something is retired still
abbrev pub ClearsTo : ℕ → RoomValue → RoomValue → Bool → Type 0
ClearsTo seats old new true = Clears seats old new
ClearsTo seats old new false = LeavesHeld seats old new

-- each seat has a new view, and erasing came so far
abbrev pub StopsErasing : ℕ → RoomState → (RoomState → Type 0) → Type 0
StopsErasing seats old erases = (shown : RoomState) × PostsAll old shown seats × erases shown

-- a round stopped in posting, or in erasing behind that; or the room was shut before, and nothing was done
abbrev pub StopsRound : ℕ → RoomValue → RoomValue → RoomFault → Type 0
StopsRound seats old new room_fault.Disk =
    (old.room.is_shut ≡ false) × (new.room.is_shut ≡ true) × (PostsFirst seats old.room new.room ⊎ StopsErasing seats old.room (λ shown. LosesFirst shown new.room))
StopsRound seats old new (room_fault.Shut epoch) = (old.room.is_shut ≡ true) × (epoch ≡ old.room.sealed) × (new ≡ old)
StopsRound seats old new room_fault.NoMemory = (new.room.is_shut ≡ false) × (PostsFirst seats old.room new.room ⊎ StopsErasing seats old.room (λ shown. ErasesFirst shown new.room))

-- Two rounds at most came to their end, and the one behind them stopped. Nothing else was done to the chain, the epochs, the buffers of the board, and
-- what is retired, free or lost.
pub record StopsClearing (seats : ℕ) (old new : RoomValue) (fault : RoomFault) : Type 0 where
  pub rounds : ℕ
  pub few : rounds < 3
  pub before : RoomValue
  pub ended : WholeRounds seats rounds old before
  pub stops : StopsRound seats before new fault
  pub chain : LeavesChain old.room new.room

-- posting and erasing came to no end
abbrev pub Stops : ℕ → RoomValue → RoomValue → RoomFault → Type 0
Stops seats old new room_fault.Disk = (old.room.is_shut ≡ false) × (new.room.is_shut ≡ true) × StopsClearing seats old new room_fault.Disk
Stops seats old new (room_fault.Shut epoch) = (old.room.is_shut ≡ true) × (epoch ≡ old.room.sealed) × (new ≡ old)
Stops seats old new room_fault.NoMemory = (new.room.is_shut ≡ false) × StopsClearing seats old new room_fault.NoMemory

-- how a turn goes on behind such a fault
abbrev pub GoesOnAfter : Beginning → RoomValue → RoomPass → RoomFault → Type 0
GoesOnAfter x room p room_fault.Disk = IsFailedTurn x room p
GoesOnAfter x room p (room_fault.Shut epoch) = IsCleanTurn x room p
GoesOnAfter x room p room_fault.NoMemory = IsCleanTurn x room p

-- it is told whether nothing is retired
abbrev pub TellsNoneRetired : RoomState → Bool → Type 0
TellsNoneRetired room done = (done ≡ true → room.retired ≡ []) × (done ≡ false → room.retired ≢ [])

-- what no view names is erased, and it is told whether nothing is retired
abbrev pub ErasesAndLooks : RoomValue → RoomValue → Result Bool RoomFault → Type 0
ErasesAndLooks old new (Ok done) = (erased : ℕ) × ErasesOr old new (Ok erased) × TellsNoneRetired new.room done
ErasesAndLooks old new (Err fault) = ErasesOr old new (Err fault)

-- One round came to its end: views were posted to all seats and taken, the sealed epoch was published, and what no view names was erased.
pub record EndsRound (x : Beginning) (old new : RoomValue) (p' : RoomPass) (others : List RoomPass) (done : Bool) : Type 0 where
  pub turn : IsCleanTurn x new p'
  pub unshut : StaysUnshut old.room new.room
  pub ahead : IsAhead state_of x p' × AllAhead x others
  pub round : WholeRound x.seats old new
  pub publishes : published p' ≡ new.room.sealed
  pub looks : TellsNoneRetired new.room done

-- one round
abbrev pub RoundOr : Beginning → RoomValue → RoomValue → RoomPass → List RoomPass → Result Bool RoomFault → Type 0
RoundOr x old new p' others (Ok done) = EndsRound x old new p' others done
RoundOr x old new p' others (Err fault) = GoesOnAfter x new p' fault × StopsRound x.seats old new fault

-- The rounds came to their end, and the sealed epoch is published.
pub record EndsRounds (x : Beginning) (old new : RoomValue) (p' : RoomPass) (others : List RoomPass) (done : Bool) : Type 0 where
  pub turn : IsCleanTurn x new p'
  pub ahead : IsAhead state_of x p' × AllAhead x others
  pub publishes : published p' ≡ new.room.sealed
  pub clears : ClearsTo x.seats old new done

-- rounds until nothing is retired, three at most
abbrev pub ClearsOr : Beginning → RoomValue → RoomValue → RoomPass → List RoomPass → Result Bool RoomFault → Type 0
ClearsOr x old new p' others (Ok done) = EndsRounds x old new p' others done
ClearsOr x old new p' others (Err fault) = GoesOnAfter x new p' fault × Stops x.seats old new fault

-- ---- merging what was cleared

-- two were merged, and what they were is erased
pub record MergesAndClears (seats from : ℕ) (old new : RoomValue) : Type 0 where
  pub merged : RoomValue
  pub merges : MergesThroughOr from old merged (Ok true)
  pub clears : Clears seats merged new

-- two were merged, and something of what they were is retired still
pub record MergesAndHolds (seats from : ℕ) (old new : RoomValue) : Type 0 where
  pub merged : RoomValue
  pub merges : MergesThroughOr from old merged (Ok true)
  pub left : LeavesHeld seats merged new

-- all neighbours were tried in vain, and nothing is retired still
pub record TriesInVain (from : ℕ) (old new : RoomValue) : Type 0 where
  pub tries : MergesThroughOr from old new (Ok false)
  pub cleared : IsCleared new

-- it stopped in merging, or in clearing behind it
abbrev pub StopsMerging : ℕ → ℕ → RoomValue → RoomValue → RoomFault → Type 0
StopsMerging seats from old new fault = MergesThroughOr from old new (Err (merge_fault.Room fault)) ⊎ ((merged : RoomValue) × MergesThroughOr from old merged (Ok true) × Stops seats merged new fault)

-- a room in which two were merged is cleared
abbrev pub ClearsMergedOr : ℕ → RoomValue → RoomValue → Result Space MergeFault → Type 0
ClearsMergedOr seats old new (Ok space.Made) = Clears seats old new
ClearsMergedOr seats old new (Ok space.Held) = LeavesHeld seats old new
ClearsMergedOr seats old new (Ok _) = ⊥
ClearsMergedOr seats old new (Err (merge_fault.Fetch fault)) = ⊥
ClearsMergedOr seats old new (Err (merge_fault.Room fault)) = Stops seats old new fault

-- Two were merged, or none fit, and the answer is by whether something was retired, and by what is free then.
abbrev pub MergesClearedOr : ℕ → ℕ → Bool → RoomValue → RoomValue → Result Space MergeFault → Type 0
MergesClearedOr seats from had old new (Ok space.Made) = MergesAndClears seats from old new ⊎ (TriesInVain from old new × (had ≡ true))
MergesClearedOr seats from had old new (Ok space.Enough) = TriesInVain from old new × (had ≡ false) × (2 ≤ length new.room.free)
MergesClearedOr seats from had old new (Ok space.Stuck) = TriesInVain from old new × (had ≡ false) × (length new.room.free < 2)
MergesClearedOr seats from had old new (Ok space.Held) = MergesAndHolds seats from old new
MergesClearedOr seats from had old new (Ok space.Waits) = ⊥
MergesClearedOr seats from had old new (Err (merge_fault.Fetch fault)) = MergesThroughOr from old new (Err (merge_fault.Fetch fault))
MergesClearedOr seats from had old new (Err (merge_fault.Room fault)) = StopsMerging seats from old new fault

-- how a turn goes on behind each answer: some call of it failed, or none
abbrev pub GoesOn : {A : Type 0} → Beginning → RoomValue → RoomPass → Result A MergeFault → Type 0
GoesOn x room p r = Failing r (IsFailedTurn x room p) (IsCleanTurn x room p)

-- ---- making room

-- P of the room once it was cleared
pub record OnceCleared (seats : ℕ) (found : RoomValue) (P : RoomValue → Type 0) : Type 0 where
  pub cleared : RoomValue
  pub clears : Clears seats found cleared
  pub is : P cleared

-- `Made`: something was retired, which is erased, and no two neighbours fit; or two were merged. `Enough`, `Stuck`: nothing was retired and no two fit.
-- `Held`: something is retired still, behind clearing or behind one merge. `Waits`: some entry waits, and nothing was done. It stopped before the room was
-- cleared, or behind that.
abbrev pub MakesOr : ℕ → ℕ → RoomValue → RoomValue → Result Space MergeFault → Type 0
MakesOr seats from found room (Ok space.Made) =
    OnceCleared seats found (λ cleared. MergesAndClears seats from cleared room) ⊎ ((found.room.retired ≢ []) × OnceCleared seats found (λ cleared. TriesInVain from cleared room))
MakesOr seats from found room (Ok space.Enough) = (found.room.retired ≡ []) × OnceCleared seats found (λ cleared. TriesInVain from cleared room) × (2 ≤ length room.room.free)
MakesOr seats from found room (Ok space.Stuck) = (found.room.retired ≡ []) × OnceCleared seats found (λ cleared. TriesInVain from cleared room) × (length room.room.free < 2)
MakesOr seats from found room (Ok space.Held) = LeavesHeld seats found room ⊎ OnceCleared seats found (λ cleared. MergesAndHolds seats from cleared room)
MakesOr seats from found room (Ok space.Waits) = (found.room.waiting ≡ 0 → ⊥) × (room ≡ found)
MakesOr seats from found room (Err (merge_fault.Fetch fault)) = OnceCleared seats found (λ cleared. MergesThroughOr from cleared room (Err (merge_fault.Fetch fault)))
MakesOr seats from found room (Err (merge_fault.Room room_fault.Disk)) =
    (found.room.is_shut ≡ false) × (room.room.is_shut ≡ true) × (Stops seats found room room_fault.Disk ⊎ OnceCleared seats found (λ cleared. StopsMerging seats from cleared room room_fault.Disk))
MakesOr seats from found room (Err (merge_fault.Room (room_fault.Shut epoch))) = (found.room.is_shut ≡ true) × (epoch ≡ found.room.sealed) × (room ≡ found)
MakesOr seats from found room (Err (merge_fault.Room room_fault.NoMemory)) =
    (room.room.is_shut ≡ false) × (Stops seats found room room_fault.NoMemory ⊎ OnceCleared seats found (λ cleared. StopsMerging seats from cleared room room_fault.NoMemory))

-- P of the answers behind which the views of all seats were renewed: each Ok but `Waits`
abbrev pub OnRenewed : Result Space MergeFault → Type 0 → Type 0
OnRenewed (Ok space.Waits) P = ⊤
OnRenewed (Ok _) P = P
OnRenewed (Err fault) P = ⊤

-- the open epoch is as it was
pub record SameOpen (old new : RoomState) : Type 0 where
  pub sealed : new.sealed ≡ old.sealed
  pub waiting : new.waiting ≡ old.waiting
  pub used : new.used ≡ old.used

-- with each answer but `Waits` no entry waits, and the open epoch takes no bytes
abbrev pub NoneOpen : RoomState → Result Space MergeFault → Type 0
NoneOpen room r = (r ≡ Ok space.Waits → ⊥) → (room.waiting ≡ 0) × (room.used ≡ 0)

-- ---- the turn

-- One turn without an entry, behind which the pass holds what it held. Its front may be another.
pub record AddsTurn (x : Beginning) (found room : RoomState) (p p' : RoomPass) : Type 0 where
  pub one : OneTurn x found None 0 room p p'
  pub open one use *
  pub same_held : (known p').held ≡ (known p).held

-- room was made in a turn of a pass, with the other passes of the hall
pub record TriesRoom (x : Beginning) (from : ℕ) (p p' : RoomPass) (r : Result Space MergeFault) : Type 0 where
  pub found : RoomValue
  pub room : RoomValue
  pub turn : AddsTurn x found.room room.room p p'
  pub no_job : (found.room.job ≡ None) × (room.room.job ≡ None)
  -- it is the room of this log, and stands for the history that the pass then saw
  pub log : room_log room ≡ x.log
  pub stands : (e : ℕ) (first : List Row) → Began x.log e first → Stands room first e (seen p')
  pub makes : MakesOr x.seats from found room r
  pub same_open : SameOpen found.room room.room
  pub none_open : NoneOpen found.room r
  -- the published number that the pass knows is the sealed epoch
  pub publishes : OnRenewed r (published p' ≡ room.room.sealed)
  pub damage : OnDamage r (NotBegan x)
  pub meets : Failing r (MeetsSome x p p') (MeetsNone x p p')

-- ---- laws

-- Where the log at entry was told and sound, a room that is told to be stuck is so at the end of the turn: the log can take nothing any more.
abbrev pub StuckThen : Type 0
StuckThen = (x : Beginning) (from : ℕ) (p p' : RoomPass) → TriesRoom x from p p' (Ok space.Stuck) → (e : ℕ) (first : List Row) → Began x.log e first → IsStuck (last_room x p')

-- A pass that holds nothing and has no merge out is such a pass after its turn.
abbrev pub TriesIdle : Type 0
TriesIdle = (x : Beginning) (from : ℕ) (r : Result Space MergeFault) (p p' : RoomPass) → p'.number ≡ p.number → TriesRoom x from p p' r → HoldsNothing p → LacksJob x p → HoldsNothing p' × LacksJob x p'

-- and so is another once it looked
abbrev pub RenewsIdle : Type 0
RenewsIdle = (x : Beginning) (p p' : RoomPass) → AreTurns x (turns p') → Renews x p p' → HoldsNothing p → LacksJob x p → HoldsNothing p' × LacksJob x p'
