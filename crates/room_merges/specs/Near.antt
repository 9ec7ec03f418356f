-- What merging the first neighbours that fit makes of a room.
use Rattle.std.specs.Prelude.{◌≡◌, ◌⊎◌, ℕ, ◌+◌, ◌<◌, ◌≤◌, Bool, true, false, List, [], ◌∷◌, ◌++◌, drop, length, Contains, None, Some, Result, Ok, Err, ⊤}
use Rattle.fine_model.specs.declared.FetchFault.{FetchFault}
use Rattle.fine_model.specs.declared.FetchFault.TheVariants as fetch_fault
use Rattle.fine_model.specs.declared.NodeId.{NodeId}
use Rattle.fine_model.specs.declared.Part.{Part}
use Rattle.fine_model.specs.declared.Row.{Row}
use Rattle.fine_model.specs.Causes.{NoneFit}
use Rattle.fine_model.specs.Chain.{regions_of}
use Rattle.fine_model.specs.ChainLaws.{part_of}
use Rattle.fine_model.specs.Merge.{FitsFree, merged as rows_of_both}
use Rattle.fine_model.specs.Nodes.{rows_of}
use Rattle.fine_model.specs.Regions.{Image}
use Rattle.fine_model.specs.Views.{SameSeen, TellsRowsOf}
use Rattle.log_disk.specs.Disk.{HasRisen}
use Rattle.partition_hold.specs.Views.{IsView, SameView, ViewValue}
use Rattle.partition_merge.specs.declared.merger.Measure.{Measure}
use Rattle.partition_merge.specs.Joined.{IsMergedOf}
use Rattle.partition_merge.specs.Mergers.{IsMeasureOf, at_front}
use Rattle.epoch_room.specs.Erasing.{ErasesAllOr}
use Rattle.epoch_room.specs.Meaning.{Keeps}
use Rattle.epoch_room.specs.MergeSealing.{replaced, retire}
use Rattle.epoch_room.specs.MergeSteps.{neighbours_from, regions_for_job}
use Rattle.epoch_room.specs.Steps.{Fails, KeepsCounts, WasShut}
use Rattle.epoch_room.specs.Value.{RoomValue}
use Rattle.epoch_room.specs.declared.answers.RoomFault.{RoomFault}
use Rattle.epoch_room.specs.declared.answers.RoomFault.TheVariants as room_fault
use Rattle.room_merges.specs.declared.fault.MergeFault.{MergeFault}
use Rattle.room_merges.specs.declared.fault.MergeFault.TheVariants as merge_fault
use Rattle.room_merges.specs.Live.{KeepsLive}
use Rattle.room_merges.specs.Merging.{EyeTells, OfBytes, OfTold}
use Rattle.room_merges.specs.Pairs.{IsIdle, IsPassedOver, LosesPart, Merges, header_for, job_for}
use Rattle.room_merges.specs.Work.{BlamedBy, FallsShut, Looks, StaysOpen}

-- ---- the neighbours of a chain

-- two neighbours of a chain
pub record StandIn (parts : List Part) (two : Part × Part) : Type 0 where
  pub before : List Part
  pub after : List Part
  pub neighbours : parts ≡ before ++ two.0 ∷ two.1 ∷ after

-- P of all neighbours of a chain
abbrev pub OfNeighbours : (Part → Part → Type 0) → List Part → Type 0
OfNeighbours P [] = ⊤
OfNeighbours P (p ∷ []) = ⊤
OfNeighbours P (p ∷ q ∷ parts) = P p q × OfNeighbours P (q ∷ parts)

-- no part begins here or behind
abbrev pub epochs_end : ℕ
epochs_end = 18446744073709551615

-- two parts do not fit what is free, where the view's eye tells both
abbrev pub Unfit : RoomValue → ViewValue → Part → Part → Type 0
Unfit value view p q = OfTold view p q (λ a b. FitsFree value.room.region_len (length value.room.free) a b → ⊥)

-- two parts are tried in vain: a measure of them is read, and they do not fit
pub record InVain (value : RoomValue) (view : ViewValue) (p q : Part) : Type 0 where
  pub passed : IsPassedOver value view p q
  pub unfit : Unfit value view p q

-- so of the neighbours whose older one begins from an epoch on, and before another
abbrev pub NoneBetween : ℕ → ℕ → RoomValue → ViewValue → Type 0
NoneBetween from until value view = OfNeighbours (λ p q. from ≤ p.header.range.first → p.header.range.first < until → InVain value view p q) value.room.parts

-- two neighbours of a chain are one part now, of their epochs
pub record MergesTwo (old new : List Part) : Type 0 where
  pub two : Part × Part
  pub stand : StandIn old two
  pub part : Part
  pub range : part.header.range ≡ record { first = two.0.header.range.first; last = two.1.header.range.last }
  pub is : new ≡ replaced two.0.region part old
  pub less : length new + 1 ≡ length old

-- ---- through a view

-- no merge is out of an open room, and a view of all its live parts is
pub record MayTry (value : RoomValue) (view : ViewValue) : Type 0 where
  pub idle : IsIdle value view
  pub opened : value.room.is_shut ≡ false
  pub parts : view.parts ≡ value.room.parts

-- the neighbours at an epoch were merged; before, the room was as it is but for what its disk holds
pub record MergesAt (at : ℕ) (old new : RoomValue) (view : ViewValue) : Type 0 where
  pub mid : RoomValue
  pub seen : ViewValue
  pub stays : StaysOpen None old.room.free old mid
  pub same : SameView view seen
  pub merges : Merges at mid new seen

-- none fits of those that are tried before the ones at an epoch: from another epoch on, and then those before it
abbrev pub NoneBefore : ℕ → ℕ → RoomValue → ViewValue → Type 0
NoneBefore from at value view = ((from ≤ at) × NoneBetween from at value view) ⊎ ((at < from) × NoneBetween from epochs_end value view × NoneBetween 1 at value view)

-- something came of the neighbours at an epoch, and none fits of those that are tried before: from another epoch on, up to an epoch
abbrev pub FirstBetween : ℕ → ℕ → RoomValue → ViewValue → (ℕ → Type 0) → Type 0
FirstBetween from until value view P = (at : ℕ) × (from ≤ at) × (at < until) × NoneBetween from at value view × P at

-- so of all neighbours
abbrev pub FirstOf : ℕ → RoomValue → ViewValue → (ℕ → Type 0) → Type 0
FirstOf from value view P = (at : ℕ) × NoneBefore from at value view × P at

-- what was read of the neighbours at an epoch was refused
pub record BlamedAt (at : ℕ) (value : RoomValue) (view : ViewValue) (fault : FetchFault) : Type 0 where
  pub two : Part × Part
  pub first : neighbours_from at value.room.parts ≡ Some two
  pub blames : BlamedBy view two.0 two.1 (merge_fault.Fetch fault)

-- what was read of two neighbours was refused
pub record BlamesTwo (value : RoomValue) (view : ViewValue) (fault : FetchFault) : Type 0 where
  pub two : Part × Part
  pub stand : StandIn value.room.parts two
  pub blames : BlamedBy view two.0 two.1 (merge_fault.Fetch fault)

-- what trying neighbours does, by what it is to have merged some, and none, that a read was refused, and that the disk failed
abbrev pub TriesOr : Type 0 → Type 0 → (FetchFault → Type 0) → Type 0 → RoomValue → RoomValue → ViewValue → ViewValue → Result Bool MergeFault → Type 0
TriesOr some none blamed lost old new view view' (Ok true) = some
TriesOr some none blamed lost old new view view' (Ok false) = StaysOpen None old.room.free old new × none
TriesOr some none blamed lost old new view view' (Err (merge_fault.Fetch fault)) = StaysOpen None old.room.free old new × BlamesTwo old view' fault × blamed fault
TriesOr some none blamed lost old new view view' (Err (merge_fault.Room room_fault.NoMemory)) = StaysOpen None old.room.free old new
TriesOr some none blamed lost old new view view' (Err (merge_fault.Room room_fault.Disk)) = FallsShut None new.room.free old new × lost
TriesOr some none blamed lost old new view view' (Err (merge_fault.Room (room_fault.Shut epoch))) = ⊥

-- what trying the neighbours between two epochs does
abbrev pub MergesBetween : ℕ → ℕ → RoomValue → RoomValue → ViewValue → Type 0
MergesBetween from until old new view = FirstBetween from until old view (λ at. MergesAt at old new view)

abbrev pub BlamedBetween : ℕ → ℕ → RoomValue → ViewValue → ViewValue → FetchFault → Type 0
BlamedBetween from until old view view' fault = FirstBetween from until old view (λ at. BlamedAt at old view' fault)

abbrev pub LosesBetween : ℕ → ℕ → RoomValue → RoomValue → ViewValue → Type 0
LosesBetween from until old new view = FirstBetween from until old view (λ at. LosesPart at old new view)

pub record TriesBetween (from until : ℕ) (old new : RoomValue) (view view' : ViewValue) (result : Result Bool MergeFault) : Type 0 where
  pub room : TriesOr (MergesBetween from until old new view) (NoneBetween from until old view) (BlamedBetween from until old view view') (LosesBetween from until old new view) old new view view' result
  pub looks : Looks view view' result

-- what trying all neighbours does
abbrev pub MergesAny : ℕ → RoomValue → RoomValue → ViewValue → Type 0
MergesAny from old new view = FirstOf from old view (λ at. MergesAt at old new view)

abbrev pub BlamedAny : ℕ → RoomValue → ViewValue → ViewValue → FetchFault → Type 0
BlamedAny from old view view' fault = FirstOf from old view (λ at. BlamedAt at old view' fault)

abbrev pub LosesAny : ℕ → RoomValue → RoomValue → ViewValue → Type 0
LosesAny from old new view = FirstOf from old view (λ at. LosesPart at old new view)

pub record TriesAll (from : ℕ) (old new : RoomValue) (view view' : ViewValue) (result : Result Bool MergeFault) : Type 0 where
  pub room : TriesOr (MergesAny from old new view) (OfNeighbours (InVain old view) old.room.parts) (BlamedAny from old view view') (LosesAny from old new view) old new view view' result
  pub looks : Looks view view' result

-- ---- the call

-- No merge is out, and the board, the numbers and the open epoch are as they were.
pub record KeepsRest (old new : RoomValue) : Type 0 where
  pub job : new.room.job ≡ None
  pub board : new.room.board ≡ old.room.board
  pub sealed : new.room.sealed ≡ old.room.sealed
  pub places : new.room.places ≡ old.room.places
  pub waiting : new.room.waiting ≡ old.room.waiting
  pub open_rows : new.room.open_rows ≡ old.room.open_rows
  pub used : new.room.used ≡ old.room.used
  pub target : new.target ≡ old.target
  pub entry : new.entry ≡ old.entry
  pub keeps : Keeps old new

-- a part that stands in both chains tells what it told, by what a read of the disk gives
abbrev pub TellsStill : RoomValue → RoomValue → Type 0
TellsStill old new =
    (p : Part) (rows : List Row) → Contains old.room.parts p → Contains new.room.parts p
    → TellsRowsOf old.room.image old.room.region_len (p ∷ []) rows → TellsRowsOf new.room.image new.room.region_len (p ∷ []) rows

-- the room was open and is, and no call on its disk failed, nor a read
pub record IsWell (old new : RoomValue) : Type 0 where
  pub opened : old.room.is_shut ≡ false
  pub stays : new.room.is_shut ≡ false
  pub counts : KeepsCounts old.disk new.disk

-- the disk failed, and the room is shut
pub record IsShutNow (old new : RoomValue) : Type 0 where
  pub opened : old.room.is_shut ≡ false
  pub shut : new.room.is_shut ≡ true
  pub fails : Fails old.disk new.disk

-- no two neighbours fit what is free, by what a read of the disk gives
abbrev pub NoneFitNow : RoomValue → Type 0
NoneFitNow value = (image : Image) → value.room.image ≡ Some image → NoneFit value.room.region_len image value.room.parts (length value.room.free)

-- A view has all live parts of a room, and its eye tells of each what a read of the disk gives: no bytes where the disk tells none.
pub record IsViewOf (value : RoomValue) (view : ViewValue) : Type 0 where
  pub is_view : IsView view
  pub parts : view.parts ≡ value.room.parts
  pub region_len : view.region_len ≡ value.room.region_len
  pub sees : (p : Part) → Contains value.room.parts p → SameSeen (regions_of p) value.room.image view.eye.told

-- all neighbours were tried in vain, through a view of the chain
pub record AllInVain (value : RoomValue) : Type 0 where
  pub view : ViewValue
  pub of_chain : IsViewOf value view
  pub none : OfNeighbours (InVain value view) value.room.parts

-- those of which a read was refused are the first that were not tried in vain, through a view of the chain
pub record BlamedFirst (from : ℕ) (value : RoomValue) (fault : FetchFault) : Type 0 where
  pub view : ViewValue
  pub of_chain : IsViewOf value view
  pub blamed : FirstOf from value view (λ at. BlamedAt at value view fault)

-- a read was refused: its failure is counted, and a bad row or entry is one of two neighbours, by what was read
pub record IsReadRefused (old new : RoomValue) (fault : FetchFault) : Type 0 where
  pub opened : old.room.is_shut ≡ false
  pub stays : new.room.is_shut ≡ false
  pub own_faults : new.disk.own_faults ≡ old.disk.own_faults
  pub rises : fault ≡ fetch_fault.Failed → HasRisen old.disk.faults new.disk.faults
  pub no_lower : old.disk.faults ≤ new.disk.faults
  pub else_same : (fault ≡ fetch_fault.Failed → ⊥) → new.disk.faults ≡ old.disk.faults
  -- what a read of the disk tells of a live part, the view that was read through told too
  pub view : ViewValue
  pub shown : (p : Part) (rows : List Row) → Contains new.room.parts p → TellsRowsOf new.room.image new.room.region_len (p ∷ []) rows → EyeTells view p rows
  pub blames : BlamesTwo new view fault

-- A read of the disk tells rows of a part, of each node those into which the rows are merged that a look for it finds in two parts.
pub record TellsJoined (value : RoomValue) (image : Image) (two : Part × Part) (p : Part) : Type 0 where
  pub rows : List Row
  pub told : TellsRowsOf value.room.image value.room.region_len (p ∷ []) rows
  pub each : (id : NodeId) → IsMergedOf image two.0 two.1 id (rows_of id rows)

-- The two that were merged fit what was free, and none before them did, where a view of the chain told them, which told what a read of the
-- disk did: tried are the neighbours from an epoch on, in chain order, and then those before it.
pub record MergesFirst (from : ℕ) (old new : RoomValue) : Type 0 where
  pub merged : MergesTwo old.room.parts new.room.parts
  pub view : ViewValue
  pub shown : (p : Part) (rows : List Row) → Contains old.room.parts p → TellsRowsOf old.room.image old.room.region_len (p ∷ []) rows → EyeTells view p rows
  pub at : ℕ
  pub first : neighbours_from at old.room.parts ≡ Some merged.two
  pub before : NoneBefore from at old view
  pub fits : OfTold view merged.two.0 merged.two.1 (FitsFree old.room.region_len (length old.room.free))
  -- a read of the disk tells the merged rows of both as those of the new part
  pub holds : OfTold view merged.two.0 merged.two.1 (λ a b. TellsRowsOf new.room.image new.room.region_len (merged.part ∷ []) (rows_of_both a b))
  -- So of any two, in the grammar or not, where a read of the disk tells bytes: the new part tells rows, of each node those that are found in both, merged.
  pub tells : OfBytes view (λ image. TellsJoined new image merged.two merged.part)
  -- Of any two, in the grammar or not: a measure of them was read, and the new part has it in its header and lies over the lowest free
  -- regions, as few as it needs.
  pub of_chain : IsViewOf old view
  pub measure : Measure
  pub read : IsMeasureOf view.eye.told (at_front merged.two.0 merged.two.1 view.region_len) measure
  pub ordered : measure.ordered ≡ true
  pub regions : ℕ
  pub taken : regions_for_job old.room measure ≡ Some regions
  pub placed : merged.part ≡ part_of (job_for merged.two measure regions old.room.free).target (header_for merged.two measure regions old.room.free)
  -- the room as the two were merged, and not erased yet
  pub done : RoomValue
  pub free : done.room.free ≡ drop regions old.room.free
  pub retired : done.room.retired ≡ retire merged.two.1 (retire merged.two.0 old.room.retired)

-- the two are merged, and nothing was done since
pub record MergesDone (from : ℕ) (old new : RoomValue) : Type 0 where
  pub first : MergesFirst from old new
  pub is_done : first.done ≡ new

-- The disk failed while the part of two neighbours was written or sealed, which were the first that were not tried in vain, through a view
-- of the chain.
pub record LosesFirst (from : ℕ) (old new : RoomValue) : Type 0 where
  pub view : ViewValue
  pub of_chain : IsViewOf old view
  pub loses : LosesAny from old new view

-- Merging came to no end, and nothing but what the disk holds is another: where the disk failed, nothing is lost, as where no view could
-- be made, or regions that were taken for a merged part.
abbrev pub StopsBetween : ℕ → RoomValue → RoomValue → RoomFault → Type 0
StopsBetween from old new room_fault.NoMemory = (new.room.retired ≡ old.room.retired) × (new.room.free ≡ old.room.free)
StopsBetween from old new room_fault.Disk = (new.room.retired ≡ old.room.retired) × ((new.room.lost ≡ []) ⊎ LosesFirst from old new)
StopsBetween from old new (room_fault.Shut epoch) = ⊥

-- No merge is out, what stands in both chains tells what it told and has the bytes that it had, and the rest is so by the answer.
pub record MergesAs (Or : RoomValue → RoomValue → Result Bool MergeFault → Type 0) (old new : RoomValue) (result : Result Bool MergeFault) : Type 0 where
  pub rest : KeepsRest old new
  pub told : TellsStill old new
  pub live : KeepsLive old new
  pub answers : Or old new result

-- what merging through a view of all live parts does
abbrev pub ThroughOr : ℕ → RoomValue → RoomValue → Result Bool MergeFault → Type 0
ThroughOr from old new (Ok true) = IsWell old new × MergesDone from old new
ThroughOr from old new (Ok false) = IsWell old new × (new.room.parts ≡ old.room.parts) × (new.room.retired ≡ old.room.retired) × NoneFitNow new × AllInVain new
ThroughOr from old new (Err (merge_fault.Fetch fault)) =
    IsReadRefused old new fault × (new.room.parts ≡ old.room.parts) × (new.room.retired ≡ old.room.retired) × BlamedFirst from new fault
ThroughOr from old new (Err (merge_fault.Room room_fault.NoMemory)) = IsWell old new × (new.room.parts ≡ old.room.parts) × StopsBetween from old new room_fault.NoMemory
ThroughOr from old new (Err (merge_fault.Room room_fault.Disk)) = IsShutNow old new × (new.room.parts ≡ old.room.parts) × StopsBetween from old new room_fault.Disk
ThroughOr from old new (Err (merge_fault.Room (room_fault.Shut epoch))) = WasShut epoch old new

abbrev pub MergesThrough : ℕ → RoomValue → RoomValue → Result Bool MergeFault → Type 0
MergesThrough from = MergesAs (ThroughOr from)

-- what erasing all retired parts of a room with an empty board does
abbrev pub EmptiesOr : RoomValue → RoomValue → Result (Unit {0}) MergeFault → Type 0
EmptiesOr old new (Ok u) = IsWell old new × (new.room.retired ≡ [])
EmptiesOr old new (Err (merge_fault.Fetch fault)) = ⊥
EmptiesOr old new (Err (merge_fault.Room room_fault.NoMemory)) = IsWell old new
EmptiesOr old new (Err (merge_fault.Room room_fault.Disk)) = IsShutNow old new
EmptiesOr old new (Err (merge_fault.Room (room_fault.Shut epoch))) = WasShut epoch old new

-- what erasing all that is retired makes of free, lost and retired regions, by its answer
abbrev pub AllErased : RoomValue → RoomValue → Result (Unit {0}) MergeFault → Type 0
AllErased old new (Ok u) = (erased : ℕ) × ErasesAllOr old new (Ok erased)
AllErased old new (Err (merge_fault.Fetch fault)) = ⊥
AllErased old new (Err (merge_fault.Room fault)) = ErasesAllOr old new (Err fault)

pub record Empties (old new : RoomValue) (result : Result (Unit {0}) MergeFault) : Type 0 where
  pub rest : KeepsRest old new
  pub parts : new.room.parts ≡ old.room.parts
  pub told : TellsStill old new
  pub live : KeepsLive old new
  pub empties : EmptiesOr old new result
  pub all : AllErased old new result

-- the chain is as it was, or the first neighbours that fit were merged
abbrev pub SameOrFirst : ℕ → RoomValue → RoomValue → Type 0
SameOrFirst from old new = (new.room.parts ≡ old.room.parts) ⊎ MergesFirst from old new

-- the first neighbours that fit were merged, and then what was retired was erased, as far as it came
pub record MergesAndErases (from : ℕ) (old new : RoomValue) (result : Result (Unit {0}) MergeFault) : Type 0 where
  pub first : MergesFirst from old new
  pub last : AllErased first.done new result

-- where it stopped: in merging, or in erasing behind it
abbrev pub StopsOr : ℕ → RoomValue → RoomValue → RoomFault → Type 0
StopsOr from old new fault = StopsBetween from old new fault ⊎ MergesAndErases from old new (Err (merge_fault.Room fault))

-- what merging the first neighbours that fit does, where nothing is retired
abbrev pub ErasedOr : ℕ → RoomValue → RoomValue → Result Bool MergeFault → Type 0
ErasedOr from old new (Ok true) = IsWell old new × MergesAndErases from old new (Ok tt) × (new.room.retired ≡ [])
ErasedOr from old new (Ok false) = IsWell old new × (new.room.parts ≡ old.room.parts) × (new.room.retired ≡ old.room.retired) × NoneFitNow new × AllInVain new
ErasedOr from old new (Err (merge_fault.Fetch fault)) =
    IsReadRefused old new fault × (new.room.parts ≡ old.room.parts) × (new.room.retired ≡ old.room.retired) × BlamedFirst from new fault
ErasedOr from old new (Err (merge_fault.Room room_fault.NoMemory)) = IsWell old new × SameOrFirst from old new × StopsOr from old new room_fault.NoMemory
ErasedOr from old new (Err (merge_fault.Room room_fault.Disk)) = IsShutNow old new × SameOrFirst from old new × StopsOr from old new room_fault.Disk
ErasedOr from old new (Err (merge_fault.Room (room_fault.Shut epoch))) = WasShut epoch old new

abbrev pub MergesErased : ℕ → RoomValue → RoomValue → Result Bool MergeFault → Type 0
MergesErased from = MergesAs (ErasedOr from)

-- what was retired was erased first, and then the first neighbours that fit were merged
pub record ErasesAndMerges (from : ℕ) (old new : RoomValue) : Type 0 where
  pub erased : RoomValue
  pub erases : Empties old erased (Ok tt)
  pub merges : MergesFirst from erased new

-- the chain is as it was, or what was retired was erased, and then the first neighbours that fit were merged
abbrev pub SameOrErased : ℕ → RoomValue → RoomValue → Type 0
SameOrErased from old new = (new.room.parts ≡ old.room.parts) ⊎ (MergesTwo old.room.parts new.room.parts × ErasesAndMerges from old new)

-- All that is free and retired once two were merged, step by step: what was retired is erased, the new part lies over the lowest regions
-- that are free then, and the two are erased.
pub record AllSteps (from : ℕ) (old new : RoomValue) : Type 0 where
  pub erased : RoomValue
  pub erases : Empties old erased (Ok tt)
  pub merges : MergesAndErases from erased new (Ok tt)

-- what was retired was erased, and a step behind that stopped
pub record StopsAfter (from : ℕ) (old new : RoomValue) (fault : RoomFault) : Type 0 where
  pub erased : RoomValue
  pub erases : Empties old erased (Ok tt)
  pub stops : StopsOr from erased new fault

-- The step that stopped, which tells what is free, what is retired, and which regions are lost: in erasing what was retired, as far as that
-- came, or in a step behind it.
abbrev pub ComesTo : ℕ → RoomValue → RoomValue → RoomFault → Type 0
ComesTo from old new fault = AllErased old new (Err (merge_fault.Room fault)) ⊎ StopsAfter from old new fault

-- what merging the first neighbours that fit does, by its answer
abbrev pub NearOr : ℕ → RoomValue → RoomValue → Result Bool MergeFault → Type 0
NearOr from old new (Ok true) = IsWell old new × MergesTwo old.room.parts new.room.parts × (new.room.retired ≡ []) × ErasesAndMerges from old new × AllSteps from old new
NearOr from old new (Ok false) = IsWell old new × (new.room.parts ≡ old.room.parts) × (new.room.retired ≡ []) × NoneFitNow new × AllInVain new
NearOr from old new (Err (merge_fault.Fetch fault)) = IsReadRefused old new fault × (new.room.parts ≡ old.room.parts) × (new.room.retired ≡ []) × BlamedFirst from new fault
NearOr from old new (Err (merge_fault.Room room_fault.NoMemory)) = IsWell old new × SameOrErased from old new × ComesTo from old new room_fault.NoMemory
NearOr from old new (Err (merge_fault.Room room_fault.Disk)) = IsShutNow old new × SameOrErased from old new × ComesTo from old new room_fault.Disk
NearOr from old new (Err (merge_fault.Room (room_fault.Shut epoch))) = WasShut epoch old new

pub record MergesNear (from : ℕ) (old new : RoomValue) (result : Result Bool MergeFault) : Type 0 where
  pub rest : KeepsRest old new
  pub told : TellsStill old new
  pub live : KeepsLive old new
  pub near : NearOr from old new result
