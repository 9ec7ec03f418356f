-- What becomes of a room whose youngest parts are gathered into one.
use Rattle.std.specs.Prelude.{◌≡◌, ◌≢◌, ◌⊎◌, ℕ, ◌<◌, ◌≤◌, nat_le, Bool, true, false, List, [], ◌∷◌, ◌++◌, length, drop, take, fold, Contains, IfSome, Result, Ok, Err}
use Rattle.std.specs.List.{AllByRecursion, position_or_len}
use Rattle.fine_model.specs.declared.Part.{Part}
use Rattle.fine_model.specs.declared.Range.{Range}
use Rattle.fine_model.specs.declared.Row.{Row}
use Rattle.fine_model.specs.declared.law.RoomState.{RoomState}
use Rattle.fine_model.specs.Chain.{chain_end}
use Rattle.fine_model.specs.ChainLaws.{part_of}
use Rattle.fine_model.specs.Regions.{Image, HasHeader, IsSealed, header_of}
use Rattle.log_disk.specs.Disk.{SameBeside}
use Rattle.row_gathering.specs.Gathering.{AreGathered, Declines, GathersRows}
use Rattle.row_gathering.specs.declared.gathering.Gathered.{Gathered}
use Rattle.epoch_room.specs.Gate.{KeepsBeside}
use Rattle.epoch_room.specs.Meaning.{Keeps}
use Rattle.epoch_room.specs.MergeSealing.{retire}
use Rattle.epoch_room.specs.Steps.{Does, Shuts, WasShut}
use Rattle.epoch_room.specs.Value.{RoomValue}
use Rattle.epoch_room.specs.declared.answers.RoomFault.{RoomFault}
use Rattle.epoch_room.specs.declared.answers.RoomFault.TheVariants as room_fault

-- the place of the first part that begins at an epoch or later, or the one behind all parts
abbrev pub young_at : ℕ → List Part → ℕ
young_at from parts = position_or_len (λ p. nat_le from p.header.range.first) parts

-- the young parts: that one and those behind it
abbrev pub young_parts : ℕ → List Part → List Part
young_parts from parts = drop (young_at from parts) parts

-- the live parts are some that begin before an epoch, and then these, of which there are two or more
pub record AreYoung (from : ℕ) (parts before : List Part) (oldest : Part) (newer : List Part) : Type 0 where
  pub split : parts ≡ before ++ (oldest ∷ newer)
  pub several : newer ≢ []
  pub young : from ≤ oldest.header.range.first
  pub older : AllByRecursion (λ p. p.header.range.first < from) before

-- the epochs of neighbours
abbrev pub range_over : Part → List Part → Range
range_over oldest newer = record { first = oldest.header.range.first; last = chain_end (oldest ∷ newer) }

-- the part of their rows in a region
abbrev pub gathered_part : ℕ → Part → List Part → List Row → Part
gathered_part region oldest newer rows = part_of region (header_of (range_over oldest newer) rows)

-- all of some parts are retired
abbrev pub retire_all : List Part → List Part → List Part
retire_all parts retired = fold (λ left p. retire p left) retired parts

-- the state behind it: the part stands in the chain in place of the young ones, which are retired
unfoldable pub gathered_state : RoomState → List Part → Part → List Part → Part → RoomState
gathered_state room before oldest newer p = record room { parts = before ++ p ∷ []; retired = retire_all (oldest ∷ newer) room.retired; free = drop 1 room.free }

-- what the part has, where a read of the disk tells its bytes: the rows of the young parts, all of which are in the grammar
pub record HoldsGathered (region_len region : ℕ) (oldest : Part) (newer : List Part) (rows : List Row) (old new : Image) : Type 0 where
  pub gathered : AreGathered region_len old (oldest ∷ newer) rows
  pub has_header : HasHeader region_len new region (header_of (range_over oldest newer) rows)
  pub sealed : IsSealed region_len new region (range_over oldest newer) rows

-- The youngest parts are one part now, over the lowest free region; they are retired, and all is synced.
pub record Gathers (from : ℕ) (old new : RoomValue) : Type 0 where
  pub before : List Part
  pub oldest : Part
  pub newer : List Part
  pub are : AreYoung from old.room.parts before oldest newer
  pub region : ℕ
  pub free : List ℕ
  pub lowest : old.room.free ≡ region ∷ free
  pub rows : List Row
  pub holds : IfSome old.room.image (λ was. IfSome new.room.image (HoldsGathered old.room.region_len region oldest newer rows was))
  pub synced : new.disk.unsynced ≡ []
  pub room : Does (gathered_state old.room before oldest newer (gathered_part region oldest newer rows)) old.target old new

-- Why young parts stay as they are: they are fewer than two, no region is free, or no rows can be gathered from them.
abbrev pub DeclinesYoung : ℕ → RoomValue → Type 0
DeclinesYoung from old = (length (young_parts from old.room.parts) < 2) ⊎ ((old.room.free ≡ []) ⊎ Declines old.disk (young_parts from old.room.parts))

-- the rows of the young parts, of which there are two or more, were gathered: so each read of them succeeded
pub record WereGathered (from : ℕ) (old : RoomValue) : Type 0 where
  pub several : 2 ≤ length (young_parts from old.room.parts)
  pub gathered : Gathered
  pub gathers : GathersRows old.disk (young_parts from old.room.parts) gathered

-- A read failed, and nothing is lost, nor anything of the disk another but the counts; or all was read, the part was being written, and its region is lost: it is unsynced.
abbrev pub FailsGathering : ℕ → RoomValue → RoomValue → Type 0
FailsGathering from old new =
    (Shuts old.room old.target [] old new × (new.disk.told ≡ old.disk.told) × (new.disk.unsynced ≡ old.disk.unsynced))
    ⊎ (Shuts (record old.room { free = drop 1 old.room.free }) old.target (take 1 old.room.free) old new × WereGathered from old × AllByRecursion (Contains new.disk.unsynced) (take 1 old.room.free))

-- by the answer
abbrev pub GathersOr : ℕ → RoomValue → RoomValue → Result Bool RoomFault → Type 0
GathersOr from old new (Ok true) = Gathers from old new
GathersOr from old new (Ok false) = (old.room.is_shut ≡ false) × (new ≡ old) × DeclinesYoung from old
GathersOr from old new (Err room_fault.Disk) = FailsGathering from old new
GathersOr from old new (Err (room_fault.Shut epoch)) = WasShut epoch old new
GathersOr from old new (Err room_fault.NoMemory) = Does old.room old.target old new

-- all that gathering does
pub record GathersYoung (from : ℕ) (old new : RoomValue) (result : Result Bool RoomFault) : Type 0 where
  pub room : GathersOr from old new result
  pub read : KeepsBeside (take 1 old.room.free) old.disk new.disk
  pub beside : SameBeside old.disk new.disk
  pub keeps : Keeps old new
