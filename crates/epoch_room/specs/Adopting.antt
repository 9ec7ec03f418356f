-- What becomes of a room that takes rows in as a part.
use Rattle.std.specs.Prelude.{◌≡◌, ◌≢◌, ◌⊎◌, ℕ, ◌+◌, ◌-◌, ◌*◌, ◌<◌, ◌≤◌, ◌==◌, false, if◌then◌else◌, List, [], ◌∷◌, ◌++◌, length, take, drop, replicate, slice_index, unwrap_or, IfSome, Some, None, Option, IsTrue, OnOk, Result, Ok, Err, ⊤}
use Rattle.std.specs.List.{AllByRecursion}
use Rattle.fine_model.specs.declared.Mark.TheVariants as mark
use Rattle.fine_model.specs.declared.Part.{Part}
use Rattle.fine_model.specs.declared.Range.{Range}
use Rattle.fine_model.specs.declared.Row.{Row}
use Rattle.fine_model.specs.declared.law.RoomState.{RoomState}
use Rattle.fine_model.specs.Becomes.{Becomes}
use Rattle.fine_model.specs.Headline.{ShowsSome}
use Rattle.fine_model.specs.Merge.{encoded_len, is_ordered, nodes_in, regions_for}
use Rattle.fine_model.specs.Regions.{Image, IsSealed}
use Rattle.fine_model.specs.RowBytes.{FitsRow, greatest, rows_len}
use Rattle.log_disk.specs.Disk.{SameBeside, Told, clock_of, IsImageSince}
use Rattle.log_disk.specs.Moments.{ContinuesOn}
use Rattle.log_partition.specs.Encoding.{saturated}
use Rattle.epoch_room.specs.Gate.{KeepsBeside}
use Rattle.epoch_room.specs.Meaning.{GoesOnStanding, Stands}
use Rattle.epoch_room.specs.Steps.{Does, KeepsCounts, Shuts, WasShut}
use Rattle.epoch_room.specs.Value.{RoomValue, on}
use Rattle.epoch_room.specs.declared.answers.AdoptFault.{AdoptFault}
use Rattle.epoch_room.specs.declared.answers.AdoptFault.TheVariants as adopt_fault
use Rattle.epoch_room.specs.declared.answers.RoomFault.{RoomFault}
use Rattle.epoch_room.specs.declared.answers.RoomFault.TheVariants as room_fault

-- rows in order, of the epochs behind those of a room to which no entry was appended and in which no merge is out
pub record AreNext (room : RoomState) (range : Range) (own : List Row) : Type 0 where
  pub none : room.places ≡ 0
  pub no_job : room.job ≡ None
  pub next : range.first ≡ room.sealed + 1
  pub order : range.first ≤ range.last
  pub high : range.last ≤ greatest
  pub ordered : IsTrue (is_ordered own)
  pub rows : AllByRecursion (FitsRow mark.Two) own

-- a part of rows over the lowest of some free regions
unfoldable pub part_over : ℕ → List ℕ → Range → List Row → Part
part_over k free range rows = record {
  region = slice_index free 0;
  header = record {
    mark = if k == 1 then mark.Two else mark.Three;
    range = range;
    rows = length rows;
    nodes = length (nodes_in rows);
    area = rows_len rows;
    regions = k;
    more = take (k - 1) (drop 1 free) ++ replicate (7 - (k - 1)) 0;
  };
}

-- the lowest free regions, as many as rows need
abbrev pub taken_for : RoomState → List Row → List ℕ
taken_for room rows = take (unwrap_or (regions_for room.region_len rows) 0) room.free

-- the state behind the sealing of such a part
unfoldable pub adopted_state : RoomState → ℕ → Range → List Row → RoomState
adopted_state room k range rows = record room { sealed = range.last; parts = room.parts ++ part_over k room.free range rows ∷ []; free = drop k room.free }

-- The part is live, one region besides its own stays free, and the room is as if made on the disk as it is then.
pub record Adopts (range : Range) (rows : List Row) (old new : RoomValue) : Type 0 where
  pub regions : ℕ
  pub needed : regions_for old.room.region_len rows ≡ Some regions
  pub enough : regions < length old.room.free
  pub was_open : old.room.is_shut ≡ false
  pub room : new.room ≡ on (adopted_state old.room regions range rows) new.disk
  pub target : new.target ≡ old.target
  pub entry : new.entry ≡ new.disk
  pub synced : new.disk.unsynced ≡ []
  pub counts : KeepsCounts old.disk new.disk

-- how many bytes rows and their index take in several regions, and how many eight regions have for them with the longest header
abbrev pub need_over : List Row → ℕ
need_over rows = saturated (encoded_len rows + 29)

abbrev pub most_room : ℕ → ℕ
most_room region_len = region_len + 7 * (region_len - 1)

-- the two refusals of size leave the room as it was; a failure of the disk loses the part's regions
abbrev pub AdoptsOr : Range → List Row → RoomValue → RoomValue → Result (Unit {0}) AdoptFault → Type 0
AdoptsOr range rows old new (Ok u) = Adopts range rows old new
AdoptsOr range rows old new (Err (adopt_fault.TooLarge need room)) =
    (old.room.is_shut ≡ false) × (regions_for old.room.region_len rows ≡ None) × (need ≡ need_over rows) × (room ≡ most_room old.room.region_len) × (new ≡ old)
AdoptsOr range rows old new (Err (adopt_fault.Full free need)) =
    (old.room.is_shut ≡ false) × (regions_for old.room.region_len rows ≡ Some need) × (free ≡ length old.room.free) × (free ≤ need) × (new ≡ old)
AdoptsOr range rows old new (Err (adopt_fault.Room fault)) = refuses fault
  where
    refuses : RoomFault → Type 0
    refuses room_fault.Disk =
        (k : ℕ) × (regions_for old.room.region_len rows ≡ Some k) × (k < length old.room.free)
        × Shuts (record old.room { free = drop k old.room.free }) old.target (take k old.room.free) old new
    refuses (room_fault.Shut epoch) = WasShut epoch old new
    refuses room_fault.NoMemory = Does old.room old.target old new

-- ---- what the room stands for

-- a room that stood for a log at entry stands for it with these rows behind, as if made now
abbrev pub StandsForBoth : RoomValue → RoomValue → Range → List Row → Type 0
StandsForBoth old new range rows = (first : List Row) (e : ℕ) → Stands old first e [] → Stands new (first ++ rows) range.last []

-- the disk has the part, with its epochs and its rows, where it tells its bytes
abbrev pub HoldsRows : RoomValue → RoomValue → Range → List Row → Type 0
HoldsRows old new range rows = IfSome new.disk.told (λ told. IsSealed new.disk.region_len told.bytes (slice_index old.room.free 0) range rows)

-- each image of a moment of the call shows the log as it was, or all of these rows behind it
abbrev pub ShowsEither : RoomValue → Option Told → Option Told → Range → List Row → List Row → Type 0
ShowsEither old (Some before) (Some now) range first rows =
    (image : Image) → IsImageSince (clock_of before) now image
    → ShowsSome old.room.region_len first [] old.room.sealed old.room.sealed image ⊎ ShowsSome old.room.region_len (first ++ rows) [] range.last range.last image
ShowsEither old _ _ range first rows = ⊤

abbrev pub ShownBoth : RoomValue → RoomValue → Range → List Row → Type 0
ShownBoth old new range rows = (first : List Row) (e : ℕ) → Stands old first e [] → ShowsEither old old.disk.told new.disk.told range first rows

-- After a failure of the disk an image may show the rows. After each other refusal the room stands for what it stood for.
abbrev pub StandsAfter : RoomValue → RoomValue → Result (Unit {0}) AdoptFault → Type 0
StandsAfter old new (Ok u) = ⊤
StandsAfter old new (Err fault) = fault ≢ adopt_fault.Room room_fault.Disk → GoesOnStanding old new

-- all that taking rows in does
pub record Adoption (range : Range) (rows : List Row) (old new : RoomValue) (result : Result (Unit {0}) AdoptFault) : Type 0 where
  pub room : AdoptsOr range rows old new result
  pub stands : OnOk result (StandsForBoth old new range rows)
  pub holds : OnOk result (HoldsRows old new range rows)
  pub refused : StandsAfter old new result
  pub inside : ShownBoth old new range rows
  pub becomes : Becomes old.room new.room
  pub time : ContinuesOn old.disk new.disk
  pub beside : SameBeside old.disk new.disk
  pub read : KeepsBeside (taken_for old.room rows) old.disk new.disk
