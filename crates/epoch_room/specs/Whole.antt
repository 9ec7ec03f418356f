-- What holds of every room.
use Rattle.std.specs.Prelude.{◌≡◌, ◌↔◌, ℕ, ◌+◌, ◌-◌, ◌*◌, ◌%◌, ◌^◌, ◌<◌, ◌≤◌, ◌==◌, nat_eq, true, false, IsTrue, if◌then◌else◌, List, [], ◌∷◌, ◌++◌, length, map, drop, Some, None, IfSome, slice_get, Ok, Any, Contains, ⊤, All, IsPermutation}
use Rattle.std.specs.List.{AllByRecursion, list_any}
use Rattle.fine_model.specs.declared.Header.{Header}
use Rattle.fine_model.specs.declared.Job.{Job}
use Rattle.fine_model.specs.declared.Mark.TheVariants as mark
use Rattle.fine_model.specs.declared.Part.{Part}
use Rattle.fine_model.specs.declared.law.OpenedEye.{OpenedEye}
use Rattle.fine_model.specs.declared.law.RoomState.{RoomState}
use Rattle.fine_model.specs.RowBytes.{greatest, longest_region, most_in_log, most_regions, FitsRow, short_header}
use Rattle.fine_model.specs.Merge.{cost, fits_in}
use Rattle.fine_model.specs.Regions.{Image, region_of, is_sealed, HasHeader, body_len}
use Rattle.fine_model.specs.Chain.{chain, chain_end, regions_of}
use Rattle.fine_model.specs.Trees.{is_distinct}
use Rattle.fine_model.specs.Boards.{posted, named, held_of}
use Rattle.fine_model.specs.Views.{SameSeen}
use Rattle.partition_index.specs.Parts.{LiesIn}
use Rattle.log_disk.specs.Disk.{Disk, HasRisen, IsSound}
use Rattle.log_disk.specs.Moments.{ContinuesOn, IsLeft}
use Rattle.epoch_room.specs.Value.{RoomValue, all_regions, regions_outside, taken, on}

-- the limits of a disk: 4 to 64 regions of 4,096 to 67,108,864 bytes, whole KiB
pub record HasGeometry (disk : Disk) : Type 0 where
  pub regions_low : 4 ≤ disk.regions
  pub regions_high : disk.regions ≤ most_in_log
  pub len_low : 4096 ≤ disk.region_len
  pub len_high : disk.region_len ≤ longest_region
  pub whole : disk.region_len % 1024 ≡ 0

-- the ranges of parts follow one another from an epoch on
abbrev pub FollowOn : ℕ → List Part → Type 0
FollowOn next [] = ⊤
FollowOn next (p ∷ parts) =
    (p.header.range.first ≡ next) × (next ≤ p.header.range.last) × (p.header.range.last ≤ greatest) × FollowOn (p.header.range.last + 1) parts

pub record AreInChain (parts : List Part) : Type 0 where
  pub follow : FollowOn 1 parts

-- a part has 1 to 8 regions, and its header seven entries for those behind the lead
pub record HasRegions (p : Part) : Type 0 where
  pub low : 1 ≤ p.header.regions
  pub high : p.header.regions ≤ most_regions
  pub more : length p.header.more ≡ 7

-- regions of a disk, none of them twice
pub record AreApart (regions : ℕ) (some : List ℕ) : Type 0 where
  pub distinct : IsTrue (is_distinct some)
  pub below : AllByRecursion (λ r. r < regions) some

-- numbers ascend strictly
abbrev pub AreRising : List ℕ → Type 0
AreRising [] = ⊤
AreRising (x ∷ xs) = AllByRecursion (λ y. x < y) xs × AreRising xs

-- the sealed regions of an image are the leads of these parts, which have their headers there; the live ones are its chain
pub record HoldsParts (region_len : ℕ) (image : Image) (live retired : List Part) : Type 0 where
  pub is_chain : chain region_len image ≡ Ok live
  pub leads : (region : ℕ) → region < length image → is_sealed (region_of image region) ≡ list_any (λ p. p.region == region) (live ++ retired)
  pub headers : AllByRecursion (λ p. HasHeader region_len image p.region p.header) (live ++ retired)

-- ---- the beginning

-- the parts that a room is made with
pub record AreParts (disk : Disk) (live retired : List Part) : Type 0 where
  pub in_chain : AreInChain live
  pub lie : AllByRecursion (λ p. LiesIn disk.region_len p.header) (live ++ retired)
  pub apart : AreApart disk.regions (all_regions (live ++ retired))
  pub rising : AreRising (map (λ p. p.region) retired)
  pub told : IfSome disk.told (λ told. HoldsParts disk.region_len told.bytes live retired)

-- a disk on which a room is made: nothing is unsynced, and no eye is open
pub record IsIdle (disk : Disk) : Type 0 where
  pub geometry : HasGeometry disk
  pub synced : disk.unsynced ≡ []
  pub no_eyes : disk.eyes ≡ []

-- ---- the board

-- what an eye names of a part it names of all its regions, and it names nothing else
abbrev pub NamesWhole : List Part → ℕ × List ℕ → Type 0
NamesWhole parts eye = AllByRecursion (λ r. Any (λ p. Contains (regions_of p) r × AllByRecursion (Contains eye.1) (regions_of p)) parts) eye.1

-- The open eyes are those on the board, each once, and name parts alone. Each entry tells what a read of the disk gives on its regions:
-- nothing is written to a region that an open eye names.
pub record AreOnBoard (room : RoomState) : Type 0 where
  pub seats : (n : ℕ) × (1 ≤ n) × (n ≤ 18) × (length room.board ≡ 3 * n)
  pub eyes : IsPermutation (map named room.eyes) (map held_of (posted room.board))
  pub once : IsTrue (is_distinct (map (λ eye. eye.0) room.eyes))
  pub given : AllByRecursion (λ eye. Contains room.given eye.0) room.eyes
  pub of_parts : AllByRecursion (NamesWhole (room.parts ++ room.retired)) room.eyes
  pub shows : AllByRecursion (λ eye. SameSeen eye.regions room.image eye.told) (posted room.board)

-- ---- the job

-- the header of a job that has taken its regions: good but for what is on the disk
pub record IsTaken (region_len : ℕ) (job : Job) (header : Header) : Type 0 where
  pub range : header.range ≡ record { first = job.older.header.range.first; last = job.newer.header.range.last }
  pub of_mark : header.mark ≡ (if header.regions == 1 then mark.Two else mark.Three)
  pub lies : LiesIn region_len header
  pub least : 2 ≤ header.regions → fits_in region_len (header.regions - 1) (body_len header) ≡ false
  pub counted : (header.rows < 2 ^ 32) × (header.nodes ≤ header.rows) × ((header.nodes ≡ 0) ↔ (header.rows ≡ 0)) × ((header.area ≡ 0) ↔ (header.rows ≡ 0))
  pub behind : AllByRecursion (λ r. r ≡ 0) (drop (header.regions - 1) header.more)
  pub within : job.written ≤ body_len header

-- a job: two neighbours of the chain; before it has taken regions, nothing is written
pub record IsJob (room : RoomState) (job : Job) : Type 0 where
  pub before : List Part
  pub after : List Part
  pub neighbours : room.parts ≡ before ++ job.older ∷ job.newer ∷ after
  pub untaken : job.header ≡ None → (job.target ≡ 0) × (job.written ≡ 0)
  pub is_taken : (header : Header) → job.header ≡ Some header → IsTaken room.region_len job header

-- ---- the open epoch and the entry

-- the open epoch: no entry and no target, or rows that fit the region that is its target
pub record IsOpenEpoch (value : RoomValue) : Type 0 where
  pub none : value.room.waiting ≡ 0 → (value.target ≡ None) × (value.room.open_rows ≡ []) × (value.room.used ≡ 0)
  -- a seal that failed has no target any more
  pub some : value.room.lost ≡ [] → 1 ≤ value.room.waiting → (region : ℕ) × (value.target ≡ Some region)
  pub fits : AllByRecursion (FitsRow mark.Two) value.room.open_rows
  pub costs : cost value.room.open_rows ≤ value.room.used
  pub within : short_header + value.room.used ≤ value.room.region_len
  pub entries : value.room.waiting ≤ value.room.places
  pub places : value.room.places ≤ greatest
  pub epoch : 1 ≤ value.room.waiting → value.room.sealed + 1 ≤ greatest

-- the disk went on since the room was made
pub record HasEntry (value : RoomValue) : Type 0 where
  pub regions : value.entry.regions ≡ value.disk.regions
  pub region_len : value.entry.region_len ≡ value.disk.region_len
  pub time : ContinuesOn value.entry value.disk
  pub no_lower : (value.entry.faults ≤ value.disk.faults) × (value.entry.own_faults ≤ value.disk.own_faults)
  pub failed : value.room.is_shut ≡ true → HasRisen value.entry.own_faults value.disk.own_faults × HasRisen value.entry.faults value.disk.faults

-- ---- all of it

pub record IsWhole (value : RoomValue) : Type 0 where
  pub geometry : HasGeometry value.disk
  pub sound : IsSound value.disk
  pub of_disk : value.room ≡ on value.room value.disk
  pub in_chain : AreInChain value.room.parts
  pub ends : value.room.sealed ≡ chain_end value.room.parts
  pub lie : AllByRecursion (λ p. LiesIn value.disk.region_len p.header) (value.room.parts ++ value.room.retired)
  -- each region is free, the target, the job's, of one part, or lost, and only one of these
  pub apart : AreApart value.disk.regions (taken value.room value.target)
  pub free : value.room.free ≡ regions_outside value.disk.regions (taken value.room value.target)
  pub rising : AreRising (map (λ p. p.region) value.room.retired)
  pub board : AreOnBoard value.room
  pub epoch : IsOpenEpoch value
  pub job : IfSome value.room.job (IsJob value.room)
  pub entry : HasEntry value
  pub lost : value.room.is_shut ≡ false → value.room.lost ≡ []
  -- as long as no call failed that was writing: what is unsynced is of no part, and each image that a crash may leave has the parts
  pub unsynced : value.room.lost ≡ [] → All (λ r. list_any (nat_eq r) (all_regions (value.room.parts ++ value.room.retired)) ≡ false) value.disk.unsynced
  pub told : value.room.lost ≡ [] → IfSome value.disk.told (IsLeft (λ image. HoldsParts value.disk.region_len image value.room.parts value.room.retired))

-- ---- laws

-- an eye that stands on the board of a whole room tells what a read of the disk gives on its regions
abbrev pub BoardShows : Type 0
BoardShows = (value : RoomValue) (at : ℕ) (eye : OpenedEye) → IsWhole value → slice_get value.room.board at ≡ Some (Some eye) → SameSeen eye.regions value.room.image eye.told
