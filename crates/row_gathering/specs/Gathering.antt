-- What gathering the rows of parts reads and answers.
use Rattle.std.specs.Prelude.{◌≡◌, ◌≢◌, ◌⊎◌, ℕ, ◌+◌, ◌<◌, Any, List, IfSome, IsPermutation, IsTrue, sum_by}
use Rattle.std.specs.List.{AllByRecursion}
use Rattle.fine_model.specs.declared.Mark.TheVariants as mark
use Rattle.fine_model.specs.declared.Part.{Part}
use Rattle.fine_model.specs.declared.Row.{Row}
use Rattle.fine_model.specs.Chain.{AreRowsOf}
use Rattle.fine_model.specs.Merge.{is_ordered}
use Rattle.fine_model.specs.Regions.{Image, HasHeader, body_len}
use Rattle.fine_model.specs.RowBytes.{FitsRow, rows_bytes, short_header}
use Rattle.fine_model.specs.VersionLaws.{HaveSameRows}
use Rattle.log_disk.specs.Disk.{CountsOwn, Disk, SameBeside}
use Rattle.log_partition.specs.Encoding.{AreRowsAt}
use Rattle.row_gathering.specs.declared.gathering.Gathered.{Gathered}

-- nothing of a disk is another but the counts
pub record OnlyReads (failed : Type 0) (old new : Disk) : Type 0 where
  pub told : new.told ≡ old.told
  pub unsynced : new.unsynced ≡ old.unsynced
  pub beside : SameBeside old new
  pub counts : CountsOwn failed old new

-- Rows are those of parts by an image, in which all of the parts are in the grammar: all of them, and of each node the same in the same order.
pub record AreGathered (region_len : ℕ) (image : Image) (parts : List Part) (rows : List Row) : Type 0 where
  pub own : List Row
  pub are_rows : AreRowsOf region_len image parts own
  pub permuted : IsPermutation own rows
  pub same : HaveSameRows own rows

-- the bytes of the bodies of parts
abbrev pub bodies_len : List Part → ℕ
bodies_len parts = sum_by (λ p. body_len p.header) parts

-- What was gathered is some rows in order, as they lie in the bytes, which fit one region. The bytes have nothing but these rows: one behind the other, of each node in
-- the same order. Where the disk tells its bytes, they are the rows of the parts, part behind part.
pub record GathersRows (disk : Disk) (parts : List Part) (gathered : Gathered) : Type 0 where
  pub rows : List Row
  pub at : AreRowsAt disk.region_len gathered.bytes.items gathered.keys.items rows
  pub ordered : IsTrue (is_ordered rows)
  pub fit : AllByRecursion (FitsRow mark.Two) rows
  pub own : List Row
  pub spelled : gathered.bytes.items ≡ rows_bytes own
  pub permuted : IsPermutation own rows
  pub same : HaveSameRows own rows
  pub of_parts : IfSome disk.told (λ told. AllByRecursion (λ p. HasHeader disk.region_len told.bytes p.region p.header) parts → AreRowsOf disk.region_len told.bytes parts own)
  pub told : IfSome disk.told (λ told. AllByRecursion (λ p. HasHeader disk.region_len told.bytes p.region p.header) parts → AreGathered disk.region_len told.bytes parts rows)

-- Where a disk tells its bytes, and parts have their headers in them, no rows in order are gathered from the parts: one of them is not in the grammar, or versions
-- of a node do not ascend from part to part.
abbrev pub LackRows : Disk → List Part → Type 0
LackRows disk parts =
    IfSome disk.told (λ told. AllByRecursion (λ p. HasHeader disk.region_len told.bytes p.region p.header) parts
    → (rows : List Row) → IsTrue (is_ordered rows) → AreGathered disk.region_len told.bytes parts rows → ⊥)

-- Why rows are not gathered: a part lies over several regions, the bodies do not fit one together, or no rows in order are those of the parts.
abbrev pub Declines : Disk → List Part → Type 0
Declines disk parts = Any (λ p. p.header.regions ≢ 1) parts ⊎ ((disk.region_len < short_header + bodies_len parts) ⊎ LackRows disk parts)
