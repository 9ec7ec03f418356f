-- What a fetch finds and blames in the parts that are there now, by the bytes at entry. Each law is the contract of a function.
use Rattle.std.specs.Prelude.{◌≡◌, ◌⊎◌, ℕ, List, Some, Any, Contains}
use Rattle.std.specs.List.{AllByRecursion}
use Rattle.log_disk.specs.Disk.{Eye}
use Rattle.fine_model.specs.declared.NodeId.{NodeId}
use Rattle.fine_model.specs.declared.Part.{Part}
use Rattle.fine_model.specs.declared.Row.{Row}
use Rattle.fine_model.specs.Chain.{regions_of}
use Rattle.fine_model.specs.ChainLaws.{SameIn}
use Rattle.fine_model.specs.Damages.{FindsRows, HasBadPlace, IsBadPlace}
use Rattle.fine_model.specs.Regions.{Image, Place, HasHeader, IsSealed, body_in}
use Rattle.node_fetch.specs.Fetched.{HasBadEntry, HasBadRow}
use Rattle.partition_index.specs.Parts.{IsSeen}

-- a part with its header whose regions have the bytes that they had at entry
pub record IsUnchanged (region_len : ℕ) (entry now : Image) (p : Part) : Type 0 where
  pub header : HasHeader region_len entry p.region p.header
  pub same : SameIn (regions_of p) entry now

-- one of the parts at entry
pub record IsKept (region_len : ℕ) (entry now : Image) (parts : List Part) (p : Part) : Type 0 where
  pub there : Contains parts p
  pub unchanged : IsUnchanged region_len entry now p

-- a part that is in the grammar, as is one that was sealed or merged since
pub record IsGood (region_len : ℕ) (now : Image) (p : Part) : Type 0 where
  pub header : HasHeader region_len now p.region p.header
  pub rows : List Row
  pub sealed : IsSealed region_len now p.region p.header.range rows

abbrev pub AreKeptOrGood : ℕ → Image → Image → List Part → List Part → Type 0
AreKeptOrGood region_len entry now parts present = AllByRecursion (λ p. IsKept region_len entry now parts p ⊎ IsGood region_len now p) present

-- ---- one part

-- its body is what it was
abbrev pub BodyLaw : Type 0
BodyLaw = (region_len : ℕ) (entry now : Image) (p : Part) → IsUnchanged region_len entry now p → body_in now p.region p.header ≡ body_in entry p.region p.header

-- what is bad in it was bad at entry
abbrev pub PlaceLaw : Type 0
PlaceLaw = (region_len : ℕ) (entry now : Image) (p : Part) (place : Place) → IsUnchanged region_len entry now p → IsBadPlace region_len now p place → IsBadPlace region_len entry p place

-- and the rows of a node that are found in it are found by the bytes at entry
abbrev pub FoundLaw : Type 0
FoundLaw = (region_len : ℕ) (entry now : Image) (p : Part) (id : NodeId) (rows : List Row) → IsUnchanged region_len entry now p → FindsRows region_len now id p rows → FindsRows region_len entry id p rows

-- ---- all parts that an eye sees

-- An eye tells the bytes of a disk, and sees parts of which each is kept or good.
pub record SeesKeptOrGood (eye : Eye) (entry : Image) (parts present : List Part) : Type 0 where
  pub now : Image
  pub told : eye.told ≡ Some now
  pub seen : AllByRecursion (IsSeen eye) present
  pub each : AreKeptOrGood eye.region_len entry now parts present

-- what is blamed of any of them is a bad place of the parts at entry
abbrev pub RowLaw : Type 0
RowLaw =
    (eye : Eye) (entry : Image) (parts present : List Part) (id : NodeId) (place : Place) → SeesKeptOrGood eye entry parts present
    → Any (λ p. HasBadRow eye.told eye.region_len p id place) present → HasBadPlace eye.region_len entry parts place

abbrev pub EntryLaw : Type 0
EntryLaw =
    (eye : Eye) (entry : Image) (parts present : List Part) (place : Place) → SeesKeptOrGood eye entry parts present
    → Any (λ p. HasBadEntry eye.told eye.region_len p place) present → HasBadPlace eye.region_len entry parts place
