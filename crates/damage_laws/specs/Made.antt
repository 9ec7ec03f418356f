-- What the parts that are there now were made of, and what is found in them by the bytes at entry. Each law is the contract of a function.
use Rattle.std.specs.Prelude.{◌≡◌, ℕ, List, [], ◌∷◌, ◌++◌, map, flat_map, Some}
use Rattle.std.specs.List.{AllByRecursion}
use Rattle.log_disk.specs.Disk.{Eye}
use Rattle.fine_model.specs.declared.NodeId.{NodeId}
use Rattle.fine_model.specs.declared.Part.{Part}
use Rattle.fine_model.specs.declared.Row.{Row}
use Rattle.fine_model.specs.Damages.{FindsRows}
use Rattle.fine_model.specs.Merge.{image_of, merged_into}
use Rattle.fine_model.specs.Nodes.{base, replay, rows_of}
use Rattle.fine_model.specs.Regions.{Image, HasHeader, IsSealed}
use Rattle.fine_model.specs.VersionLaws.{HaveSameRows}
use Rattle.partition_index.specs.Parts.{IsSeen}
use Rattle.partition_merge.specs.Joined.{IsFoundIn, IsMergedOf}
use Rattle.damage_laws.specs.Places.{IsUnchanged}

-- a part at entry, or rows that were sealed since
pub data Source : Type 0 where
  at_entry : Part → Source
  since : List Row → Source

-- one of these; or two neighbours, the older one first, that were merged, or of which the rows stand one behind the other as they were
pub data Made : Type 0 where
  one : Source → Made
  joined : Made → Made → Made
  beside : Made → Made → Made

-- all that it was made of, in order
abbrev pub sources : Made → List Source
sources (one s) = s ∷ []
sources (joined a b) = sources a ++ sources b
sources (beside a b) = sources a ++ sources b

-- what the rows of a node are merged into
abbrev pub merged_rows : NodeId → List Row → List Row
merged_rows id own = merged_into id own (replay (base id) own).1 (image_of (replay (base id) own).0)

-- the rows of a node that a source has, by the bytes at entry
abbrev pub FindsIn : ℕ → Image → NodeId → Source → List Row → Type 0
FindsIn region_len entry id (at_entry p) rows = FindsRows region_len entry id p rows
FindsIn region_len entry id (since own) rows = rows ≡ rows_of id own

-- and that a part has which was made so
abbrev pub HasRows : ℕ → Image → NodeId → Made → List Row → Type 0
HasRows region_len entry id (one s) rows = FindsIn region_len entry id s rows
HasRows region_len entry id (joined a b) rows =
    (older newer : List Row) × HasRows region_len entry id a older × HasRows region_len entry id b newer × (rows ≡ merged_rows id (older ++ newer))
HasRows region_len entry id (beside a b) rows = (older newer : List Row) × HasRows region_len entry id a older × HasRows region_len entry id b newer × (rows ≡ older ++ newer)

-- a part was made so: of each node it has these rows
pub record IsMadeOf (region_len : ℕ) (entry now : Image) (m : Made) (p : Part) : Type 0 where
  pub each : (id : NodeId) (rows : List Row) → FindsRows region_len now id p rows → HasRows region_len entry id m rows

-- Parts were made of all parts at entry, and behind these of lists of rows that were sealed since.
pub record AreMadeOf (region_len : ℕ) (entry now : Image) (parts : List Part) (sealed : List (List Row)) (present : List Part) : Type 0 where
  pub made : List (Made × Part)
  pub are : present ≡ map (λ m. m.1) made
  pub of_all : flat_map (λ m. sources m.0) made ≡ map at_entry parts ++ map since sealed
  pub each : AllByRecursion (λ m. IsMadeOf region_len entry now m.0 m.1) made

-- ---- one part

-- a part that is unchanged is made of itself
abbrev pub KeptLaw : Type 0
KeptLaw = (region_len : ℕ) (entry now : Image) (p : Part) → IsUnchanged region_len entry now p → IsMadeOf region_len entry now (one (at_entry p)) p

-- one that was sealed has the rows that it was sealed of
abbrev pub SealedLaw : Type 0
SealedLaw =
    (region_len : ℕ) (entry now : Image) (p : Part) (own rows : List Row) → HasHeader region_len now p.region p.header → IsSealed region_len now p.region p.header.range rows → HaveSameRows own rows
    → IsMadeOf region_len entry now (one (since own)) p

-- of each node, rows are those that a part has which was made so
abbrev pub AreRowsAs : ℕ → Image → Made → List Row → Type 0
AreRowsAs region_len entry m rows = (id : NodeId) → HasRows region_len entry id m (rows_of id rows)

-- rows that stand behind others
abbrev pub BesideLaw : Type 0
BesideLaw =
    (region_len : ℕ) (entry : Image) (a b : Made) (older newer : List Row) → AreRowsAs region_len entry a older → AreRowsAs region_len entry b newer → AreRowsAs region_len entry (beside a b) (older ++ newer)

-- A part that was sealed of such rows, of each node the same in the same order, is made so.
abbrev pub GatheredLaw : Type 0
GatheredLaw =
    (region_len : ℕ) (entry now : Image) (m : Made) (p : Part) (own rows : List Row) → HasHeader region_len now p.region p.header → IsSealed region_len now p.region p.header.range rows → HaveSameRows own rows
    → AreRowsAs region_len entry m own → IsMadeOf region_len entry now m p

-- What a look for a node finds in a part that an eye sees, in the grammar or not, is found.
abbrev pub LookedUpLaw : Type 0
LookedUpLaw = (eye : Eye) (image : Image) (p : Part) (id : NodeId) (rows : List Row) → IsSeen eye p → eye.told ≡ Some image → IsFoundIn image p id rows → FindsRows eye.region_len image id p rows

-- A part that was merged of two, in the grammar or not, which an eye sees, is made of both: each node's rows are those that a look finds in them, merged.
abbrev pub JoinsLaw : Type 0
JoinsLaw =
    (eye : Eye) (entry was now : Image) (a b : Made) (older newer p : Part) (rows : List Row) → IsSeen eye older → IsSeen eye newer → eye.told ≡ Some was
    → IsMadeOf eye.region_len entry was a older → IsMadeOf eye.region_len entry was b newer
    → HasHeader eye.region_len now p.region p.header → IsSealed eye.region_len now p.region p.header.range rows → ((id : NodeId) → IsMergedOf was older newer id (rows_of id rows))
    → IsMadeOf eye.region_len entry now (joined a b) p

-- ---- all parts

-- lists of rows, one behind the other
abbrev pub all_of : List (List Row) → List Row
all_of lists = flat_map (λ rows. rows) lists
