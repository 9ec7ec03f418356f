-- What fetches find and blame, where an eye tells its bytes, in the words of the model.
use Rattle.std.specs.Prelude.{◌≡◌, ℕ, List, Some}
use Rattle.std.specs.List.{AllByRecursion}
use Rattle.log_disk.specs.Disk.{Eye}
use Rattle.fine_model.specs.declared.Damage.{Damage}
use Rattle.fine_model.specs.declared.NodeId.{NodeId}
use Rattle.fine_model.specs.declared.Part.{Part}
use Rattle.fine_model.specs.declared.Row.{Row}
use Rattle.fine_model.specs.Nodes.{Content, content}
use Rattle.fine_model.specs.Regions.{Image, Place}
use Rattle.fine_model.specs.Trees.{IsSound}
use Rattle.fine_model.specs.Damages.{IsBadPlace, FindsContent, IsDamageOf}
use Rattle.partition_index.specs.Parts.{IsSeen}
use Rattle.partition_index.specs.Search.{TellsRows}
use Rattle.node_fetch.specs.Fetched.{HasBadRow, HasBadEntry, IsReplayOf, TellsParts}

-- a content that is the replay of what was read is one that a reader of the image finds
abbrev pub FoundLaw : Type 0
FoundLaw = (eye : Eye) (image : Image) (parts : List Part) (id : NodeId) (found : Content) → eye.told ≡ Some image → IsReplayOf eye parts id found → FindsContent eye.region_len image parts id found

-- a row or an entry that is blamed is at a bad place
abbrev pub RowLaw : Type 0
RowLaw = (image : Image) (region_len : ℕ) (p : Part) (id : NodeId) (place : Place) → HasBadRow (Some image) region_len p id place → IsBadPlace region_len image p place

abbrev pub EntryLaw : Type 0
EntryLaw = (image : Image) (region_len : ℕ) (p : Part) (place : Place) → HasBadEntry (Some image) region_len p place → IsBadPlace region_len image p place

-- a part in the grammar has no bad place
abbrev pub GoodLaw : Type 0
GoodLaw = (eye : Eye) (p : Part) (rows : List Row) (place : Place) → IsSeen eye p → (t : TellsRows eye p rows) → IsBadPlace eye.region_len t.image p place → ⊥

-- where all parts are in the grammar, what a reader finds is the node's content
abbrev pub ExactLaw : Type 0
ExactLaw =
    (eye : Eye) (parts : List Part) (rows : List Row) (id : NodeId) (found : Content) → (t : TellsParts eye parts rows) → FindsContent eye.region_len t.image parts id found
    → found ≡ content rows id

-- and where their rows are sound, no damage may be named
abbrev pub SoundLaw : Type 0
SoundLaw =
    (eye : Eye) (parts : List Part) (rows : List Row) (what : Damage) → AllByRecursion (IsSeen eye) parts → (t : TellsParts eye parts rows) → IsSound rows
    → IsDamageOf eye.region_len t.image parts what → ⊥
