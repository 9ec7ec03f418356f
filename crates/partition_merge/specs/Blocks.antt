-- Merged rows in blocks.
use Rattle.std.specs.Prelude.{◌≡◌, ℕ, ◌+◌, ◌*◌, ◌<◌, ◌≤◌, Bool, true, false, List, [], ◌++◌, length}
use Rattle.std.specs.List.{AllByRecursion}
use Rattle.log_disk.specs.Disk.{Eye}
use Rattle.fine_model.specs.declared.Part.{Part}
use Rattle.fine_model.specs.declared.Row.{Row}
use Rattle.fine_model.specs.Merge.{is_node_below, merged, cost}
use Rattle.fine_model.specs.Regions.{body_bytes, index_bytes}
use Rattle.fine_model.specs.RowBytes.{rows_bytes, rows_len, index_entry}
use Rattle.partition_index.specs.Parts.{IsSeen}
use Rattle.partition_index.specs.Search.{TellsRows}
use Rattle.partition_merge.specs.declared.merger.Merger.{Merger}
use Rattle.partition_merge.specs.Mergers.{StandsAt, at_front, both_left, older_part, newer_part}

-- the merger, the most bytes of a block, and the block that stands there; the bytes that wait for the next blocks; the index of the nodes
-- that were handed out, and the bytes of their rows; and whether all nodes were, so that the index waits or was handed out too
pub record BlocksValue : Type 0 where
  pub merger : Merger
  pub most : ℕ
  pub block : List ℕ
  pub waiting : List ℕ
  pub index : List ℕ
  pub offset : ℕ
  pub is_whole : Bool

-- nothing was handed out yet
pub record IsAtStart (older newer : Part) (region_len most : ℕ) (blocks : BlocksValue) : Type 0 where
  pub merger : blocks.merger ≡ at_front older newer region_len
  pub most_is : blocks.most ≡ most
  pub block : blocks.block ≡ []
  pub waiting : blocks.waiting ≡ []
  pub index : blocks.index ≡ []
  pub offset : blocks.offset ≡ 0
  pub is_whole : blocks.is_whole ≡ false

-- the same two parts, in blocks of as many bytes
pub record SameBlocks (old new : BlocksValue) : Type 0 where
  pub older : older_part new.merger ≡ older_part old.merger
  pub newer : newer_part new.merger ≡ newer_part old.merger
  pub region_len : new.merger.region_len ≡ old.merger.region_len
  pub most : new.most ≡ old.most

-- each row names a lower node than each of the others
abbrev pub AreBelow : List Row → List Row → Type 0
AreBelow rows others = AllByRecursion (λ r. AllByRecursion (λ s. is_node_below r.node s.node ≡ true) others) rows

-- what of the body was made of rows that were handed out: their bytes, and at last the index
abbrev pub made_of : Bool → List Row → List ℕ
made_of false rows = rows_bytes rows
made_of true rows = body_bytes rows

-- The eye tells both parts in the grammar, and these bytes were handed out of the body of their merged rows, which has fewer than 2^32
-- bytes of rows: rows so far are made into bytes, which were handed out or wait.
pub record IsAhead (eye : Eye) (blocks : BlocksValue) (handed : List ℕ) (older newer : List Row) : Type 0 where
  pub small : rows_len (merged older newer) < 4294967296
  pub so_far : List Row
  pub left_older : List Row
  pub left_newer : List Row
  pub stands : StandsAt eye blocks.merger left_older left_newer
  pub together : merged older newer ≡ so_far ++ merged left_older left_newer
  pub below : AreBelow so_far (left_older ++ left_newer)
  pub made : handed ++ blocks.waiting ≡ made_of blocks.is_whole so_far
  pub none_left : blocks.is_whole ≡ true → (left_older ≡ []) × (left_newer ≡ [])
  pub index : blocks.is_whole ≡ false → blocks.index ≡ index_bytes so_far
  pub offset : blocks.offset ≡ rows_len so_far

-- a block more, or all of them
abbrev pub Gives : Eye → BlocksValue → List ℕ → List Row → List Row → Bool → Type 0
Gives eye blocks handed older newer true = IsAhead eye blocks (handed ++ blocks.block) older newer
Gives eye blocks handed older newer false = handed ≡ body_bytes (merged older newer)

-- what was handed out is no longer than the merged rows and an index entry for each of their nodes
abbrev pub HandedLen : Type 0
HandedLen = (eye : Eye) (blocks : BlocksValue) (handed : List ℕ) (older newer : List Row) → IsAhead eye blocks handed older newer → length handed ≤ cost (merged older newer)

-- merged rows of two parts that an eye sees and tells have fewer than 2^32 bytes
abbrev pub MergedSmall : Type 0
MergedSmall = (eye : Eye) (p q : Part) (older newer : List Row) → IsSeen eye p → IsSeen eye q → TellsRows eye p older → TellsRows eye q newer → rows_len (merged older newer) < 4294967296

-- how many steps are left at most: a node each, and the index
abbrev pub steps_left : BlocksValue → ℕ
steps_left blocks = count blocks.is_whole
  where
    count : Bool → ℕ
    count true = 0
    count false = 1 + both_left blocks.merger

-- The block has room for what it may have, and the index for an entry of each node that is left.
pub record HasRoom (merger : Merger) (most block_room at waiting index index_room : ℕ) (is_whole : Bool) : Type 0 where
  pub some : 1 ≤ most
  pub block : most ≤ block_room
  pub within : at ≤ waiting
  pub entries : is_whole ≡ false → index + index_entry * both_left merger ≤ index_room
