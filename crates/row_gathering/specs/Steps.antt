-- What each step of gathering does.
use Rattle.std.specs.Prelude.{◌≡◌, ℕ, ◌+◌, ◌-◌, ◌*◌, ◌<◌, ◌≤◌, List, [], ◌∷◌, ◌++◌, ◌&&◌, Bool, true, IfSome, IsPermutation, IsTrue, Option, Some, None, drop, length, slice_get, take}
use Rattle.std.specs.List.{AllByRecursion}
use Rattle.fine_model.specs.declared.Header.{Header}
use Rattle.fine_model.specs.declared.Mark.TheVariants as mark
use Rattle.fine_model.specs.declared.Part.{Part}
use Rattle.fine_model.specs.declared.Row.{Row}
use Rattle.fine_model.specs.Chain.{AreRowsOf}
use Rattle.fine_model.specs.Merge.{cost, is_ordered}
use Rattle.fine_model.specs.Regions.{HasHeader, IsBadItem, IsSealed, body_len, index_area, index_bytes, row_area}
use Rattle.fine_model.specs.RowBytes.{FitsRow, index_entry, row_len, rows_bytes, rows_len, short_header}
use Rattle.fine_model.specs.VersionLaws.{HaveSameRows}
use Rattle.log_disk.specs.Disk.{Disk}
use Rattle.log_partition.specs.Bodies.{AreTheRows, HasRows, ReadSoFar}
use Rattle.node_record.specs.Keys.{AreKeysOf, AreRows, is_key_below}
use Rattle.node_record.specs.declared.key.RowAt.{RowAt}
use Rattle.partition_index.specs.Entries.{bytes_of}
use Rattle.partition_index.specs.Indexer.{IsBuilt}
use Rattle.partition_index.specs.Parts.{LiesIn}
use Rattle.partition_index.specs.declared.entries.IndexEntry.{IndexEntry}
use Rattle.row_gathering.specs.Gathering.{bodies_len}
use Rattle.row_gathering.specs.declared.gathering.Gathered.{Gathered}

-- a part lies in one region
pub record IsAlone (region_len : ℕ) (part : Part) : Type 0 where
  pub lies : LiesIn region_len part.header
  pub one : part.header.regions ≡ 1

-- parts lie in one region each, and their bodies have so many bytes, which fit one
pub record FitTogether (region_len : ℕ) (parts : List Part) (len : ℕ) : Type 0 where
  pub alone : AllByRecursion (IsAlone region_len) parts
  pub sum : len ≡ bodies_len parts
  pub fit : short_header + len ≤ region_len

-- ---- the keys of rows

abbrev pub key_from : ℕ → Row → RowAt
key_from at row = record { node = row.node; version = row.version; at = at; len = row_len row }

-- the keys of rows that stand one behind the other from a place on
abbrev pub keys_from : ℕ → List Row → List RowAt
keys_from at [] = []
keys_from at (row ∷ rows) = key_from at row ∷ keys_from (at + row_len row) rows

-- a key is that of the last row, if there is one
abbrev pub IsLast : List Row → Option RowAt → Type 0
IsLast rows None = rows ≡ []
IsLast rows (Some key) = (row : Row) × (slice_get rows (length rows - 1) ≡ Some row) × (key.node ≡ row.node) × (key.version ≡ row.version)

-- a key is above the last one
abbrev pub is_next : Option RowAt → RowAt → Bool
is_next None key = true
is_next (Some last) key = is_key_below last key

-- rows were found from the front of a body on, up to a place, and their keys stand behind those that stood there
pub record FoundSoFar (header : Header) (body : List ℕ) (start : ℕ) (old new : List RowAt) (last : Option RowAt) (count at : ℕ) : Type 0 where
  pub rows : List Row
  pub so_far : ReadSoFar header.mark (row_area header body) rows at
  pub counted : length rows ≡ count
  pub keys : new ≡ old ++ keys_from start rows
  pub is_last : IsLast rows last

-- the rows of a body's row area, all of them, and their keys behind those that stood there
pub record FindsRows (header : Header) (body : List ℕ) (start : ℕ) (old new : List RowAt) : Type 0 where
  pub rows : List Row
  pub are : AreTheRows header body rows
  pub keys : new ≡ old ++ keys_from start rows

-- ---- the index

-- an entry stands in the index of a body, by its number
abbrev pub StandsIn : Header → List ℕ → ℕ → IndexEntry → Type 0
StandsIn header body i entry = (i < header.nodes) × (take index_entry (drop (header.area + index_entry * i) body) ≡ bytes_of entry)

-- how many entries stand behind some with one that is whole, where there is one: none where it does not stand there
abbrev pub Passes : Header → List ℕ → ℕ → Option IndexEntry → Option ℕ → Type 0
Passes header body i None next = next ≡ Some i
Passes header body i (Some entry) (Some next) = (next ≡ i + 1) × StandsIn header body i entry
Passes header body i (Some entry) None = StandsIn header body i entry → ⊥

-- after so many rows of a body, so many entries of the index are those of these rows, and the last one is not whole
pub record IndexedSoFar (header : Header) (body : List ℕ) (rows : List Row) (count i : ℕ) (last : Option IndexEntry) (offset : ℕ) : Type 0 where
  pub whole : List IndexEntry
  pub built : IsBuilt (take count rows) whole last
  pub number : i ≡ length whole
  pub there : i ≤ header.nodes
  pub same : take (index_entry * i) (index_area header body) ≡ take (index_entry * i) (index_bytes rows)
  pub place : offset ≡ rows_len (take count rows)

-- ---- bodies

-- bytes are a body in the grammar, and the keys of its rows stand behind those that stood there
pub record AddsBody (header : Header) (body : List ℕ) (start : ℕ) (old new : List RowAt) : Type 0 where
  pub rows : List Row
  pub has : HasRows header body rows
  pub keys : new ≡ old ++ keys_from start rows

-- a body is not in the grammar: a row or an index entry is bad, unless rows are counted and no node
abbrev pub IsBadBody : Header → List ℕ → Type 0
IsBadBody header body = (header.nodes ≡ 0 → header.rows ≡ 0) → (at : ℕ) × IsBadItem header body at

-- the rows of a part, which are in the grammar where the disk tells its bytes
pub record HasPart (disk : Disk) (part : Part) (rows : List Row) : Type 0 where
  pub fit : AllByRecursion (FitsRow mark.Two) rows
  pub costs : cost rows ≤ body_len part.header
  pub told : IfSome disk.told (λ told. HasHeader disk.region_len told.bytes part.region part.header → IsSealed disk.region_len told.bytes part.region part.header.range rows)

-- where the disk tells its bytes, a part is not in the grammar
abbrev pub LacksPart : Disk → Part → Type 0
LacksPart disk part =
    IfSome disk.told (λ told. HasHeader disk.region_len told.bytes part.region part.header → (rows : List Row) → IsSealed disk.region_len told.bytes part.region part.header.range rows → ⊥)

-- the rows of a part stand in bytes from a place on, and their keys behind those that stood there
pub record AddsRows (disk : Disk) (part : Part) (start : ℕ) (bytes : List ℕ) (old new : List RowAt) : Type 0 where
  pub rows : List Row
  pub spelled : take part.header.area (drop start bytes) ≡ rows_bytes rows
  pub keys : new ≡ old ++ keys_from start rows
  pub has : HasPart disk part rows

-- bytes are the rows of parts, one behind the other, with their keys
pub record AreRead (disk : Disk) (parts : List Part) (bytes : List ℕ) (keys : List RowAt) : Type 0 where
  pub rows : List Row
  pub are : AreRows bytes rows
  pub keyed : keys ≡ keys_from 0 rows
  pub costs : cost rows ≤ bodies_len parts
  pub told : IfSome disk.told (λ told. AllByRecursion (λ p. HasHeader disk.region_len told.bytes p.region p.header) parts → AreRowsOf disk.region_len told.bytes parts rows)

-- ---- the order

-- keys ascend strictly by node and version
abbrev pub are_up : List RowAt → Bool
are_up [] = true
are_up (a ∷ []) = true
are_up (a ∷ b ∷ keys) = is_key_below a b && are_up (b ∷ keys)

-- the keys are those of the rows in order, of each node in the order in which they stood
pub record Arranges (bytes : List ℕ) (own : List Row) (gathered : Gathered) : Type 0 where
  pub rows : List Row
  pub kept : gathered.bytes.items ≡ bytes
  pub are : AreKeysOf bytes rows gathered.keys.items
  pub ordered : IsTrue (is_ordered rows)
  pub permuted : IsPermutation own rows
  pub same : HaveSameRows own rows

-- rows with the same ones of each node in the same order are not in order
abbrev pub NoneInOrder : List Row → Type 0
NoneInOrder own = (rows : List Row) → IsTrue (is_ordered rows) → HaveSameRows own rows → ⊥
