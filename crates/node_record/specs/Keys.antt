-- Rows by where they lie in bytes.
use Rattle.std.specs.Prelude.{◌≡◌, ℕ, ◌+◌, ◌≤◌, Bool, List, [], ◌∷◌, length, take, drop, IsPermutation}
use Rattle.std.specs.List.{AllByRecursion}
use Rattle.std.specs.Ordering.{nat_cmp, ordering_then, is_lt}
use Rattle.fine_model.specs.declared.Row.{Row}
use Rattle.fine_model.specs.declared.Mark.TheVariants as mark
use Rattle.fine_model.specs.RowBytes.{row_bytes, rows_bytes, row_len, FitsRow}
use Rattle.fine_model.specs.Merge.{node_cmp}
use Rattle.node_record.specs.declared.key.RowAt.{RowAt}
use Rattle.node_record.specs.Rows.{IsRowAt}

-- a key is that of a row, and the row's bytes lie where it says
pub record IsKeyOf (bytes : List ℕ) (row : Row) (key : RowAt) : Type 0 where
  pub node : key.node ≡ row.node
  pub version : key.version ≡ row.version
  pub len : key.len ≡ row_len row
  pub within : key.at + key.len ≤ length bytes
  pub spelled : take key.len (drop key.at bytes) ≡ row_bytes row

-- the keys of rows, one for each, in the order of the rows
abbrev pub AreKeysOf : List ℕ → List Row → List RowAt → Type 0
AreKeysOf bytes [] [] = Unit {0}
AreKeysOf bytes (row ∷ rows) (key ∷ keys) = IsKeyOf bytes row key × AreKeysOf bytes rows keys
AreKeysOf bytes [] (key ∷ keys) = ⊥
AreKeysOf bytes (row ∷ rows) [] = ⊥

-- bytes are these rows, one behind the other
pub record AreRows (bytes : List ℕ) (rows : List Row) : Type 0 where
  pub spelled : bytes ≡ rows_bytes rows
  pub fit : AllByRecursion (FitsRow mark.Two) rows

-- a row starts at a place, and ends where its length says
abbrev pub StartsAt : List ℕ → ℕ → Row → Type 0
StartsAt bytes at row = IsRowAt mark.Two bytes at row (at + row_len row)

-- the order in which keys are sorted, which is that of their rows
abbrev pub is_key_below : RowAt → RowAt → Bool
is_key_below a b = is_lt (ordering_then (node_cmp a.node b.node) (nat_cmp a.version b.version))

-- keys sorted otherwise are the keys of the same rows, ordered as the keys are
pub record AreSorted (bytes : List ℕ) (rows : List Row) (sorted : List RowAt) : Type 0 where
  pub arranged : List Row
  pub permuted : IsPermutation rows arranged
  pub keys : AreKeysOf bytes arranged sorted

abbrev pub SortedLaw : Type 0
SortedLaw = (bytes : List ℕ) (rows : List Row) (keys sorted : List RowAt) → AreKeysOf bytes rows keys → IsPermutation keys sorted → AreSorted bytes rows sorted
