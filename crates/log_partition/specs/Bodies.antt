-- What reading a body answers.
use Rattle.std.specs.Prelude.{◌≡◌, ℕ, ◌≤◌, List, ◌++◌, length, drop, IsTrue, true, []}
use Rattle.std.specs.List.{AllByRecursion}
use Rattle.fine_model.specs.declared.Header.{Header}
use Rattle.fine_model.specs.declared.Mark.{Mark}
use Rattle.fine_model.specs.declared.Row.{Row}
use Rattle.fine_model.specs.RowBytes.{rows_bytes, rows_len, FitsRow, FitsRec}
use Rattle.fine_model.specs.Merge.{is_ordered, nodes_in}
use Rattle.fine_model.specs.Regions.{body_bytes, index_bytes, index_area, BeginsWithRows, IsBadRow, IsBadItem}
use Rattle.log_partition.specs.declared.fault.DecodeFault.{DecodeFault}
use Rattle.log_partition.specs.declared.fault.DecodeFault.TheVariants as fault

-- the rows of a body, in order, with their index
pub record HasRows (header : Header) (body : List ℕ) (rows : List Row) : Type 0 where
  pub count : header.rows ≡ length rows
  pub nodes : header.nodes ≡ length (nodes_in rows)
  pub area : header.area ≡ rows_len rows
  pub fit : AllByRecursion (FitsRow header.mark) rows
  pub ordered : IsTrue (is_ordered rows)
  pub spelled : body ≡ body_bytes rows

-- a fault of a body names its first bad row or index entry; want of memory says nothing
abbrev pub NamesBadItem : Header → List ℕ → DecodeFault → Type 0
NamesBadItem header body (fault.Bad at) = IsBadItem header body at
NamesBadItem header body fault.NoMemory = Unit {0}

-- a fault of the row area names its first bad row
abbrev pub NamesBadRow : Header → List ℕ → DecodeFault → Type 0
NamesBadRow header body (fault.Bad at) = IsBadRow header body at
NamesBadRow header body fault.NoMemory = Unit {0}

-- the rows of a body's row area, all of them
pub record AreTheRows (header : Header) (body : List ℕ) (rows : List Row) : Type 0 where
  pub good : BeginsWithRows header body rows []
  pub all : length rows ≡ header.rows
  pub area : header.area ≡ rows_len rows

-- the index of a body is that of these rows
pub record IsTheIndex (header : Header) (body : List ℕ) (rows : List Row) : Type 0 where
  pub nodes : header.nodes ≡ length (nodes_in rows)
  pub index : index_area header body ≡ index_bytes rows

-- what is known of the rows that were read, and of the place behind them
pub record ReadSoFar (mark : Mark) (area : List ℕ) (rows : List Row) (at : ℕ) : Type 0 where
  pub fit : AllByRecursion (FitsRow mark) rows
  pub ordered : is_ordered rows ≡ true
  pub spelled : area ≡ rows_bytes rows ++ drop at area
  pub place : at ≡ rows_len rows
  pub within : at ≤ length area

-- each row has a body that has a spelling
abbrev pub HaveLengths : List Row → Type 0
HaveLengths rows = AllByRecursion (λ row. FitsRec row.rec) rows
