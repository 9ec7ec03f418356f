-- Headers of partitions, written and read back, and partitions that are written behind them.
use Rattle.std.specs.Prelude.{◌≡◌, ◌↔◌, ℕ, ◌-◌, ◌^◌, ◌<◌, ◌≤◌, true, false, IsTrue, List, ◌∷◌, ◌++◌, length, map, Some, Ok}
use Rattle.std.specs.List.{AllByRecursion, range_with_len}
use Rattle.fine_model.specs.declared.Header.{Header}
use Rattle.fine_model.specs.declared.Row.{Row}
use Rattle.fine_model.specs.declared.Mark.TheVariants as mark
use Rattle.fine_model.specs.RowBytes.{rows_len, greatest, FitsRow, most_in_log}
use Rattle.fine_model.specs.Merge.{is_ordered, nodes_in, fits_in}
use Rattle.fine_model.specs.Regions.{Image, region_of, sealed_gate, header_bytes, body_bytes, body_in, header_in, entry_test, IsSealed, body_len}
use Rattle.partition_index.specs.Parts.{LiesIn}

-- a header that passes each test which reading makes
pub record IsGood (region_len regions lead : ℕ) (header : Header) : Type 0 where
  pub few : regions ≤ most_in_log
  pub range : (1 ≤ header.range.first) × (header.range.first ≤ header.range.last) × (header.range.last ≤ greatest)
  pub counted : (header.rows < 2 ^ 32) × (header.nodes ≤ header.rows) × ((header.nodes ≡ 0) ↔ (header.rows ≡ 0)) × ((header.area ≡ 0) ↔ (header.rows ≡ 0))
  pub lies : LiesIn region_len header
  pub least : header.mark ≡ mark.Three → fits_in region_len (header.regions - 1) (body_len header) ≡ false
  pub entries : AllByRecursion (λ t. t.1 ≡ true) (map (entry_test regions lead header) (range_with_len 0 7))

-- the gate and the bytes of a good header are this header, whatever follows
abbrev pub WrittenHeaderLaw : Type 0
WrittenHeaderLaw =
    (region_len regions lead : ℕ) (header : Header) (rest : List ℕ) → IsGood region_len regions lead header
    → header_in region_len regions lead ((sealed_gate ∷ header_bytes region_len header) ++ rest) ≡ Ok (Some header)

-- a lead has an open gate and a good header, which is that of these rows, and the rows and their index are the body
pub record HoldsPartition (region_len : ℕ) (image : Image) (lead : ℕ) (header : Header) (rows : List Row) : Type 0 where
  pub good : IsGood region_len (length image) lead header
  pub front : (rest : List ℕ) × (region_of image lead ≡ (sealed_gate ∷ header_bytes region_len header) ++ rest)
  pub of_rows : (header.rows ≡ length rows) × (header.nodes ≡ length (nodes_in rows)) × (header.area ≡ rows_len rows)
  pub rows_fit : AllByRecursion (FitsRow header.mark) rows
  pub ordered : IsTrue (is_ordered rows)
  pub spelled : (rest : List ℕ) × (body_in image lead header ≡ body_bytes rows ++ rest)

-- such a partition is in the grammar, over however many regions it lies, with its epochs and its rows
abbrev pub WrittenPartitionLaw : Type 0
WrittenPartitionLaw = (region_len : ℕ) (image : Image) (lead : ℕ) (header : Header) (rows : List Row) → HoldsPartition region_len image lead header rows → IsSealed region_len image lead header.range rows
