-- The open epoch's rows as a partition: its length, and its header.
use Rattle.std.proofs.Common.{◌≡◌, ℕ, ◌+◌, ◌≤◌, List, length, Ok, Err, Result, refl, ap, ◌∙◌, arith, length-append}
use Rattle.std.proofs.lemmas.List.Sorted.{length_permutation}
use Rattle.std.specs.Prelude.{IfOk, IsPermutation, IsSortedBy}
use Rattle.fine_model.specs.declared.list.NoMemory.{NoMemory}
use Rattle.fine_model.specs.declared.Range.{Range}
use Rattle.fine_model.specs.declared.Row.{Row}
use Rattle.fine_model.specs.RowBytes.{rows_bytes}
use Rattle.fine_model.specs.Merge.{cost, encoded_len}
use Rattle.fine_model.specs.Regions.{header_of, header_bytes, index_bytes, body_bytes, partition_bytes}
use Rattle.fine_model.specs.VersionLaws.{CostAlike}
use Rattle.fine_model.proofs.Chain.Grammar.{rows_long}
use Rattle.fine_model.proofs.Ordered.Permuted.{permuted_law}
use Rattle.node_record.specs.Keys.{AreKeysOf, is_key_below}
use Rattle.node_record.specs.declared.key.RowAt.{RowAt}
use Rattle.node_record.proofs.Fronts.{sorted_law}
use Rattle.log_partition.specs.Encoding.{AreRowsAt, IsEncoded}
use Rattle.log_partition.specs.declared.encoding.Partition.{Partition}
use Rattle.log_partition.proofs.Indexed.{index_long}
use Rattle.epoch_room.specs.Partition.{IsArranged, IsPartitionOf}
use Rattle.epoch_room.proofs.OpenEpochs.Arranging.{rising, rows_sorted}

header_long : (region_len : ℕ) (range : Range) (rows : List Row) → length (header_bytes region_len (header_of range rows)) ≡ 40
unfolding header_bytes
header_long region_len range rows = refl

pub partition_long : (region_len : ℕ) (range : Range) (rows : List Row) → length (partition_bytes region_len range rows) ≡ 40 + cost rows
unfolding partition_bytes
partition_long region_len range rows =
    omega (arith, length-append (header_bytes region_len (header_of range rows)) (body_bytes rows), header_long region_len range rows, length-append (rows_bytes rows) (index_bytes rows), rows_long rows, index_long rows)

module _ (rows sorted : List Row) (arranged : IsArranged rows sorted) where
  pub alike : CostAlike rows sorted
  alike = permuted_law rows sorted arranged.permuted

  pub as_many : length sorted ≡ length rows
  as_many = length_permutation rows sorted arranged.permuted

  pub same_header : (range : Range) → header_of range sorted ≡ header_of range rows
  same_header range =
      let count = as_many in
      let nodes = ap length alike.same_nodes in
      let area = alike.same_len in λ i. record (header_of range rows) { rows = count i; nodes = nodes i; area = area i }

-- keys of the rows in any order that are sorted are the keys of the arranged rows
pub record ArrangedAt (region_len : ℕ) (bytes : List ℕ) (rows : List Row) (keys : List RowAt) : Type 0 where
  pub sorted : List Row
  pub arranged : IsArranged rows sorted
  pub at : AreRowsAt region_len bytes keys sorted

pub arranged_at : (region_len : ℕ) (bytes : List ℕ) (rows : List Row) (keys sorted : List RowAt) → AreKeysOf bytes rows keys → IsPermutation keys sorted → IsSortedBy is_key_below sorted → encoded_len rows ≤ region_len
    → ArrangedAt region_len bytes rows sorted
arranged_at region_len bytes rows keys sorted are permuted up room =
    let same = sorted_law bytes rows keys sorted are permuted in
    let rows_up = rows_sorted bytes same.arranged sorted same.keys up in
    let is : IsArranged rows same.arranged = record { permuted = same.permuted; sorted = rows_up } in
    record { sorted = same.arranged; arranged = is; at = record { are = same.keys; rising = rising same.arranged rows_up; within = omega (arith, (alike rows same.arranged is).same_cost, room) } }

pub as_arranged : (region_len : ℕ) (range : Range) (bytes : List ℕ) (rows : List Row) (keys : List RowAt) (result : Result Partition NoMemory) → (a : ArrangedAt region_len bytes rows keys)
    → IfOk result (IsEncoded region_len range a.sorted) → IfOk result (IsPartitionOf region_len range rows)
as_arranged region_len range bytes rows keys (Ok partition) a is = record { header = is.header ∙ same_header rows a.sorted a.arranged range; sorted = a.sorted; is_arranged = a.arranged; within = a.at.within; bytes = is.bytes }
as_arranged region_len range bytes rows keys (Err refused) a is = tt
