-- How many bytes a merger takes: each index entry is read once, and each row.
use Rattle.std.proofs.Common.{◌≡◌, ◌+◌, ◌≤◌, IsTrue, List, take, drop, Option, Some, None, refl, sym, ap, ◌∙◌, arith, take-append-drop}
use Rattle.std.proofs.lemmas.List.Sums.{sum_by-append}
use Rattle.fine_model.specs.declared.NodeId.{NodeId}
use Rattle.fine_model.specs.declared.Row.{Row}
use Rattle.fine_model.specs.Merge.{is_ordered}
use Rattle.fine_model.specs.Nodes.{rows_of}
use Rattle.fine_model.specs.RowBytes.{row_len, rows_len}
use Rattle.partition_index.proofs.RowOrder.{AllFrom}
use Rattle.partition_merge.specs.Merging.{first_node, run_len}
use Rattle.partition_merge.specs.Mergers.{behind, own_len, next_len}
use Rattle.partition_merge.proofs.Steps.{starts, split_run}

pub next_is : (n : NodeId) (older newer : List Row) → first_node older newer ≡ Some n → next_len older newer ≡ rows_len (rows_of n older) + rows_len (rows_of n newer)
next_is n older newer first = ap (λ f. own_len f older newer) first
