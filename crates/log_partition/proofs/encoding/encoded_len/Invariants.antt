use Rattle.std.proofs.Common.{◌≡◌, take}
use Rattle.fine_model.specs.Merge.{encoded_len}
use Rattle.log_partition.specs.Encoding.{saturated, IsGreatestOf}
use Rattle.log_partition.proofs.encoding.encoded_len.Given as goal

abbrev pub invariant-loop-i : goal.invariant-loop-i
invariant-loop-i l = record {
  len : l.len ≡ saturated (encoded_len (take l.i l.rows));
  greatest : IsGreatestOf (take l.i l.rows) l.greatest;
}
