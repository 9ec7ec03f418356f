use Rattle.std.proofs.Common.{◌≡◌, ◌*◌, take}
use Rattle.fine_model.specs.Regions.{index_area, index_bytes}
use Rattle.log_partition.proofs.body.test_index.Given as goal

-- the entries so far are those of the rows
abbrev pub invariant-loop-i : goal.invariant-loop-i
invariant-loop-i l = take (14 * l.i) (index_area l.header l.body) ≡ take (14 * l.i) (index_bytes l.rows)
