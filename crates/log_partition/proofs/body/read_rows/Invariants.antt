use Rattle.std.proofs.Common.{◌≡◌, length}
use Rattle.fine_model.specs.Regions.{row_area}
use Rattle.log_partition.specs.Bodies.{ReadSoFar}
use Rattle.log_partition.proofs.body.read_rows.Given as goal

abbrev pub invariant-loop : goal.invariant-loop
invariant-loop l = record {
  long : length l.area ≡ l.header.area;
  is_area : l.area ≡ row_area l.header l.body;
  count : length l.rows ≡ l.counter;
  so_far : ReadSoFar l.header.mark l.area l.rows l.at;
}
