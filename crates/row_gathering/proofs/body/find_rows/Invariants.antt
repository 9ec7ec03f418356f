-- Rows were found from the front on, and their keys stand behind those that stood there.
use Rattle.std.proofs.Common.{◌≡◌, length}
use Rattle.fine_model.specs.Regions.{row_area}
use Rattle.row_gathering.specs.Steps.{FoundSoFar}
use Rattle.row_gathering.proofs.body.find_rows.Given as goal

abbrev pub invariant-loop : goal.invariant-loop
invariant-loop l = record {
  long : length l.area ≡ l.header.area;
  is_area : l.area ≡ row_area l.header l.body;
  found : FoundSoFar l.header l.body l.start l.fn.keys.items l.keys.items l.last l.counter l.at;
}
