use Rattle.std.specs.List.{AllByRecursion}
use Rattle.fine_model.specs.RowBytes.{FitsRow}
use Rattle.fine_model.specs.declared.Mark.TheVariants as mark
use Rattle.room_merges_tests.proofs.adopting.rows_of.Given as goal

abbrev pub invariant-loop-i : goal.invariant-loop-i
invariant-loop-i l = AllByRecursion (FitsRow mark.Two) l.rows
