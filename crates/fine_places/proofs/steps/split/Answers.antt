use Rattle.std.proofs.Common.{arith}
use Rattle.fine_places.proofs.Seating.{splits}
use Rattle.fine_places.proofs.steps.split.Goals as goal

pub split_seat-requires : goal.split_seat-requires
split_seat-requires g c = let w = c.requires.table.1.0 in let n = c.requires.numbers in
    (c.requires.table.0, omega arith, splits _ _ _ _ _ _ _ _ g.E.BesideLaw.splits _ n.0 _ n.1 c.requires.empty)
