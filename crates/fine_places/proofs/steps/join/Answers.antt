use Rattle.std.proofs.Common.{arith}
use Rattle.fine_places.proofs.Seating.{joins}
use Rattle.fine_places.proofs.steps.join.Goals as goal

pub join_seat-requires : goal.join_seat-requires
join_seat-requires g c = let w = c.requires.table.2.0 in
    (c.requires.table.0, c.requires.table.1, c.requires.empty.2, omega arith, joins _ _ _ _ _ _ _ _ g.E.BesideLaw.joins _ _ _ _ c.requires.empty.0 c.requires.empty.1)
