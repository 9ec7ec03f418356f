use Rattle.std.proofs.Common.{◌≡◌, sym, subst, List}
use mathlib.Core.Option.{some}
use lib.ListN.{get_elem?}
use Rattle.fine_hall.specs.Halls.{AreAll}
use Rattle.hall_rooms.specs.Rooms.{RoomPass, beginning_of}
use Rattle.lane_threads.proofs.AllPasses.{all_idle, are_all}
use Rattle.lane_threads.proofs.closing.close.Goals as goal

pub close_hall-requires-clause-passes : goal.close_hall-requires-clause-passes
close_hall-requires-clause-passes g c κs within = λ i p at.
    all_idle c.args.hall c.args.first c.args.others.items c.requires.first c.requires.others i p (subst (λ (l : List RoomPass). get_elem? l i ≡ some p) c.push_reserved.ensures.items at)

pub close_hall-requires-clause-all : goal.close_hall-requires-clause-all
close_hall-requires-clause-all g c κs within =
    subst (λ (l : List RoomPass). AreAll (beginning_of c.args.hall).seats l) (sym c.push_reserved.ensures.items) (are_all c.args.hall c.args.first c.args.others.items c.requires.first c.requires.others (beginning_of c.args.hall).seats c.requires.count)
