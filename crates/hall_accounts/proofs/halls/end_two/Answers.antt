use Rattle.std.proofs.Common.{subst}
use Rattle.hall_rooms.specs.Closing.{ClosesHall}
use Rattle.hall_rooms.specs.Rooms.{IsIdle, beginning_of}
use Rattle.hall_accounts.proofs.Begun.{both_there}
use Rattle.fine_places.proofs.Elements.{two_cases}
use Rattle.hall_accounts.proofs.halls.end_two.Goals as goal

pub close_hall-requires-clause-passes : goal.close_hall-requires-clause-passes
close_hall-requires-clause-passes g c κs within = two_cases c.args.one c.args.two c.in-Ok.passes.items (IsIdle c.args.hall) c.in-Ok.ensures c.requires.two.one.idle c.requires.two.two.idle

pub close_hall-requires-clause-all : goal.close_hall-requires-clause-all
close_hall-requires-clause-all g c κs within = both_there (beginning_of c.args.hall).seats c.args.one c.args.two c.in-Ok.passes.items c.requires.two.seats c.in-Ok.ensures c.requires.two.numbers.0 c.requires.two.numbers.1

pub returns-in-Ok : goal.returns-in-Ok
returns-in-Ok g c = record { closes = subst (λ l. ClosesHall (beginning_of c.args.hall) l c.close_hall.result) c.in-Ok.ensures c.close_hall.ensures }
