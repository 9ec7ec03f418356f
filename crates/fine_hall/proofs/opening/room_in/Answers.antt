use Rattle.std.proofs.Common.{Some, ap, ◌∙◌}
use Rattle.fine_hall.proofs.opening.room_in.Goals as goal

pub returns : goal.returns
returns g c = (_, _, _, c.in-Some.is ∙ ap Some c.in-Room.is)
