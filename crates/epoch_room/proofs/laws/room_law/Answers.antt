use Rattle.epoch_room.proofs.Views.Boarding.{board_shows}
use Rattle.epoch_room.proofs.Joining.{keeps_then, views_posted}
use Rattle.epoch_room.proofs.laws.room_law.Goals as goal

pub returns : goal.returns
returns c = record { keeps = keeps_then; posted = views_posted; board = board_shows }
