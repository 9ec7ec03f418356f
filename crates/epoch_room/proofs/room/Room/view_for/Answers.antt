use Rattle.epoch_room.proofs.room.Room.view_for.Goals as goal

pub returns : goal.returns
returns g c = let e = c.make_view.ensures in record { room = e.room; log = e.log; keeps = e.keeps; job = e.job }
