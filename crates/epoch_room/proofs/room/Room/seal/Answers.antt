use Rattle.epoch_room.proofs.room.Room.seal.Goals as goal

pub returns : goal.returns
returns g c = let e = c.seal_epoch.ensures in record { room = e.room; body = e.body; read = e.read; beside = e.beside; keeps = e.keeps; job = e.job }
