use Rattle.epoch_room.proofs.Merges.LongBodies.{full_none}
use Rattle.epoch_room.proofs.row_writes.write_full.Goals as goal

pub returns-then-len-lt-BLOCK : goal.returns-then-len-lt-BLOCK
returns-then-len-lt-BLOCK g c = full_none c.args.part.now c.args.at c.args.block.now.items (g.D.LogDisk.state c.args.disk.now) c.requires.place.sound
