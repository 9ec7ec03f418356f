use Rattle.fine_hall.proofs.Passing.{room_word}
use Rattle.fine_hall.proofs.room_turn.Hall+R+B+V.try_if_free.Goals as goal

pub peek-requires : goal.peek-requires
peek-requires g c = room_word c.args.self.now.table.shared.table_id c.args.self.now.sized
