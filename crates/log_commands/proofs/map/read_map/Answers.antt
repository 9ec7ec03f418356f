use Rattle.log_commands.proofs.Rooms.{answers_rows}
use Rattle.log_commands.proofs.map.read_map.Goals as goal

pub returns-clause-map : goal.returns-clause-map
returns-clause-map g c = answers_rows c.args.room.now c.read_room.new.room c.read_room.result c.read_room.ensures
