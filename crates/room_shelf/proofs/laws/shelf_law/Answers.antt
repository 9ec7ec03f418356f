use Rattle.room_shelf.proofs.Loading.{log_law, reads_law, tells_law}
use Rattle.room_shelf.proofs.laws.shelf_law.Goals as goal

pub returns : goal.returns
returns c = record { reads = reads_law; tells = tells_law; log = log_law }
