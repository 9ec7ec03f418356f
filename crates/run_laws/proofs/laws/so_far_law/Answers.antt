use Rattle.run_laws.proofs.Steps.{lane_ends_law, next_law, refused_next, sets_law}
use Rattle.run_laws.proofs.laws.so_far_law.Goals as goal

pub returns : goal.returns
returns c = record { next = next_law; sets = sets_law; refused = refused_next; lane_ends = lane_ends_law }
