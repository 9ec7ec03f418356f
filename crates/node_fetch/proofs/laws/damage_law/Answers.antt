use Rattle.node_fetch.proofs.Blames.{found_law, row_law, entry_law, good_law, exact_law, sound_law}
use Rattle.node_fetch.proofs.laws.damage_law.Goals as goal

pub returns : goal.returns
returns c = record { found = found_law; row = row_law; entry = entry_law; good = good_law; exact = exact_law; sound = sound_law }
