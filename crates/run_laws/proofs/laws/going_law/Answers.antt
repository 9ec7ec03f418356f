use Rattle.run_laws.proofs.Going.{commits_law, full_law, later_law, seals_law, stays_law}
use Rattle.run_laws.proofs.laws.going_law.Goals as goal

pub returns : goal.returns
returns c = record { later = later_law; stays = stays_law; commits = commits_law; seals = seals_law; full = full_law }
