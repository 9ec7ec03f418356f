use Rattle.txn_engine.proofs.Turned.{seals_law, seals_no_job, shows_law, shows_no_job, tries_law, tries_no_job, turn_law}
use Rattle.txn_engine.proofs.laws.turn_law.Goals as goal

pub returns : goal.returns
returns c = record { turn = turn_law; tries = tries_law; seals = seals_law; shows = shows_law; tries_no_job = tries_no_job; seals_no_job = seals_no_job; shows_no_job = shows_no_job }
