use Rattle.txn_engine.proofs.Idle.{aborts_idle, commits_idle, refused_job}
use Rattle.txn_engine.proofs.laws.idle_law.Goals as goal

pub returns : goal.returns
returns c = record { commits = commits_idle; refused = refused_job; aborts = aborts_idle }
