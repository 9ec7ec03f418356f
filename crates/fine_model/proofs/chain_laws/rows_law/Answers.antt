use Rattle.fine_model.proofs.Chain.Replaced.{rows_split, rows_join}
use Rattle.fine_model.proofs.chain_laws.rows_law.Goals as goal

pub returns : goal.returns
returns c = record { split = rows_split; join = rows_join }
