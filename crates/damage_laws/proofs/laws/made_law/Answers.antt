use Rattle.damage_laws.proofs.Joins.{joins, looked_up}
use Rattle.damage_laws.proofs.MergedFinds.{beside_law, gathered_law, kept_law, sealed_law}
use Rattle.damage_laws.proofs.laws.made_law.Goals as goal

pub returns : goal.returns
returns c = record { kept = kept_law; sealed = sealed_law; looked_up = looked_up; joins = joins; beside = beside_law; gathered = gathered_law }
