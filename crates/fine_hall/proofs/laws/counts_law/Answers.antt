use Rattle.fine_hall.proofs.Counting.{counts_more, counts_sealed, counts_stay, counts_all}
use Rattle.fine_hall.proofs.laws.counts_law.Goals as goal

pub returns : goal.returns
returns c = record { more = counts_more; sealed = counts_sealed; stay = counts_stay; all = counts_all }
