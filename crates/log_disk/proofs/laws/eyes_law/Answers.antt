use Rattle.log_disk.proofs.Seeing.{opens_open, opens_kept, writes_kept, syncs_kept, closes_kept}
use Rattle.log_disk.proofs.laws.eyes_law.Goals as goal

pub returns : goal.returns
returns c = λ regions eye other region at bytes failed old new. (λ o. opens_open o, λ o is. opens_kept o is, λ u w is. writes_kept u w is, λ s is. syncs_kept s is, λ c apart is. closes_kept c apart is)
