use Rattle.run_laws.proofs.Needs.{need_commits, need_ends, need_sealed, need_stays, need_still}
use Rattle.run_laws.proofs.laws.need_law.Goals as goal

pub returns : goal.returns
returns c = record { stays = need_stays; still = need_still; sealed = need_sealed; commits = need_commits; ends = need_ends }
