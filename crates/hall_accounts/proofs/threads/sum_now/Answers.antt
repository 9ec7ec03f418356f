use Rattle.hall_accounts.proofs.Gone.{goes}
use Rattle.hall_accounts.proofs.threads.sum_now.Goals as goal

pub answer-answered-requires-clause-going : goal.answer-answered-requires-clause-going
answer-answered-requires-clause-going g c κs within = goes c.args.hall.now c.in-Some.txn c.args.pass.now c.requires.idle c.in-Some.ensures
