use Rattle.hall_accounts.proofs.Doing.{ends_after}
use Rattle.hall_accounts.proofs.Gone.{goes}
use Rattle.hall_accounts.proofs.transfers.run.Goals as goal

pub answer_all-answered-requires-clause-going : goal.answer_all-answered-requires-clause-going
answer_all-answered-requires-clause-going g c κs within = goes c.args.hall.now c.args.txn.now c.args.pass.now c.requires.idle c.requires.free

pub returns : goal.returns
returns g c = ends_after c.args.hall.now c.finish.new.txn c.args.pass.now c.answer_all-answered.new.pass c.finish.new.pass c.finish.result c.answer_all-answered.ensures.stays c.finish.ensures
