use Rattle.hall_accounts.proofs.Doing.{ends_after}
use Rattle.hall_accounts.proofs.Gone.{goes}
use Rattle.hall_accounts.proofs.transfers.transfer.Goals as goal

pub move_one-answered-requires-clause-going : goal.move_one-answered-requires-clause-going
move_one-answered-requires-clause-going g c κs within = goes c.args.hall.now c.args.txn.now c.args.pass.now c.requires.idle c.requires.free

pub returns : goal.returns
returns g c = ends_after c.args.hall.now c.finish.new.txn c.args.pass.now c.move_one-answered.new.pass c.finish.new.pass c.finish.result c.move_one-answered.ensures.stays c.finish.ensures
