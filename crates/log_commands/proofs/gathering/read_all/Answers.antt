use Rattle.log_commands.proofs.Gathered.{finds_all}
use Rattle.log_commands.proofs.gathering.read_all.Goals as goal

pub returns-in-Ok-clause-answer : goal.returns-in-Ok-clause-answer
returns-in-Ok-clause-answer g c =
    finds_all (g.S.NodeSource.tells c.args.source.now) (g.S.NodeSource.finds c.args.source.now) c.in-Ok.pairs c.in_order.result c.in-Ok.ensures.answer c.in_order.ensures
