use Rattle.node_cache.proofs.Moved.{own_place}
use Rattle.node_cache.proofs.recent.stands_at.Goals as goal

pub returns-in-Some-clause-index : goal.returns-in-Some-clause-index
returns-in-Some-clause-index c = own_place c.args.nodes.now.entries c.args.place c.in-Some.key.now c.args.number c.in-Some._kept.now c.requires c.in-Some.ensures.entry
