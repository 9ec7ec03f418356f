use Rattle.node_cache.proofs.PairSteps.{exchanged}
use Rattle.node_cache.proofs.pairs.exchange_value.Goals as goal

pub returns-clause-set : goal.returns-clause-set
returns-clause-set c =
    exchanged c.args.pairs.now c.replace-key.new.self c.replace-empty.new.self c.args.at c.replace-key.result _ c.args.value c.replace-key.ensures.stood c.replace-key.ensures.items c.replace-empty.ensures.items
