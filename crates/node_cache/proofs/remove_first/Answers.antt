use Rattle.std.proofs.Common.{rules, refl}
use Rattle.node_cache.specs.contracts.fn.remove_first.retain as closure
use Rattle.node_cache.proofs.Evicted.{retained}
use Rattle.node_cache.proofs.remove_first.Goals as goal

pub returns-clause-nodes : goal.returns-clause-nodes
returns-clause-nodes c =
    retained _ (λ f. (closure.captures f).left) (λ f. (closure.captures f).published) c.args.published (λ f k v b w g set t. search rules) _ _ _ refl c.retain.ensures.filtered
