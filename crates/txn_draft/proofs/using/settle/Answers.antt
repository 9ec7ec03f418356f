use Rattle.std.proofs.Common.{◌≡◌, ◌<◌, Some, ap, ◌∙◌, subst}
use Rattle.std.specs.Prelude.{IfSome}
use Rattle.node_cache.specs.Cache.{cached, after}
use Rattle.txn_draft.proofs.Rested.{holds_settled, still}
use Rattle.txn_draft.proofs.using.settle.Goals as goal

pub returns-clause-holds : goal.returns-clause-holds
returns-clause-holds c = λ rows log holds.
    holds_settled c.args.epoch rows log c.args.bucket.now c.evict.new.self (ap (λ b. b.bucket) c.evict.ensures.nodes ∙ ap (λ b. b.bucket) c.settle.ensures.nodes) (ap (λ b. b.saved) c.evict.ensures.nodes ∙ ap (λ b. b.saved) c.settle.ensures.nodes)
    (λ n. still (cached c.settle.new.self n) (after c.args.bucket.now c.args.epoch n) (c.settle.ensures.stamped n) (cached c.evict.new.self n) (c.evict.ensures.same n)) holds

pub returns-clause-kept : goal.returns-clause-kept
returns-clause-kept c = λ n. subst (λ o. IfSome o (λ kept. c.args.published < kept.epoch → cached c.evict.new.self n ≡ Some kept)) (c.settle.ensures.stamped n) (c.evict.ensures.kept n)

pub returns-clause-number : goal.returns-clause-number
returns-clause-number c = ap (λ b. b.bucket) c.evict.ensures.nodes ∙ ap (λ b. b.bucket) c.settle.ensures.nodes
