use Rattle.std.proofs.Common.{◌≡◌, ◌<◌, Some, ap, ◌∙◌, subst}
use Rattle.std.specs.Prelude.{IfSome}
use Rattle.node_cache.specs.Cache.{cached, before}
use Rattle.txn_draft.proofs.Rested.{holds_undone, still}
use Rattle.txn_draft.proofs.using.undo.Goals as goal

pub returns-clause-holds : goal.returns-clause-holds
returns-clause-holds c = λ rows restores.
    holds_undone rows c.args.bucket.now c.evict.new.self (ap (λ b. b.bucket) c.evict.ensures.nodes ∙ ap (λ b. b.bucket) c.undo.ensures.nodes) (ap (λ b. b.saved) c.evict.ensures.nodes ∙ ap (λ b. b.saved) c.undo.ensures.nodes)
    (λ n. still (cached c.undo.new.self n) (before c.args.bucket.now n) (c.undo.ensures.restored n) (cached c.evict.new.self n) (c.evict.ensures.same n)) restores

pub returns-clause-kept : goal.returns-clause-kept
returns-clause-kept c = λ n. subst (λ o. IfSome o (λ kept. c.args.published < kept.epoch → cached c.evict.new.self n ≡ Some kept)) (c.undo.ensures.restored n) (c.evict.ensures.kept n)

pub returns-clause-number : goal.returns-clause-number
returns-clause-number c = ap (λ b. b.bucket) c.evict.ensures.nodes ∙ ap (λ b. b.bucket) c.undo.ensures.nodes
