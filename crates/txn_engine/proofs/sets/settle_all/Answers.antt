use denote.Param.Send.{sendable}
use Rattle.std.proofs.Common.{◌≡◌, rules}
use Rattle.node_cache.specs.Cache.{after, evicted, settled}
use Rattle.txn_draft.specs.Standing.{IsLeft}
use Rattle.hall_rooms.proofs.Crossing.{bucket_send}
use Rattle.txn_engine.proofs.Ending.{each_becomes, left_by}
use Rattle.txn_engine.proofs.sets.settle_all.Goals as goal

pub each-requires-send-B : goal.each-requires-send-B
each-requires-send-B c κs = search (sendable, bucket_send) depth 20

pub returns : goal.returns
returns c =
    each_becomes (λ b. evicted c.args.published c.args.keep (settled c.args.epoch b)) (λ b new. IsLeft c.args.published (after b c.args.epoch) b new) _ c.args.locks.now c.each.new.self c.each.ensures
    (left_by _ _ (λ b y. (y ≡ evicted c.args.published c.args.keep (settled c.args.epoch b)) × IsLeft c.args.published (after b c.args.epoch) b y) (λ p q m. search rules))
