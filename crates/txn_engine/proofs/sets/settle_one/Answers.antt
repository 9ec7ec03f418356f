use Rattle.std.proofs.Common.{◌≡◌, subst}
use Rattle.node_cache.specs.Cache.{Cache, after, evicted, settled}
use Rattle.txn_draft.specs.Standing.{IsLeft}
use Rattle.txn_engine.proofs.sets.settle_one.Goals as goal

pub returns : goal.returns
returns c =
    let e = c.settle.ensures in
    subst (λ (b : Cache). (c.settle.new.bucket ≡ evicted c.args.published c.args.keep (settled c.args.epoch b)) × IsLeft c.args.published (after b c.args.epoch) b c.settle.new.bucket) c.bucket.ensures.value
    (e.bucket, record { bucket = e.number; resting = e.resting; same = e.same; kept = e.kept })
