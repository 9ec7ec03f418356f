use Rattle.std.proofs.Common.{◌≡◌, subst}
use Rattle.node_cache.specs.Cache.{Cache, before, evicted, undone}
use Rattle.txn_draft.specs.Standing.{IsLeft}
use Rattle.txn_engine.proofs.sets.undo_one.Goals as goal

pub returns : goal.returns
returns c =
    let e = c.undo.ensures in
    subst (λ (b : Cache). (c.undo.new.bucket ≡ evicted c.args.published c.args.keep (undone b)) × IsLeft c.args.published (before b) b c.undo.new.bucket) c.bucket.ensures.value
    (e.bucket, record { bucket = e.number; resting = e.resting; same = e.same; kept = e.kept })
