use Rattle.std.proofs.Common.{refl}
use Rattle.node_cache.specs.Cache.{before, undone, evicted}
use Rattle.txn_draft.specs.Standing.{IsLeft}
use Rattle.open_txn.proofs.Endings.{all_ended, none_ended, one_ended, within}
use Rattle.open_txn.proofs.ending.undo_touched.Goals as goal

pub loop-at-init : goal.loop-at-init
loop-at-init c = none_ended (λ b. evicted c.args.published c.args.keep (undone b)) (λ b new. IsLeft c.args.published (before b) b new) c.args.touched.now c.args.buckets.now

pub bounds-buckets-at : goal.bounds-buckets-at
bounds-buckets-at c = within (λ b. evicted c.args.published c.args.keep (undone b)) (λ b new. IsLeft c.args.published (before b) b new) c.args.touched.now c.args.buckets.now c.loop-at.touched c.take.new.self c.loop-at.buckets c.in-Some.at c.requires c.loop-at.invariant c.in-Some.ensures

pub loop-at-preserved : goal.loop-at-preserved
loop-at-preserved c =
    one_ended (λ b. evicted c.args.published c.args.keep (undone b)) (λ b new. IsLeft c.args.published (before b) b new) c.args.touched.now c.args.buckets.now c.loop-at.touched c.take.new.self c.loop-at.buckets _ c.in-Some.at _ c.undo.new.bucket c.loop-at.invariant c.in-Some.ensures
    refl c.undo.ensures.bucket (record { bucket = c.undo.ensures.number; resting = c.undo.ensures.resting; same = c.undo.ensures.same; kept = c.undo.ensures.kept })

pub returns-clause-ends : goal.returns-clause-ends
returns-clause-ends c = all_ended (λ b. evicted c.args.published c.args.keep (undone b)) (λ b new. IsLeft c.args.published (before b) b new) c.args.touched.now c.args.buckets.now c.loop-at.touched c.loop-at.buckets c.loop-at.invariant c.in_default.ensures.1
