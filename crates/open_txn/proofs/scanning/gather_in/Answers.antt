use Rattle.std.proofs.Common.{◌≡◌, ◌∙◌, ◌+◌, ◌<◌, ℕ, List, arith, length, refl, slice_set, subst, sym}
use Rattle.std.specs.Prelude.{OnOk}
use Rattle.fine_model.specs.declared.Row.{Row}
use Rattle.btree_nodes.specs.Calls.{IsFirstUnfitBetween}
use Rattle.open_txn.specs.Buckets.{BucketsValue}
use Rattle.open_txn.proofs.Scanned.{gathers_in, halts_in}
use Rattle.open_txn.proofs.Places.{there_at}
use Rattle.open_txn.proofs.WalkedThrough.{cuts_off_at, scans_at}
use Rattle.open_txn.proofs.scanning.gather_in.Goals as goal

pub gather-requires-clause-bucket : goal.gather-requires-clause-bucket
gather-requires-clause-bucket g c =
    let at = c.args.at in
    let low : at < length c.buckets.inside.buckets.items = omega (arith, c.requires.at, c.buckets.invariant.many) in
    c.buckets.invariant.numbered at c.index_mut-bucket.result.now (there_at c.buckets.inside.buckets.items at c.index_mut-bucket.result.now _ low c.index_mut-bucket.ensures.value) ∙ sym c.requires.next

pub gather-requires-clause-next : goal.gather-requires-clause-next
gather-requires-clause-next g c = subst (λ (n : ℕ). n < 256) (sym c.requires.next) c.requires.at

pub returns : goal.returns
returns g c =
    let at = c.args.at in
    let low : at < length c.buckets.inside.buckets.items = omega (arith, c.requires.at, c.buckets.invariant.many) in
    let b = c.index_mut-bucket.result.now in
    let there = there_at c.buckets.inside.buckets.items at c.index_mut-bucket.result.now _ low c.index_mut-bucket.ensures.value in
    let old : BucketsValue = record { buckets = c.buckets.inside.buckets.items; touched = c.buckets.inside.touched } in
    let new : BucketsValue = record { buckets = slice_set old.buckets at c.gather.new.bucket; touched = c.add.new.self } in
    let later = λ (rows : List Row). g.met.S.NodeSource.later_tells _ _ rows c.gather.ensures.later in
    let here : c.gather.new.bucket.bucket ≡ c.args.scan.now.next = c.gather.ensures.loads.bucket ∙ c.buckets.invariant.numbered at b there ∙ sym c.requires.next in
    record {
      later = c.gather.ensures.later;
      clean = c.gather.ensures.clean;
      fails = c.gather.ensures.fails;
      next = subst (λ (n : ℕ). OnOk c.gather.result (c.gather.new.self.next ≡ n + 1)) c.requires.next c.gather.ensures.next;
      gathers = rw (← c.buckets.view_is)
          (gathers_in _ _ _ at _ _ b c.gather.new.bucket there refl c.add.ensures later c.args.low.now c.args.high.now c.args.limit
          c.args.scan.now c.gather.new.self c.gather.result c.gather.ensures.used c.gather.ensures.serves c.gather.ensures.sound _ (IsFirstUnfitBetween c.gather.new.bucket c.args.low.now c.args.high.now c.args.limit)
          here (subst (λ (n : ℕ). n < 256) (sym c.requires.next) c.requires.at) c.gather.ensures.next c.gather.ensures.answer);
      halts = rw (← c.buckets.view_is)
          (halts_in _ _ _ at _ _ b c.gather.new.bucket there refl c.add.ensures later c.args.low.now c.args.high.now c.args.limit
          c.args.scan.now c.gather.new.self c.gather.result c.gather.ensures.used c.gather.ensures.serves c.gather.ensures.sound);
      scans = rw (← c.buckets.view_is) (scans_at _ _ _ at old new b c.gather.new.bucket c.buckets.invariant there refl c.args.low.now c.args.high.now c.args.limit c.args.scan.now.pairs c.gather.new.self.pairs _ c.gather.result
          c.gather.ensures.loads c.gather.ensures.on_walk c.gather.ensures.answer);
      cut_off = rw (← c.buckets.view_is) (cuts_off_at _ _ _ at old new b c.gather.new.bucket c.buckets.invariant there refl c.args.low.now c.args.high.now c.args.limit c.args.scan.now.pairs c.gather.new.self.pairs _ c.gather.result
          c.gather.ensures.loads c.gather.ensures.on_walk c.gather.ensures.answer);
    }
