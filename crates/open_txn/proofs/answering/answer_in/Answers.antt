use Rattle.std.proofs.Common.{◌∙◌, ◌<◌, List, arith, length, refl, slice_set, subst, sym}
use Rattle.fine_model.specs.declared.Row.{Row}
use Rattle.open_txn.specs.Buckets.{AreBuckets}
use Rattle.open_txn.proofs.Advanced.{advances_in, place_of, refuses_in, still_are}
use Rattle.open_txn.proofs.Places.{there_at}
use Rattle.open_txn.proofs.Traced.{does_in, stops_in}
use Rattle.open_txn.proofs.answering.answer_in.Goals as goal

pub answer-requires-clause-bucket : goal.answer-requires-clause-bucket
answer-requires-clause-bucket g c =
    let at = c.args.at in
    let low : at < length c.buckets.inside.buckets.items = omega (arith, c.requires.at.1, c.buckets.invariant.many) in
    c.buckets.invariant.numbered at c.index_mut-bucket.result.now (there_at c.buckets.inside.buckets.items at c.index_mut-bucket.result.now _ low c.index_mut-bucket.ensures.value) ∙ c.requires.at.0

pub invariant_of-buckets : goal.invariant_of-buckets
invariant_of-buckets g c =
    let at = c.args.at in
    let low : at < length c.buckets.inside.buckets.items = omega (arith, c.requires.at.1, c.buckets.invariant.many) in
    subst (λ flags. AreBuckets (record { buckets = slice_set c.buckets.inside.buckets.items at c.answer.new.bucket; touched = flags })) (sym c.add.ensures)
    (still_are at (record { buckets = c.buckets.inside.buckets.items; touched = c.buckets.inside.touched }) c.index_mut-bucket.result.now c.answer.new.bucket c.buckets.invariant
    (there_at c.buckets.inside.buckets.items at c.index_mut-bucket.result.now _ low c.index_mut-bucket.ensures.value) c.answer.ensures.number)

pub returns : goal.returns
returns g c =
    let at = c.args.at in
    let low : at < length c.buckets.inside.buckets.items = omega (arith, c.requires.at.1, c.buckets.invariant.many) in
    let b = c.index_mut-bucket.result.now in
    let there = there_at c.buckets.inside.buckets.items at c.index_mut-bucket.result.now _ low c.index_mut-bucket.ensures.value in
    let later = λ (rows : List Row). g.met.S.NodeSource.later_tells _ _ rows c.answer.ensures.later in
    record {
      later = c.answer.ensures.later;
      clean = c.answer.ensures.clean;
      fails = c.answer.ensures.fails;
      place = place_of c.args.draft.now c.answer.new.self c.args.call.now c.answer.result c.answer.ensures.kept c.answer.ensures.left;
      advances = rw (← c.buckets.view_is)
          (advances_in _ _ _ at _ _ b c.answer.new.bucket c.args.draft.now c.answer.new.self c.args.call.now c.buckets.invariant there refl c.add.ensures c.requires.at.0
          later c.answer.result c.answer.ensures.used c.answer.ensures.sound _ _ c.requires.no_scan c.requires.open c.answer.ensures.kept c.answer.ensures.change c.answer.ensures.fits c.answer.ensures.serves);
      refuses = rw (← c.buckets.view_is)
          (refuses_in _ _ _ at _ _ b c.answer.new.bucket c.args.draft.now c.answer.new.self c.args.call.now c.buckets.invariant there refl c.add.ensures c.requires.at.0
          later c.answer.result c.answer.ensures.used c.answer.ensures.sound);
      does = rw (← c.buckets.view_is)
          (does_in _ _ _ at _ _ b c.answer.new.bucket c.args.draft.now c.answer.new.self c.args.call.now c.buckets.invariant there refl c.requires.at.0 c.requires.at.1 c.requires.no_scan _ c.answer.result c.answer.ensures.change);
      stops = rw (← c.buckets.view_is)
          (stops_in _ _ _ at _ _ b c.answer.new.bucket c.args.draft.now c.answer.new.self c.args.call.now c.buckets.invariant there refl c.requires.at.0 c.requires.at.1 c.requires.no_scan _ c.answer.result c.answer.ensures.change);
    }
