use Rattle.std.proofs.Common.{◌-◌, ◌++◌, sym, ap, ◌∙◌}
use Rattle.fine_model.specs.RowBytes.{row_len, rows_len}
use Rattle.fine_model.specs.Merge.{image_of}
use Rattle.partition_merge.proofs.Folding.{stay_stale, replayed, stay_broken, stay_short, fold_row, above_both, within_both}
use Rattle.partition_merge.proofs.fold.folded.Goals as goal

pub returns-then-not-starts_afresh-clause-image : goal.returns-then-not-starts_afresh-clause-image
returns-then-not-starts_afresh-clause-image c = stay_stale c.args.node (c.args.older.now ++ c.args.newer.now) (sym c.starts_afresh.ensures ∙ c.if-not-starts_afresh.true)

pub returns-then-is_one_image-clause-image : goal.returns-then-is_one_image-clause-image
returns-then-is_one_image-clause-image c = c.is_one_image.ensures c.if-is_one_image.true

pub returns-in-Broken-clause-image : goal.returns-in-Broken-clause-image
returns-in-Broken-clause-image c =
    stay_broken c.args.node (c.args.older.now ++ c.args.newer.now) _
    (replayed c.args.node c.args.older.now c.args.newer.now _ _ _ c.base.ensures.base c.in_ok-between.ensures.replay c.in_ok-content.ensures.replay)
    (ap image_of c.in-Broken.is)

pub returns-then-excess-gt0-clause-image : goal.returns-then-excess-gt0-clause-image
returns-then-excess-gt0-clause-image c =
    stay_short c.args.node (c.args.older.now ++ c.args.newer.now) _ c.in_ok-image.image.rec
    (replayed c.args.node c.args.older.now c.args.newer.now _ _ _ c.base.ensures.base c.in_ok-between.ensures.replay c.in_ok-content.ensures.replay)
    c.in_ok-image.ensures.image
    (above_both (row_len c.in_ok-image.image) c.args.older.now c.args.newer.now c.excess.result c.excess-2.result
    (c.excess.ensures ∙ ap (λ l. l - rows_len c.args.older.now) c.row_len.ensures.is) c.excess-2.ensures c.if-excess-gt0.true)

pub returns-clause-image : goal.returns-clause-image
returns-clause-image c =
    fold_row c.args.node (c.args.older.now ++ c.args.newer.now) _ c.in_ok-image.image
    (replayed c.args.node c.args.older.now c.args.newer.now _ _ _ c.base.ensures.base c.in_ok-between.ensures.replay c.in_ok-content.ensures.replay)
    c.in_ok-image.ensures.image c.in_ok-image.ensures.node c.in_ok-image.ensures.version
    (sym c.starts_afresh.ensures ∙ c.if-not-starts_afresh.false)
    (within_both (row_len c.in_ok-image.image) c.args.older.now c.args.newer.now c.excess.result c.excess-2.result
    (c.excess.ensures ∙ ap (λ l. l - rows_len c.args.older.now) c.row_len.ensures.is) c.excess-2.ensures c.if-excess-gt0.false)
