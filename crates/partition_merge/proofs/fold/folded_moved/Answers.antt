use Rattle.std.proofs.Common.{◌≡◌, ◌<◌, ◌≤◌, ◌++◌, sym, ap, ◌∙◌, arith, refl, rules}
use Rattle.std.proofs.lemmas.Bool.{le-leb, lt-leb}
use Rattle.fine_model.specs.declared.Row.{Row}
use Rattle.fine_model.specs.Merge.{starts_afresh}
use Rattle.fine_model.specs.RowBytes.{row_len, rows_len}
use Rattle.partition_merge.proofs.Folding.{stay_stale, replayed, stay_broken, stay_short, fold_row}
use Rattle.partition_merge.proofs.fold.folded_moved.Goals as goal

pub returns-then-not-starts_afresh-clause-image : goal.returns-then-not-starts_afresh-clause-image
returns-then-not-starts_afresh-clause-image c =
    let older : c.as_slice.result.now ≡ c.args.older = search rules in
    let newer : c.as_slice-2.result.now ≡ c.args.newer = search rules in
    stay_stale c.args.node (c.args.older ++ c.args.newer) (sym (ap starts_afresh (λ i. older i ++ newer i)) ∙ sym c.starts_afresh.ensures ∙ c.if-not-starts_afresh.true)

pub returns-in_default-clause-image : goal.returns-in_default-clause-image
returns-in_default-clause-image c =
    stay_broken c.args.node (c.args.older ++ c.args.newer) _
    (replayed c.args.node c.args.older c.args.newer _ _ _ c.base.ensures.base c.in_ok-between.ensures.replay c.in_ok-content.ensures.replay)
    (sym c.rec_of.ensures ∙ c.in_default.is)

pub returns-then-row_len-len-clause-image : goal.returns-then-row_len-len-clause-image
returns-then-row_len-len-clause-image c =
    let image : Row = record { node = c.args.node; version = c.in_ok-content.version; rec = c.in-Some.rec } in
    let above = c.if-row_len-len.true in
    let longer : rows_len (c.args.older ++ c.args.newer) < row_len image = omega (arith, above, c.row_len.ensures.is, c.row_len.ensures.most, c.requires.len) in
    stay_short c.args.node (c.args.older ++ c.args.newer) _ c.in-Some.rec
    (replayed c.args.node c.args.older c.args.newer _ _ _ c.base.ensures.base c.in_ok-between.ensures.replay c.in_ok-content.ensures.replay)
    (sym c.rec_of.ensures ∙ c.in-Some.is)
    (lt-leb (row_len image) (rows_len (c.args.older ++ c.args.newer)) longer)

pub returns-clause-image : goal.returns-clause-image
returns-clause-image c =
    let image : Row = record { node = c.args.node; version = c.in_ok-content.version; rec = c.in-Some.rec } in
    let within = c.if-row_len-len.false in
    let short : row_len image ≤ rows_len (c.args.older ++ c.args.newer) = omega (arith, within, c.row_len.ensures.is, c.requires.len) in
    let older : c.as_slice.result.now ≡ c.args.older = search rules in
    let newer : c.as_slice-2.result.now ≡ c.args.newer = search rules in
    fold_row c.args.node (c.args.older ++ c.args.newer) _ image
    (replayed c.args.node c.args.older c.args.newer _ _ _ c.base.ensures.base c.in_ok-between.ensures.replay c.in_ok-content.ensures.replay)
    (sym c.rec_of.ensures ∙ c.in-Some.is) refl refl
    (sym (ap starts_afresh (λ i. older i ++ newer i)) ∙ sym c.starts_afresh.ensures ∙ c.if-not-starts_afresh.false)
    (le-leb (row_len image) (rows_len (c.args.older ++ c.args.newer)) short)
