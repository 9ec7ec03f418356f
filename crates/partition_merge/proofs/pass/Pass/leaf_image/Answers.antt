use Rattle.std.proofs.Common.{sym, ap, subst, ◌∙◌}
use Rattle.partition_merge.specs.declared.merger.Merger.{Merger}
use Rattle.partition_merge.specs.Leaves.{AreRows}
use Rattle.partition_merge.specs.Pieces.{HoldsIn, span_bytes}
use Rattle.partition_merge.proofs.Pieces.{both_long, folds_afresh, piece_are_rows}
use Rattle.partition_merge.proofs.pass.Pass.leaf_image.Goals as goal

pub returns : goal.returns
returns c a b older_holds newer_holds =
    let p = c.self.inside.older.part in
    let q = c.self.inside.newer.part in
    let v = c.self.inside.older.ahead.rows in
    let w = c.self.inside.newer.ahead.rows in
    let id = c.args.pieces.now.node in
    let older = c.args.pieces.now.older in
    let newer = c.args.pieces.now.newer in
    let h : HoldsIn c.self.inside.older id older a = subst (λ (m : Merger). HoldsIn m.older id older a) (sym c.self.view_is) older_holds in
    let k : HoldsIn c.self.inside.newer id newer b = subst (λ (m : Merger). HoldsIn m.newer id newer b) (sym c.self.view_is) newer_holds in
    c.leaf_image.ensures p.header.mark q.header.mark a b
    (subst (λ bytes. AreRows p.header.mark bytes a) (sym (c.spelled-older.ensures ∙ ap (span_bytes v) c.span_of.ensures)) (piece_are_rows p v id older a h))
    (subst (λ bytes. AreRows q.header.mark bytes b) (sym (c.spelled-newer.ensures ∙ ap (span_bytes w) c.span_of-2.ensures)) (piece_are_rows q w id newer b k))
    (folds_afresh p q v w id older newer a b h k c.requires.may_fold)
    (c.both_len-len.ensures ∙ both_long p q v w id older newer a b h k)
