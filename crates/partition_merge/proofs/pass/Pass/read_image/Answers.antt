use Rattle.std.proofs.Common.{◌≡◌, ◌++◌, ap, min, sym, subst, ◌∙◌}
use Rattle.std.specs.Prelude.{IfSome}
use Rattle.fine_model.specs.RowBytes.{FitsRec, rows_len}
use Rattle.partition_merge.specs.declared.merger.Merger.{Merger}
use Rattle.partition_merge.specs.Merging.{merged_of, one_or}
use Rattle.partition_merge.specs.Pieces.{HoldsIn}
use Rattle.partition_merge.proofs.Pieces.{both_long}
use Rattle.partition_merge.proofs.pass.Pass.read_image.Goals as goal

pub folded_moved-requires-clause-len : goal.folded_moved-requires-clause-len
folded_moved-requires-clause-len c =
    let h = c.requires.rows.older in
    let k = c.requires.rows.newer in
    let older : c.in_ok-older.older ≡ h.rows = c.in_ok-older.ensures.rows h.rows (subst (λ (m : Merger). HoldsIn m.older c.args.pieces.now.node c.args.pieces.now.older h.rows) (sym c.self.view_is) h.holds) in
    let newer : c.in_ok-newer.newer ≡ k.rows = c.in_ok-newer.ensures.rows k.rows (subst (λ (m : Merger). HoldsIn m.newer c.args.pieces.now.node c.args.pieces.now.newer k.rows) (sym c.self.view_is) k.holds) in
    c.both_len-len.ensures
    ∙ both_long c.args.self.now.older.part c.args.self.now.newer.part c.args.self.now.older.ahead.rows c.args.self.now.newer.ahead.rows c.args.pieces.now.node c.args.pieces.now.older c.args.pieces.now.newer h.rows k.rows h.holds k.holds
    ∙ (λ i. min (rows_len (sym older i ++ sym newer i)) 4294967295)

pub returns-in_default : goal.returns-in_default
returns-in_default c a b h k =
    let older : c.in_ok-older.older ≡ a = c.in_ok-older.ensures.rows a (subst (λ (m : Merger). HoldsIn m.older c.args.pieces.now.node c.args.pieces.now.older a) (sym c.self.view_is) h) in
    let newer : c.in_ok-newer.newer ≡ b = c.in_ok-newer.ensures.rows b (subst (λ (m : Merger). HoldsIn m.newer c.args.pieces.now.node c.args.pieces.now.newer b) (sym c.self.view_is) k) in
    (λ i. merged_of c.args.pieces.now.node (sym older i ++ sym newer i))
    ∙ c.in_ok-row.ensures.image
    ∙ ap (λ image. one_or image (c.in_ok-older.older ++ c.in_ok-newer.newer)) c.in_default.is
    ∙ (λ i. older i ++ newer i)

pub returns : goal.returns
returns c a b h k =
    let older : c.in_ok-older.older ≡ a = c.in_ok-older.ensures.rows a (subst (λ (m : Merger). HoldsIn m.older c.args.pieces.now.node c.args.pieces.now.older a) (sym c.self.view_is) h) in
    let newer : c.in_ok-newer.newer ≡ b = c.in_ok-newer.ensures.rows b (subst (λ (m : Merger). HoldsIn m.newer c.args.pieces.now.node c.args.pieces.now.newer b) (sym c.self.view_is) k) in
    record {
      row = c.in-Some.row;
      joined = (λ i. merged_of c.args.pieces.now.node (sym older i ++ sym newer i)) ∙ c.in_ok-row.ensures.image ∙ ap (λ image. one_or image (c.in_ok-older.older ++ c.in_ok-newer.newer)) c.in-Some.is;
      fits = subst (λ image. IfSome image (λ row. FitsRec row.rec)) c.in-Some.is c.in_ok-row.ensures.fit;
      long = c.row_len.ensures.is;
      spelled = c.in_ok-spelled_row.ensures;
    }
