use Rattle.std.proofs.Common.{◌++◌, sym, ◌∙◌, subst}
use Rattle.std.specs.Prelude.{IfSome}
use Rattle.partition_merge.specs.Leaves.{IsImageOf}
use Rattle.partition_merge.proofs.Pieces.{both_stay}
use Rattle.partition_merge.proofs.pass.Pass.image.Goals as goal

pub returns-then-not-may_fold : goal.returns-then-not-may_fold
returns-then-not-may_fold c a b h k =
    both_stay c.args.self.now.older.part c.args.self.now.newer.part c.args.self.now.older.ahead.rows c.args.self.now.newer.ahead.rows c.args.pieces.now.node c.args.pieces.now.older c.args.pieces.now.newer a b h k (sym c.may_fold.ensures ∙ c.if-not-may_fold.true)

pub returns-in-Some : goal.returns-in-Some
returns-in-Some c a b h k = subst (λ r. IfSome r (λ image. IsImageOf c.args.spells c.args.pieces.now.node (a ++ b) image.bytes.items image.len)) c.in-Some.is (c.in_ok-image.ensures a b h k)
