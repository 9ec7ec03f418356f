use Rattle.std.proofs.Common.{Bool, true, false, ◌≡◌, sym, true≢false}
use Rattle.std.specs.Bool.{OnTrue}
use Rattle.btree_nodes.proofs.Changed.{pair_pushed}
use Rattle.btree_nodes.proofs.change.change_cached.Goals as goal

where_true : (b : Bool) (P : Type 0) → b ≡ true → OnTrue b P → P
where_true true P e h = h
where_true false P e h = absurd (true≢false (sym e))

pub returns-then-branch-clause-saves : goal.returns-then-branch-clause-saves
returns-then-branch-clause-saves c =
    let change = where_true _ _ c.if-branch.true c.in_ok-change_pair.ensures.changed in
    (pair_pushed c.args.bucket.now c.change_pair.new.self c.args.row.now c.requires.of_bucket c.requires.there change).saves

pub returns-then-branch-clause-pushes : goal.returns-then-branch-clause-pushes
returns-then-branch-clause-pushes c =
    let change = where_true _ _ c.if-branch.true c.in_ok-change_pair.ensures.changed in
    pair_pushed c.args.bucket.now c.change_pair.new.self c.args.row.now c.requires.of_bucket c.requires.there change
