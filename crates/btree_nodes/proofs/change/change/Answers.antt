use Rattle.std.proofs.Common.{◌≡◌, Some, refl}
use Rattle.node_cache.specs.Cache.{cached}
use Rattle.btree_nodes.proofs.Changed.{on_ok, was_changed, was_not, still_in_range}
use Rattle.btree_nodes.proofs.change.change.Goals as goal

pub returns-clause-ok : goal.returns-clause-ok
returns-clause-ok c =
    let kept = c.in_ok-kept.kept.now in
    let found : cached c.args.bucket.now c.args.row.now.node.number ≡ Some kept = c.in_ok-kept.ensures.value in
    on_ok c.apply.result (λ e. was_changed c.args.bucket.now c.args.row.now kept _ found e) c.apply.ensures.ok

pub returns-clause-err : goal.returns-clause-err
returns-clause-err c =
    let kept = c.in_ok-kept.kept.now in
    let found : cached c.args.bucket.now c.args.row.now.node.number ≡ Some kept = c.in_ok-kept.ensures.value in
    was_not c.args.bucket.now c.args.row.now kept _ found c.apply.result c.apply.ensures.err_node c.apply.ensures.err_version refl

pub invariant_of-kept : goal.invariant_of-kept
invariant_of-kept c =
    let kept = c.in_ok-kept.kept.now in
    record { fits = c.apply.ensures.fits; in_range = still_in_range c.apply.result kept.node c.apply.new.node kept.version c.apply.new.version c.args.row.now c.apply.ensures.ok c.apply.ensures.err_version kept.in_range c.requires.version }
