use Rattle.std.proofs.Common.{refl}
use Rattle.btree_nodes.proofs.Changed.{on_ok, pushed_one, saves_then}
use Rattle.btree_nodes.proofs.change.save_and_change.Goals as goal

pub returns-clause-saves : goal.returns-clause-saves
returns-clause-saves c =
    saves_then c.args.bucket.now c.save.new.self c.args.row.now.node.number (c.in_ok-save.ensures).saved c.change.new.bucket c.args.row.now c.change.result refl c.requires.of_bucket c.requires.there c.save.ensures.before (c.in_ok-save.ensures).here c.change.ensures.ok c.change.ensures.err

pub returns-clause-pushes : goal.returns-clause-pushes
returns-clause-pushes c =
    on_ok c.change.result (λ changed. pushed_one c.args.bucket.now c.save.new.self c.change.new.bucket c.args.row.now c.requires.of_bucket c.requires.there (c.in_ok-save.ensures).saved c.save.ensures.before (c.in_ok-save.ensures).here changed) c.change.ensures.ok
