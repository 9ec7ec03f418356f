use Rattle.std.proofs.Common.{sym}
use Rattle.node_cache.specs.Given.{given}
use Rattle.btree_nodes.proofs.Grown.{no_inner}
use Rattle.btree_nodes.proofs.growth.grow_inner.Goals as goal

pub returns-in_default-inner_of-clause-grown : goal.returns-in_default-inner_of-clause-grown
returns-in_default-inner_of-clause-grown c =
    let b = c.args.bucket.now in
    let g = c.args.below in
    sym (no_inner b.bucket c.args.number (given b c.args.number).1 (given b c.args.number).0 (c.in_default-inner_of.ensures).is g.rows g.next g.split)
