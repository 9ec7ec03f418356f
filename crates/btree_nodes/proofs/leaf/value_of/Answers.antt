use Rattle.std.proofs.Common.{sym}
use Rattle.node_record.proofs.Changes.{get_there, get_absent}
use Rattle.btree_nodes.proofs.leaf.value_of.Goals as goal

pub returns-in-Ok : goal.returns-in-Ok
returns-in-Ok c = sym (get_there c.args.key.now c.args.pairs.now c.in-Ok.i c.in-Ok.ensures c.at.result.now c.at.ensures)

pub returns-in-Err : goal.returns-in-Err
returns-in-Err c = sym (get_absent c.args.key.now c.args.pairs.now c.in-Err.field-0 c.in-Err.ensures)
