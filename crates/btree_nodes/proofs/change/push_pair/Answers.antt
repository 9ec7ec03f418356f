use Rattle.btree_nodes.proofs.OwnKeys.{own_again}
use Rattle.btree_nodes.proofs.change.push_pair.Goals as goal

pub note_again-requires : goal.note_again-requires
note_again-requires c =
    own_again c.has_own_keys-are_own.result c.args.bucket.now c.change_cached.new.bucket c.args.row c.requires.row.of_bucket (c.in_ok-change_cached.ensures).pushes c.requires.own c.has_own_keys-are_own.ensures
