use Rattle.std.proofs.Common.{subst}
use Rattle.std.specs.Bool.{OnTrue}
use Rattle.node_cache.specs.Given.{given}
use Rattle.node_cache.specs.Marked.{HasOwnKeys}
use Rattle.btree_nodes.proofs.OwnKeys.{own_cached}
use Rattle.btree_nodes.proofs.change.note_again.Goals as goal

pub note_own_keys-requires : goal.note_own_keys-requires
note_own_keys-requires c =
    let b = c.args.bucket.now in
    own_cached b c.args.number (subst (λ known. OnTrue known (HasOwnKeys b.bucket (given b c.args.number).0)) c.if-are_own.true c.requires)
