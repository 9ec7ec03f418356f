use Rattle.std.proofs.Common.{sym, ap, subst, IfSome}
use Rattle.node_cache.specs.Cache.{Cache}
use Rattle.node_cache.specs.Marked.{HasOwnKeys}
use Rattle.btree_nodes.proofs.change.put_own.Goals as goal

pub note_own_keys-requires : goal.note_own_keys-requires
note_own_keys-requires c =
    let put = c.in_ok-put.ensures in
    subst (λ o. IfSome o (λ kept. HasOwnKeys c.put.new.self.bucket kept.node)) (sym put.here) (subst (λ bucket. HasOwnKeys bucket c.args.kept.node) (sym (ap (λ (b : Cache). b.bucket) put.nodes)) c.requires)
