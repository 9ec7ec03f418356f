use Rattle.std.proofs.Common.{nat_eq, sym, ap, ◌∙◌}
use Rattle.node_cache.proofs.Restored.{set_nowhere}
use Rattle.node_cache.proofs.original.restore_changed.Goals as goal

pub returns-in_default-clause-nodes : goal.returns-in_default-clause-nodes
returns-in_default-clause-nodes c =
    ap (λ m. m.entries) c.get_mut.follows.holds-at-none ∙ sym (set_nowhere (nat_eq c.args.number) c.args.nodes.now.entries c.args.undo.original.value (sym (c.in_default.ensures).value))
