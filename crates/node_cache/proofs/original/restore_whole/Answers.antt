use Rattle.std.proofs.Common.{nat_eq, sym, ap, ◌∙◌}
use Rattle.node_cache.specs.Entries.{restored}
use Rattle.node_cache.proofs.Restored.{set_nowhere}
use Rattle.node_cache.proofs.original.restore_whole.Goals as goal

pub returns-in_default-clause-nodes : goal.returns-in_default-clause-nodes
returns-in_default-clause-nodes c =
    let es = c.args.nodes.now.entries in
    ap (λ m. m.entries) c.get_mut.follows.holds-at-none ∙ sym (ap (λ o. restored (nat_eq c.args.number) o es) c.in-Some.is ∙ set_nowhere (nat_eq c.args.number) es c.in-Some.kept (sym (c.in_default.ensures).value))
