use Rattle.std.proofs.Common.{nat_eq, refl, sym, ap, ◌∙◌}
use Rattle.std.specs.Map.{set_value}
use Rattle.node_cache.specs.Entries.{stamped}
use Rattle.node_cache.proofs.Equal.{same_kept}
use Rattle.node_cache.proofs.Restored.{stamped_there, stamped_nowhere}
use Rattle.node_cache.proofs.stamp.Goals as goal

pub returns-in-Some-clause-nodes : goal.returns-in-Some-clause-nodes
returns-in-Some-clause-nodes c =
    let t = nat_eq c.args.number in
    let es = c.args.nodes.now.entries in
    (c.get_mut.follows.holds _).0
    ∙ ap (set_value t es) (same_kept _ (stamped c.args.epoch c.in-Some.node.now) refl refl refl)
    ∙ stamped_there t c.args.epoch es c.in-Some.node.now (sym (c.in-Some.ensures).value)

pub returns-in_default-clause-nodes : goal.returns-in_default-clause-nodes
returns-in_default-clause-nodes c =
    ap (λ m. m.entries) c.get_mut.follows.holds-at-none ∙ sym (stamped_nowhere (nat_eq c.args.number) c.args.epoch c.args.nodes.now.entries (sym (c.in_default.ensures).value))
