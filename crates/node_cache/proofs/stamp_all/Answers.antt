use Rattle.std.proofs.Common.{map, sym, ap, ◌∙◌}
use Rattle.node_cache.specs.Entries.{settled_entry}
use Rattle.node_cache.specs.Originals.{original_of, originals}
use Rattle.node_cache.proofs.Kept.{last_popped}
use Rattle.node_cache.proofs.Restored.{stamped_one, none_stamped}
use Rattle.node_cache.specs.Saves.{saved_in}
use Rattle.node_cache.proofs.stamp_all.Goals as goal

pub loop-number-preserved : goal.loop-number-preserved
loop-number-preserved c =
    let rest = (saved_in c.pop.new.self) in
    let last = last_popped (saved_in c.loop-number.saved) rest c.in-Some.number c.in-Some.original _ c.pop.ensures.entries c.in-Some.is (c.in-Some.ensures).finds in
    record {
      nodes = ap (map (settled_entry c.args.epoch (originals rest))) c.stamp.ensures.nodes ∙ stamped_one (originals (saved_in c.loop-number.saved)) (originals rest) c.in-Some.number (original_of c.in-Some.original) last c.args.epoch c.loop-number.nodes.entries c.loop-number.invariant.unique ∙ c.loop-number.invariant.nodes;
      unique = c.stamp.ensures.unique;
      once = c.pop.ensures.once;
    }

pub returns-clause-nodes : goal.returns-clause-nodes
returns-clause-nodes c =
    let es = c.loop-number.nodes.entries in
    let none = c.pop.ensures.none c.in_default.is in
    sym (none_stamped c.args.epoch es) ∙ ap (λ s. map (settled_entry c.args.epoch (originals s)) es) (sym none) ∙ c.loop-number.invariant.nodes
