use Rattle.node_cache.proofs.Marked.{marked_but}
use Rattle.node_cache.proofs.Noted.{kept_then, changed_then, before_then, others_then}
use Rattle.node_cache.specs.Saves.{saved_in}
use Rattle.node_cache.proofs.Saves.{once_distinct}
use Rattle.node_cache.proofs.Bucket.change_pair.Goals as goal

pub invariant_of-self : goal.invariant_of-self
invariant_of-self c =
    let inside = c.self.inside in
    record {
      once = c.change_pair.ensures.once;
      kept = kept_then c.self.inside.nodes.entries c.change_pair.new.nodes.entries (saved_in c.self.inside.saved) (saved_in c.change_pair.new.saved) c.args.row.now c.change_pair.result c.change_pair.ensures.change c.self.invariant.kept c.change_pair.ensures.unique_nodes (once_distinct _ c.change_pair.ensures.once);
      marked = marked_but inside.bucket inside.marks c.take.new.self inside.nodes.entries c.change_pair.new.nodes.entries c.self.invariant.marked c.args.row.now.node.number c.take.ensures (others_then inside.nodes.entries c.change_pair.new.nodes.entries (saved_in inside.saved) (saved_in c.change_pair.new.saved) c.args.row.now c.change_pair.result c.change_pair.ensures.change);
    }

pub returns-clause-changed : goal.returns-clause-changed
returns-clause-changed c =
    rw (← c.self.view_is) (changed_then c.self.inside.nodes.entries c.change_pair.new.nodes.entries (saved_in c.self.inside.saved) (saved_in c.change_pair.new.saved) c.args.row.now c.self.inside.bucket c.change_pair.result c.change_pair.ensures.change)

pub returns-clause-before : goal.returns-clause-before
returns-clause-before c =
    rw (← c.self.view_is) (before_then c.self.inside.nodes.entries c.change_pair.new.nodes.entries (saved_in c.self.inside.saved) (saved_in c.change_pair.new.saved) c.args.row.now c.change_pair.result c.change_pair.ensures.change)
