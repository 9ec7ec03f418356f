use Rattle.std.proofs.Common.{is_some, nat_eq, ap, ◌∙◌}
use Rattle.std.specs.Map.{lookup}
use Rattle.node_cache.specs.Originals.{originals}
use Rattle.node_cache.proofs.Kept.{fresh}
use Rattle.node_cache.proofs.Restored.{finds_stamped}
use Rattle.node_cache.proofs.Marked.{marked_stamped}
use Rattle.node_cache.specs.Saves.{saved_in}
use Rattle.node_cache.proofs.Bucket.settle.Goals as goal

pub invariant_of-self : goal.invariant_of-self
invariant_of-self c =
    let inside = c.self.inside in
    let os = originals (saved_in inside.saved) in
    record {
      once = c.new.ensures.once;
      kept = fresh _ _ c.new.ensures.none c.stamp_all.ensures.unique;
      marked = marked_stamped inside.bucket c.args.epoch inside.marks inside.nodes.entries c.stamp_all.new.nodes.entries (λ n. is_some (lookup (nat_eq n) os)) c.self.invariant.marked
          (λ n. ap (lookup (nat_eq n)) c.stamp_all.ensures.nodes ∙ finds_stamped c.args.epoch os n inside.nodes.entries);
    }

pub returns-clause-stamped : goal.returns-clause-stamped
returns-clause-stamped c =
    rw (← c.self.view_is) (λ n. ap (lookup (nat_eq n)) c.stamp_all.ensures.nodes ∙ finds_stamped c.args.epoch (originals (saved_in c.self.inside.saved)) n c.self.inside.nodes.entries)
