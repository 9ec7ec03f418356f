use Rattle.std.proofs.Common.{nat_eq, ap, ◌∙◌}
use Rattle.std.specs.Map.{lookup}
use Rattle.node_cache.specs.Originals.{originals}
use Rattle.node_cache.proofs.Kept.{fresh, is_cache}
use Rattle.node_cache.proofs.Restored.{finds_restored}
use Rattle.node_cache.specs.Saves.{saved_in}
use Rattle.node_cache.proofs.Bucket.undo.Goals as goal

pub invariant_of-self : goal.invariant_of-self
invariant_of-self c = record { once = c.new.ensures.once; kept = fresh _ _ c.new.ensures.none c.restore_all.ensures.unique; marked = c.restore_all.ensures.marks c.self.inside.bucket c.self.invariant.marked }

pub returns-clause-restored : goal.returns-clause-restored
returns-clause-restored c =
    rw (← c.self.view_is) (λ n. ap (lookup (nat_eq n)) c.restore_all.ensures.nodes ∙ finds_restored (originals (saved_in c.self.inside.saved)) c.self.inside.nodes.entries (is_cache c.self.inside.nodes.entries (saved_in c.self.inside.saved) c.self.invariant.kept) n)
