use Rattle.std.proofs.Common.{◌≡◌, ℕ, ◌-◌, ◌<◌, ◌≤◌, List, Some, nat_eq, count_by, IfSome, sym, ap, subst, ◌∙◌, arith}
use Rattle.std.specs.Map.{lookup}
use Rattle.node_cache.specs.Originals.{originals}
use Rattle.node_cache.specs.declared.cached.Cached.{Cached}
use Rattle.node_cache.specs.Cache.{Cache}
use Rattle.node_cache.specs.Entries.{is_published, without_first}
use Rattle.node_cache.proofs.Kept.{fresh, originals_none}
use Rattle.node_cache.proofs.Evicted.{stays, unchanged, few, without_none}
use Rattle.node_cache.proofs.Marked.{marked_fewer}
use Rattle.node_cache.specs.Saves.{saved_in}
use Rattle.node_cache.proofs.Bucket.evict.Goals as goal

pub invariant_of-self : goal.invariant_of-self
invariant_of-self c =
    let inside = c.self.inside in
    let es = inside.nodes.entries in
    let fewer : (n : ℕ) → IfSome (lookup (nat_eq n) c.remove_first.new.nodes.entries) (λ kept. lookup (nat_eq n) es ≡ Some kept) =
    λ n. subst (λ fs. IfSome (lookup (nat_eq n) fs) (λ kept. lookup (nat_eq n) es ≡ Some kept)) (sym c.remove_first.ensures.nodes) (unchanged c.args.published n c.surplus_of-surplus.result es c.self.invariant.kept.distinct) in
    record {
      once = c.self.invariant.once;
      kept = fresh _ _ (originals_none (saved_in inside.saved) (ap (λ b. b.saved) c.self.view_is ∙ c.requires)) c.remove_first.ensures.unique;
      marked = marked_fewer inside.bucket inside.marks es c.remove_first.new.nodes.entries c.self.invariant.marked fewer;
    }

pub returns-then-surplus-gt0-clause-kept : goal.returns-then-surplus-gt0-clause-kept
returns-then-surplus-gt0-clause-kept c =
    let es = c.self.inside.nodes.entries in
    rw (← c.self.view_is) (λ n. subst (λ fs. IfSome (lookup (nat_eq n) es) (λ kept. c.args.published < kept.epoch → lookup (nat_eq n) fs ≡ Some kept)) (sym c.remove_first.ensures.nodes) (stays c.args.published n c.surplus_of-surplus.result es))

pub returns-then-surplus-gt0-clause-same : goal.returns-then-surplus-gt0-clause-same
returns-then-surplus-gt0-clause-same c =
    let es = c.self.inside.nodes.entries in
    rw (← c.self.view_is) (λ n. subst (λ fs. IfSome (lookup (nat_eq n) fs) (λ kept. lookup (nat_eq n) es ≡ Some kept)) (sym c.remove_first.ensures.nodes) (unchanged c.args.published n c.surplus_of-surplus.result es c.self.invariant.kept.distinct))

pub returns-then-surplus-gt0-clause-few : goal.returns-then-surplus-gt0-clause-few
returns-then-surplus-gt0-clause-few c =
    let p = c.args.published in
    let es = c.self.inside.nodes.entries in
    let left = c.remove_first.ensures.nodes ∙ ap (λ n. without_first p n es) (c.surplus_of-surplus.ensures) in
    subst (λ fs. count_by (is_published p) fs ≤ c.args.keep) (sym left) (few p c.args.keep es)

pub returns-else-surplus-gt0-clause-nodes : goal.returns-else-surplus-gt0-clause-nodes
returns-else-surplus-gt0-clause-nodes c =
    let p = c.args.published in
    let inside = c.self.inside in
    let es = inside.nodes.entries in
    let with_nodes : List (ℕ × Cached) → Cache = λ fs. record { bucket = inside.bucket; nodes = fs; saved = originals (saved_in inside.saved) } in
    let none : count_by (is_published p) es - c.args.keep ≡ 0 = omega (arith, c.surplus_of-surplus.ensures) in
    rw (← c.self.view_is) (ap with_nodes (sym (ap (λ n. without_first p n es) none ∙ without_none p es)))
