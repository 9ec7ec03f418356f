use Rattle.std.proofs.Common.{◌≡◌, inl, nat_eq, sym, ap, subst, ◌∙◌}
use Rattle.std.specs.Map.{lookup, set_value}
use Rattle.node_cache.specs.Cache.{Cache, cached, rewritten}
use Rattle.node_cache.specs.Originals.{originals, IsKept}
use Rattle.node_cache.specs.declared.cached.Cached.{Cached}
use Rattle.node_cache.proofs.Kept.{kept_set, still_saved, other_set}
use Rattle.node_cache.proofs.Marked.{marked_but}
use Rattle.node_cache.specs.Saves.{saved_in}
use Rattle.node_cache.proofs.Bucket.get_mut.Goals as goal

pub invariant_of-self-lent : goal.invariant_of-self-lent
invariant_of-self-lent c =
    let inside = c.self.inside in
    let k = c.args.number in
    λ w.
    let written = (c.get_mut.follows.holds w).0 in
    record {
      once = c.keep_whole.ensures.once;
      kept =
          subst (λ es. IsKept es (saved_in c.keep_whole.new.self)) (sym written)
          (subst (IsKept (set_value (nat_eq k) inside.nodes.entries w)) (sym (c.in_ok-keep_whole.ensures).ok) (kept_set k inside.nodes.entries (saved_in inside.saved) w c.self.invariant.kept));
      marked = marked_but inside.bucket inside.marks c.take.new.self inside.nodes.entries _ c.self.invariant.marked k c.take.ensures (λ q differs. ap (lookup (nat_eq q)) written ∙ other_set k q differs inside.nodes.entries w);
    }

pub returns-in-Some : goal.returns-in-Some
returns-in-Some c =
    let inside = c.self.inside in
    let k = c.args.number in
    let same = still_saved k (saved_in inside.saved) (saved_in c.keep_whole.new.self) (c.in_ok-keep_whole.ensures).ok in
    let lent : (w : Cached) → ◌≡◌ {A = Cache} (record { bucket = inside.bucket; nodes = (c.get_mut.follows.lender w).entries; saved = originals (saved_in c.keep_whole.new.self) }) (rewritten c.args.self.now k w) =
    λ w. (λ i. record { bucket = inside.bucket; nodes = (c.get_mut.follows.holds w).0 i; saved = same i }) ∙ ap (λ b. rewritten b k w) c.self.view_is in
    ((λ i. inl (c.in-Some.kept.ghost_name, λ w. lent w i)), record { value = ap (λ b. cached b k) (sym c.self.view_is) ∙ sym (c.in-Some.ensures).value; writes_back = tt })
