use Rattle.std.proofs.Common.{◌≡◌, ℕ, false, List, ◌++◌, Option, Some, nat_eq, eq-eqb, is_some, refl, sym, ap, subst, ◌∙◌}
use Rattle.std.specs.Map.{lookup}
use Rattle.std.specs.Option.{option_to_list}
use Rattle.std.proofs.lemmas.Bool.{cond-true, cond-false}
use Rattle.node_cache.specs.Cache.{Cache, touched}
use Rattle.node_cache.specs.Originals.{originals, IsKept}
use Rattle.node_cache.specs.declared.cached.Cached.{Cached}
use Rattle.node_cache.proofs.Moved.{others_inserted, entry_inserted}
use Rattle.node_cache.proofs.Kept.{with_err, kept_whole, still_saved}
use Rattle.node_cache.proofs.Marked.{marked_but}
use Rattle.node_cache.specs.Saves.{saved_in}
use Rattle.node_cache.proofs.Bucket.put.Goals as goal

pub returns-clause-nodes : goal.returns-clause-nodes
returns-clause-nodes c =
    let inside = c.self.inside in
    let k = c.args.number in
    let bucket_of : List (ℕ × Cached) → List (ℕ × Option Cached) → Cache = λ es os. record { bucket = inside.bucket; nodes = es; saved = os } in
    let same = still_saved k (saved_in inside.saved) (saved_in c.keep_whole.new.self) (c.in_ok-keep_whole.ensures).ok in
    c.touch.ensures.nodes
    ∙ rw (← c.self.view_is) (ap (λ os. touched (bucket_of c.insert.new.self.entries os) k) same
    ∙ ap (λ es. touched (bucket_of es (originals (saved_in inside.saved))) k) (c.in_ok-insert.ensures).entries
    ∙ (λ i. bucket_of (others_inserted k c.args.kept inside.nodes.entries i ++ option_to_list (entry_inserted k c.args.kept inside.nodes.entries i)) (originals (saved_in inside.saved))))

pub invariant_of-self-in_err-insert : goal.invariant_of-self-in_err-insert
invariant_of-self-in_err-insert c =
    let inside = c.self.inside in
    let k = c.args.number in
    let es = inside.nodes.entries in
    let same = (c.in_err-insert.ensures).err in
    record {
      once = c.keep_whole.ensures.once;
      kept =
          subst (IsKept c.insert.new.self.entries) (sym (c.in_ok-keep_whole.ensures).ok)
          (kept_whole k es c.insert.new.self.entries (saved_in inside.saved) c.self.invariant.kept (c.in_err-insert.ensures).unique (λ there. ap (λ fs. is_some (lookup (nat_eq k) fs)) same ∙ there) (λ q differs. ap (lookup (nat_eq q)) same));
      marked = marked_but inside.bucket inside.marks c.take.new.self es c.insert.new.self.entries c.self.invariant.marked k c.take.ensures (λ q differs. ap (lookup (nat_eq q)) same);
    }

pub returns-in_err-insert-clause-err : goal.returns-in_err-insert-clause-err
returns-in_err-insert-clause-err c =
    let inside = c.self.inside in
    let bucket_of : List (ℕ × Cached) → List (ℕ × Option Cached) → Cache = λ es os. record { bucket = inside.bucket; nodes = es; saved = os } in
    let same = still_saved c.args.number (saved_in inside.saved) (saved_in c.keep_whole.new.self) (c.in_ok-keep_whole.ensures).ok in
    with_err c.from_residual-in_err-insert.result (rw (← c.self.view_is) (λ i. bucket_of ((c.in_err-insert.ensures).err i) (same i)))

pub invariant_of-self-2 : goal.invariant_of-self-2
invariant_of-self-2 c =
    let inside = c.self.inside in
    let k = c.args.number in
    let es = inside.nodes.entries in
    let updates = (c.in_ok-insert.ensures).updates.0 in
    let others : (q : ℕ) → nat_eq k q ≡ false → lookup (nat_eq q) c.insert.new.self.entries ≡ lookup (nat_eq q) es =
    λ q differs. updates q ∙ cond-false (nat_eq k q) (Some c.args.kept) (lookup (nat_eq q) es) differs in
    record {
      once = c.keep_whole.ensures.once;
      kept =
          subst (IsKept c.insert.new.self.entries) (sym (c.in_ok-keep_whole.ensures).ok)
          (kept_whole k es c.insert.new.self.entries (saved_in inside.saved) c.self.invariant.kept (c.in_ok-insert.ensures).unique
          (λ _. ap is_some (updates k ∙ cond-true (nat_eq k k) (Some c.args.kept) (lookup (nat_eq k) es) (eq-eqb k k refl))) others);
      marked = marked_but inside.bucket inside.marks c.take.new.self es c.insert.new.self.entries c.self.invariant.marked k c.take.ensures others;
    }
