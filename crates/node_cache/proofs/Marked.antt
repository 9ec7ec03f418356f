-- Marks stay true where the nodes of marked numbers stay as they are.
use Rattle.std.proofs.Common.{◌≡◌, ◌≢◌, ℕ, nat_eq, Bool, true, false, if◌then◌else◌, List, Option, None, Some, option_map, IfSome, sym, subst, ne_eqb}
use Rattle.std.specs.Map.{lookup}
use Rattle.node_cache.specs.declared.cached.Cached.{Cached}
use Rattle.node_cache.specs.declared.marks.Marks.{Marks}
use Rattle.node_cache.specs.Entries.{stamped}
use Rattle.node_cache.specs.Marked.{is_marked, HasOwnKeys, AreMarked}

abbrev Nodes : Type 0
Nodes = List (ℕ × Cached)

-- no mark is added, and one number's is taken away
abbrev pub Takes : ℕ → Marks → Marks → Type 0
Takes k old new = (n : ℕ) → is_marked new n ≡ true → (n ≢ k) × (is_marked old n ≡ true)

-- the node of a number may be any other once its mark is taken away
pub marked_but : (bucket : ℕ) (m m' : Marks) (nodes nodes' : Nodes) → AreMarked bucket m nodes → (k : ℕ) → Takes k m m' → ((q : ℕ) → nat_eq k q ≡ false → lookup (nat_eq q) nodes' ≡ lookup (nat_eq q) nodes) → AreMarked bucket m' nodes'
marked_but bucket m m' nodes nodes' marked k takes same = record {
  each = λ n h.
      let old = takes n h in
      subst (λ found. IfSome found (λ kept. HasOwnKeys bucket kept.node)) (sym (same n (ne_eqb k n (λ e. old.0 (sym e))))) (marked.each n old.1);
}

-- and so they do where each node that is cached is one that was
pub marked_fewer : (bucket : ℕ) (m : Marks) (nodes nodes' : Nodes) → AreMarked bucket m nodes → ((n : ℕ) → IfSome (lookup (nat_eq n) nodes') (λ kept. lookup (nat_eq n) nodes ≡ Some kept)) → AreMarked bucket m nodes'
marked_fewer bucket m nodes nodes' marked fewer = record { each = λ n h. by (lookup (nat_eq n) nodes) (lookup (nat_eq n) nodes') (fewer n) (marked.each n h) }
  where
    by : (was found : Option Cached) → IfSome found (λ kept. was ≡ Some kept) → IfSome was (λ kept. HasOwnKeys bucket kept.node) → IfSome found (λ kept. HasOwnKeys bucket kept.node)
    by was None fewer own = tt
    by was (Some kept) fewer own = subst (λ o. IfSome o (λ k. HasOwnKeys bucket k.node)) fewer own

-- or one that was, with another epoch
pub marked_stamped : (bucket epoch : ℕ) (m : Marks) (nodes nodes' : Nodes) (goes : ℕ → Bool) → AreMarked bucket m nodes
    → ((n : ℕ) → lookup (nat_eq n) nodes' ≡ (if goes n then option_map (stamped epoch) (lookup (nat_eq n) nodes) else lookup (nat_eq n) nodes)) → AreMarked bucket m nodes'
marked_stamped bucket epoch m nodes nodes' goes marked is = record {
  each = λ n h. subst (λ found. IfSome found (λ kept. HasOwnKeys bucket kept.node)) (sym (is n)) (by (goes n) (lookup (nat_eq n) nodes) (marked.each n h));
}
  where
    by : (b : Bool) (was : Option Cached) → IfSome was (λ kept. HasOwnKeys bucket kept.node) → IfSome (if b then option_map (stamped epoch) was else was) (λ kept. HasOwnKeys bucket kept.node)
    by true None own = tt
    by true (Some kept) own = own
    by false was own = own
