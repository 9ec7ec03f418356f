-- The order of last use, by the numbers that are cached.
use Rattle.std.proofs.Common.{◌≡◌, ⊎_elim, ℕ, nat_eq, Bool, true, false, cond, List, [], ◌∷◌, ◌++◌, Some, None, is_some, refl, sym, ap, ◌∙◌, true≢false, eqb-true, append-nil}
use Rattle.std.specs.Prelude.{IsSome}
use Rattle.std.specs.Map.{keys_of, lookup, lookup_entry, remove_entry}
use Rattle.std.specs.Option.{option_to_list}
use Rattle.fine_model.specs.declared.Row.{Row}
use Rattle.node_cache.specs.declared.cached.Cached.{Cached}
use Rattle.node_cache.specs.Cache.{Cache, cached, touched}
use Rattle.node_cache.specs.Given.{Finds, IsCached, IsLoad}
use Rattle.node_cache.proofs.Loading.{remove_absent}
use Rattle.btree_nodes.specs.Trees.{without, AreUsed}

keys_append : (xs ys : List (ℕ × Cached)) → keys_of (xs ++ ys) ≡ keys_of xs ++ keys_of ys
keys_append [] ys = refl
keys_append (x ∷ xs) ys = ap (λ ks. x.0 ∷ ks) (keys_append xs ys)

pub keys_behind : (es : List (ℕ × Cached)) (k : ℕ) (kept : Cached) → keys_of (es ++ (k, kept) ∷ []) ≡ keys_of es ++ k ∷ []
keys_behind es k kept = keys_append es ((k, kept) ∷ [])

keys_without : (k : ℕ) (es : List (ℕ × Cached)) → keys_of (remove_entry (nat_eq k) es) ≡ without k (keys_of es)
keys_without k [] = refl
keys_without k (e ∷ es) = by (nat_eq k e.0) (keys_without k es)
  where
    by : (t : Bool) → keys_of (remove_entry (nat_eq k) es) ≡ without k (keys_of es) → keys_of (cond t es (e ∷ remove_entry (nat_eq k) es)) ≡ cond t (keys_of es) (e.0 ∷ without k (keys_of es))
    by true rest = refl
    by false rest = ap (λ ks. e.0 ∷ ks) rest

without_absent : (k : ℕ) (es : List (ℕ × Cached)) → lookup (nat_eq k) es ≡ None → without k (keys_of es) ≡ keys_of es
without_absent k es none = sym (keys_without k es) ∙ ap (λ (xs : List (ℕ × Cached)). keys_of xs) (remove_absent k es none)

entry_there : (k : ℕ) (es : List (ℕ × Cached)) → IsSome (lookup (nat_eq k) es) → keys_of (option_to_list (lookup_entry (nat_eq k) es)) ≡ k ∷ []
entry_there k [] here = absurd (true≢false (sym here))
entry_there k (e ∷ es) here = by (nat_eq k e.0) refl here (entry_there k es)
  where
    by : (t : Bool) → nat_eq k e.0 ≡ t → IsSome (cond t (Some e.1) (lookup (nat_eq k) es)) → (IsSome (lookup (nat_eq k) es) → keys_of (option_to_list (lookup_entry (nat_eq k) es)) ≡ k ∷ [])
        → keys_of (option_to_list (cond t (Some e) (lookup_entry (nat_eq k) es))) ≡ k ∷ []
    by true same here rest = ap (λ n. n ∷ []) (sym (eqb-true k e.0 same))
    by false same here rest = rest here

entry_absent : (k : ℕ) (es : List (ℕ × Cached)) → lookup (nat_eq k) es ≡ None → option_to_list (lookup_entry (nat_eq k) es) ≡ []
entry_absent k [] none = refl
entry_absent k (e ∷ es) none = by (nat_eq k e.0) none (entry_absent k es)
  where
    by : (t : Bool) → cond t (Some e.1) (lookup (nat_eq k) es) ≡ None → (lookup (nat_eq k) es ≡ None → option_to_list (lookup_entry (nat_eq k) es) ≡ []) → option_to_list (cond t (Some e) (lookup_entry (nat_eq k) es)) ≡ []
    by true none rest = absurd (true≢false (ap is_some none))
    by false none rest = rest none

-- a number that is touched is the last used
pub touched_used : (b new : Cache) (k : ℕ) → new ≡ touched b k → IsCached b k → AreUsed b new (k ∷ [])
touched_used b new k is here =
    ap (λ c. keys_of c.nodes) is ∙ keys_append (remove_entry (nat_eq k) b.nodes) (option_to_list (lookup_entry (nat_eq k) b.nodes))
    ∙ (λ i. keys_without k b.nodes i ++ entry_there k b.nodes here i)

-- and so is one that is loaded
pub loaded_used : (tells : List Row → Type 0) (finds : Finds) (upper k : ℕ) (b m new : Cache) → m ≡ touched b k → cached b k ≡ None → IsLoad tells finds upper k m new → IsCached new k → AreUsed b new (k ∷ [])
loaded_used tells finds upper k b m new is none load here = ⊎_elim
    (λ same. absurd (true≢false (sym here ∙ ap (λ (es : List (ℕ × Cached)). is_some (lookup (nat_eq k) es)) (same ∙ same_nodes) ∙ ap is_some none)))
    (λ more. ap (λ (es : List (ℕ × Cached)). keys_of es) more.1 ∙ keys_behind m.nodes k more.0
    ∙ ap (λ (es : List (ℕ × Cached)). keys_of es ++ k ∷ []) same_nodes ∙ ap (λ ks. ks ++ k ∷ []) (sym (without_absent k b.nodes none)))
    load.order
  where
    same_nodes : m.nodes ≡ b.nodes
    same_nodes = ap (λ c. c.nodes) is ∙ (λ i. remove_absent k b.nodes none i ++ entry_absent k b.nodes none i) ∙ append-nil b.nodes
