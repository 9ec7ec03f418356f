-- A node that is put under a number where none was cached.
use Rattle.std.proofs.Common.{◌≡◌, ◌≢◌, ◌∙◌, ℕ, ◌∷◌, [], ◌++◌, List, Bool, true, false, true≢false, cond, inr, Some, None, is_some, nat_eq, refl, sym, ap, subst}
use Rattle.std.specs.Prelude.{Option, IfSome}
use Rattle.std.specs.Borrow.{Bor}
use Rattle.std.specs.Map.{lookup, remove_entry}
use Rattle.std.specs.Option.{option_copied}
use Rattle.fine_model.specs.declared.Row.{Row}
use Rattle.node_cache.specs.declared.cached.Cached.{Cached}
use Rattle.node_cache.specs.Cache.{Cache, cached, with_node}
use Rattle.node_cache.specs.Given.{Finds, IsFetched, IsLoad}

pub remove_absent : (k : ℕ) (es : List (ℕ × Cached)) → lookup (nat_eq k) es ≡ None → remove_entry (nat_eq k) es ≡ es
remove_absent k [] none = refl
remove_absent k (e ∷ es) none = by (nat_eq k e.0) none (remove_absent k es)
  where
    by : (t : Bool) → cond t (Some e.1) (lookup (nat_eq k) es) ≡ None → (lookup (nat_eq k) es ≡ None → remove_entry (nat_eq k) es ≡ es) → cond t es (e ∷ remove_entry (nat_eq k) es) ≡ e ∷ es
    by true none rest = absurd (true≢false (ap is_some none))
    by false none rest = ap (λ (xs : List (ℕ × Cached)). e ∷ xs) (rest none)

pub none_there : {A : Type 0} (o : Option A) → is_some o ≡ false → o ≡ None
none_there None e = refl
none_there (Some a) e = absurd (true≢false e)

pub copied_there : {A : Type 0} (o : Option (Bor A)) → is_some (option_copied o) ≡ is_some o
copied_there None = refl
copied_there (Some x) = refl

pub put_loads : (tells : List Row → Type 0) (finds : Finds) (upper k : ℕ) (b new : Cache) (kept : Cached) → is_some (cached b k) ≡ false → new ≡ with_node b k kept → cached new k ≡ Some kept → ((n : ℕ) → n ≢ k → cached new n ≡ cached b n) → IsFetched tells finds upper b.bucket k kept → IsLoad tells finds upper k b new
put_loads tells finds upper k b new kept absent put here elsewhere fetched = record {
  bucket = ap (λ (c : Cache). c.bucket) put;
  saved = ap (λ (c : Cache). c.saved) put;
  others = elsewhere;
  stays = λ there. absurd (true≢false (sym there ∙ absent));
  fetched = λ none. subst (λ o. IfSome o (IsFetched tells finds upper b.bucket k)) (sym here) fetched;
  order = inr (kept, ap (λ (c : Cache). c.nodes) put ∙ ap (λ (es : List (ℕ × Cached)). es ++ (k, kept) ∷ []) (remove_absent k b.nodes (none_there (cached b k) absent)));
}
