-- What a bucket at rest holds.
use Rattle.std.proofs.Common.{◌≡◌, ℕ, nat_eq, List, [], ◌++◌, Option, Some, None, is_some, refl, sym, ap, subst, ◌∙◌, true≢false, append-nil}
use Rattle.std.specs.Prelude.{IfSome, unwrap_or}
use Rattle.std.specs.Map.{lookup}
use Rattle.fine_model.specs.declared.Row.{Row}
use Rattle.fine_model.specs.Trees.{nodes_of}
use Rattle.node_cache.specs.declared.cached.Cached.{Cached}
use Rattle.node_cache.specs.Cache.{Cache, cached, IsResting}
use Rattle.node_cache.specs.Given.{given, IsCached}
use Rattle.btree_nodes.specs.Trees.{Holds}
use Rattle.btree_nodes.proofs.Steps.{given_is}

-- a bucket at rest in which each node is what rows leave holds these
pub holds_at_rest : (rows : List Row) (b : Cache) → IsResting b → ((n : ℕ) → IfSome (cached b n) (λ kept. (kept.node, kept.version) ≡ nodes_of rows b.bucket n)) → Holds b rows []
holds_at_rest rows b resting each = record {
  same = λ n here. same n here (cached b n) refl (each n);
  others = λ n none. refl;
  restores = record { each = λ n. subst (λ o. IfSome o (λ kept. (kept.node, kept.version) ≡ nodes_of rows b.bucket n)) (sym (ap (λ s. unwrap_or (lookup (nat_eq n) s) (cached b n)) resting)) (each n) };
}
  where
    same : (n : ℕ) → IsCached b n → (o : Option Cached) → cached b n ≡ o → IfSome o (λ kept. (kept.node, kept.version) ≡ nodes_of rows b.bucket n) → given b n ≡ nodes_of (rows ++ []) b.bucket n
    same n here None is h = absurd (true≢false (sym here ∙ ap is_some is))
    same n here (Some kept) is h = given_is b n kept is ∙ h ∙ ap (λ r. nodes_of r b.bucket n) (sym (append-nil rows))
