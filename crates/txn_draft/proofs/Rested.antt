-- What a bucket holds once a transaction has ended.
use Rattle.std.proofs.Common.{◌≡◌, ℕ, Bool, true, false, List, [], ◌++◌, Option, Some, None, is_some, option_map, refl, sym, ap, subst, ◌∙◌}
use Rattle.std.specs.Prelude.{IfSome, if◌then◌else◌}
use Rattle.fine_model.specs.declared.Row.{Row}
use Rattle.fine_model.specs.Nodes.{Content}
use Rattle.fine_model.specs.Trees.{nodes_of}
use Rattle.node_cache.specs.declared.cached.Cached.{Cached}
use Rattle.node_cache.specs.Cache.{Cache, cached, original, before, after, IsResting}
use Rattle.node_cache.specs.Entries.{stamped}
use Rattle.btree_nodes.specs.Trees.{Restores, Holds}
use Rattle.btree_nodes.proofs.Rested.{holds_at_rest}
use Rattle.btree_nodes.proofs.Steps.{given_is}

-- once all is taken back
pub holds_undone : (rows : List Row) (old new : Cache) → new.bucket ≡ old.bucket → IsResting new → ((n : ℕ) → IfSome (cached new n) (λ kept. before old n ≡ Some kept)) → Restores old rows → Holds new rows []
holds_undone rows old new bucket resting left restores = holds_at_rest rows new resting (λ n. each n (cached new n) (left n))
  where
    each : (n : ℕ) (o : Option Cached) → IfSome o (λ kept. before old n ≡ Some kept) → IfSome o (λ kept. (kept.node, kept.version) ≡ nodes_of rows new.bucket n)
    each n None h = tt
    each n (Some kept) h = subst (λ k. (kept.node, kept.version) ≡ nodes_of rows k n) (sym bucket) (subst (λ o. IfSome o (λ k. (k.node, k.version) ≡ nodes_of rows old.bucket n)) h (restores.each n))

-- once all is kept
pub holds_settled : (epoch : ℕ) (rows log : List Row) (old new : Cache) → new.bucket ≡ old.bucket → IsResting new → ((n : ℕ) → IfSome (cached new n) (λ kept. after old epoch n ≡ Some kept)) → Holds old rows log → Holds new (rows ++ log) []
holds_settled epoch rows log old new bucket resting left holds = holds_at_rest (rows ++ log) new resting (λ n. each n (cached new n) (left n))
  where
    -- the content is that of what was cached
    content : (n : ℕ) (kept : Cached) (t : Bool) (o : Option Cached) → cached old n ≡ o → (if t then option_map (stamped epoch) o else o) ≡ Some kept → (kept.node, kept.version) ≡ nodes_of (rows ++ log) old.bucket n
    content n kept true None is e = absurd cc
    content n kept false None is e = absurd cc
    content n kept true (Some k) is e = content_of (stamped epoch k) kept (some_is _ _ e) ∙ (sym (given_is old n k is) ∙ holds.same n (ap is_some is))
      where
        some_is : (a b : Cached) → ◌≡◌ {A = Option Cached} (Some a) (Some b) → a ≡ b
        some_is a b e = cc

        content_of : (a b : Cached) → a ≡ b → ◌≡◌ {A = Content} (b.node, b.version) (a.node, a.version)
        content_of a b e = ap (λ x. (x.node, x.version)) (sym e)
    content n kept false (Some k) is e = sym (ap (λ x. (x.node, x.version)) (some_is k kept e)) ∙ (sym (given_is old n k is) ∙ holds.same n (ap is_some is))
      where
        some_is : (a b : Cached) → ◌≡◌ {A = Option Cached} (Some a) (Some b) → a ≡ b
        some_is a b e = cc

    each : (n : ℕ) (o : Option Cached) → IfSome o (λ kept. after old epoch n ≡ Some kept) → IfSome o (λ kept. (kept.node, kept.version) ≡ nodes_of (rows ++ log) new.bucket n)
    each n None h = tt
    each n (Some kept) h = subst (λ k. (kept.node, kept.version) ≡ nodes_of (rows ++ log) k n) (sym bucket) (content n kept (is_some (original old n)) (cached old n) refl h)

-- what is left was there before, which is what that was
pub still : (there was : Option Cached) → there ≡ was → (o : Option Cached) → IfSome o (λ kept. there ≡ Some kept) → IfSome o (λ kept. was ≡ Some kept)
still there was same None h = tt
still there was same (Some kept) h = sym same ∙ h
