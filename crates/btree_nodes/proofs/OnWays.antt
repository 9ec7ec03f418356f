-- On sound rows, no node on a way is one that the rows leave broken.
use Rattle.std.proofs.Common.{◌≡◌, ◌≢◌, ⊎_elim, ℕ, zero, suc, ◌-◌, List, ◌++◌, None, sym, ap, subst, ◌∙◌, refl}
use Rattle.std.specs.Prelude.{Contains}
use Rattle.fine_model.specs.declared.Row.{Row}
use Rattle.fine_model.specs.declared.Node.{Node}
use Rattle.fine_model.specs.declared.Node.TheVariants as node
use Rattle.fine_model.specs.Nodes.{Content}
use Rattle.fine_model.specs.Paths.{is_inner, place_among, bounds_at, seps_of, kid_at, unfit_from}
use Rattle.fine_model.specs.Trees.{Bounds, whole, is_leaf, bucket_of, nodes_of, IsSound}
use Rattle.node_cache.specs.Cache.{Cache, cached}
use Rattle.node_cache.specs.Given.{Finds, given, IsCached, IsLoaded}
use Rattle.btree_nodes.specs.Trees.{Serves, Holds, way, way_from, way_in, LoadsOnWay}
use Rattle.btree_nodes.proofs.Loads.{none_or_some, contains_one, contains_cases}
use Rattle.btree_nodes.proofs.Held.{agrees_loaded, holds_loaded}
use Rattle.btree_nodes.proofs.Sound.{leaf_whole, inner_whole, passed, theirs, sound_head, head_same}

-- what is not cached is given as broken
pub given_none : (b : Cache) (n : ℕ) → cached b n ≡ None → given b n ≡ (node.Broken, 0)
unfolding given
given_none b n none = rw none refl

pub head_whole : (root next depth : ℕ) (n : Node) → n ≡ node.Head root next depth → n ≢ node.Broken
head_whole root next depth n is broken = let e = sym is ∙ broken in absurd (cc)

module _ (b : Cache) (nodes : ℕ → Content) (agrees : (n : ℕ) → IsCached b n → (nodes n).0 ≢ node.Broken → given b n ≡ nodes n) (bucket next : ℕ) (key : List ℕ)
    (no_kid : (i : ℕ) → kid_at (given b 0).0 i ≡ 0) (head : (nodes 0).0 ≢ node.Broken) where
  -- beyond a node that is not cached, a way stays at the head
  way_zeros : (height n : ℕ) → Contains (way height (given b) key 0) n → n ≡ 0
  unfolding way
  way_zeros zero n on = contains_one 0 n on
  way_zeros (suc height) n on = ⊎_elim (λ e. e)
      (λ more. way_zeros height n (subst (λ k. Contains (way height (given b) key k) n) (no_kid (place_among key (seps_of (given b 0).0))) more))
      (contains_cases 0 (way height (given b) key (kid_at (given b 0).0 (place_among key (seps_of (given b 0).0)))) n on)

  pub way_whole : (height : ℕ) (bounds : Bounds) (number : ℕ) → unfit_from height bucket nodes next key bounds number ≡ None → (n : ℕ) → Contains (way height (given b) key number) n → (nodes n).0 ≢ node.Broken
  unfolding way unfit_from
  way_whole zero bounds number fit n on =
      subst (λ k. (nodes k).0 ≢ node.Broken) (sym (contains_one number n on)) (leaf_whole bucket bounds (nodes number).0 (passed (is_leaf bucket bounds (nodes number).0) None number fit).0)
  way_whole (suc height) bounds number fit n on =
      let kid_of : Node → ℕ = λ c. kid_at c (place_among key (seps_of c)) in
      let good = passed (is_inner bounds next (nodes number).0) (unfit_from height bucket nodes next key (bounds_at bounds (seps_of (nodes number).0) (place_among key (seps_of (nodes number).0))) (kid_of (nodes number).0)) number fit in
      let fine = inner_whole bounds next (nodes number).0 good.0 in
      ⊎_elim
      (λ same. subst (λ k. (nodes k).0 ≢ node.Broken) (sym same) fine)
      (λ more. ⊎_elim
      (λ none. subst (λ k. (nodes k).0 ≢ node.Broken) (sym (way_zeros height n (subst (λ (c : Content). Contains (way height (given b) key (kid_of c.0)) n) (given_none b number none) more))) head)
      (λ here. way_whole height (bounds_at bounds (seps_of (nodes number).0) (place_among key (seps_of (nodes number).0))) (kid_of (nodes number).0) good.1 n
      (subst (λ (c : Content). Contains (way height (given b) key (kid_of c.0)) n) (agrees number here fine) more))
      (none_or_some (cached b number)))
      (contains_cases number (way height (given b) key (kid_of (given b number).0)) n on)

module _ (rows : List Row) (key : List ℕ) (sound : IsSound rows) (b : Cache) (of_key : b.bucket ≡ bucket_of key) (agrees : (n : ℕ) → IsCached b n → (theirs rows key n).0 ≢ node.Broken → given b n ≡ theirs rows key n) where
  root_head : (theirs rows key 0).0 ≢ node.Broken
  root_head = let h = sound_head rows key sound in head_whole h.root h.next h.depth (theirs rows key 0).0 h.is

  -- no node on the way from the head down is one that the rows leave broken
  pub way_sound : (n : ℕ) → Contains (way_in b key) n → (theirs rows key n).0 ≢ node.Broken
  way_sound n on = ⊎_elim without with (none_or_some (cached b 0))
    where
      at_head : (n ≡ 0) → (theirs rows key n).0 ≢ node.Broken
      at_head e = subst (λ k. (theirs rows key k).0 ≢ node.Broken) (sym e) root_head

      without : cached b 0 ≡ None → (theirs rows key n).0 ≢ node.Broken
      without none = at_head (contains_one 0 n (subst (λ (c : Content). Contains (way_from (given b) key c.0) n) (given_none b 0 none) on))

      with : IsCached b 0 → (theirs rows key n).0 ≢ node.Broken
      with here =
          let h = sound_head rows key sound in
          let is : (given b 0).0 ≡ node.Head h.root h.next h.depth = ap (λ (c : Content). c.0) (head_same rows key sound b of_key agrees here) ∙ h.is in
          ⊎_elim at_head
          (λ more. way_whole b (theirs rows key) agrees (bucket_of key) h.next key (λ i. ap (λ c. kid_at c i) is) root_head (h.depth - 1) whole h.root h.fit n more)
          (contains_cases 0 (way (h.depth - 1) (given b) key h.root) n (subst (λ c. Contains (way_from (given b) key c) n) is on))

-- what a bucket holds once the way to a key is loaded
pub holds_on_way : (tells : List Row → Type 0) (finds : Finds) (upper : ℕ) (rows log : List Row) (old new : Cache) (key : List ℕ) → old.bucket ≡ bucket_of key → IsSound (rows ++ log) → IsLoaded tells finds upper old new → LoadsOnWay old new key → Serves tells old rows → Holds old rows log → Holds new rows log
holds_on_way tells finds upper rows log old new key of_key sound loaded on_way serves holds =
    holds_loaded tells finds upper rows log old new loaded serves holds (λ n none here. subst (λ k. (nodes_of (rows ++ log) k n).0 ≢ node.Broken) (sym of_key') (way_sound (rows ++ log) key sound new of_key' agrees n (on_way.each n none here)))
  where
    of_key' : new.bucket ≡ bucket_of key
    of_key' = loaded.bucket ∙ of_key

    agrees : (n : ℕ) → IsCached new n → (theirs (rows ++ log) key n).0 ≢ node.Broken → given new n ≡ theirs (rows ++ log) key n
    agrees n here fine =
        agrees_loaded tells finds upper rows log old new loaded serves holds n here (subst (λ k. (nodes_of (rows ++ log) k n).0 ≢ node.Broken) (sym of_key') fine) ∙ ap (λ k. nodes_of (rows ++ log) k n) of_key'
