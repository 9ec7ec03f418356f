-- A bucket that holds what rows leave.
use Rattle.std.proofs.Common.{◌≡◌, ◌≢◌, ℕ, ⊎_elim, List, [], ◌++◌, Option, Some, None, is_some, refl, sym, ap, subst, ◌∙◌, true≢false, append_assoc, nat_eq}
use Rattle.std.specs.Prelude.{IsSome, IfSome, unwrap_or}
use Rattle.std.specs.Map.{lookup}
use Rattle.fine_model.specs.declared.Row.{Row}
use Rattle.fine_model.specs.declared.Node.TheVariants as node
use Rattle.fine_model.specs.Nodes.{replay, rows_of}
use Rattle.fine_model.specs.Trees.{nodes_of}
use Rattle.fine_model.proofs.Trees.NodeLaws.{content-append, rows_of-append}
use Rattle.node_cache.specs.declared.cached.Cached.{Cached}
use Rattle.node_cache.specs.Cache.{Cache, cached, original, before}
use Rattle.node_cache.specs.Given.{Finds, given, IsCached, IsFetched, IsLoaded}
use Rattle.btree_nodes.specs.Trees.{node_at, Serves, Restores, Holds}
use Rattle.btree_nodes.specs.Changes.{Saves, Pushes}
use Rattle.btree_nodes.proofs.Loads.{none_or_some, loaded_given}
use Rattle.btree_nodes.proofs.Steps.{given_is}

-- a node that no row of a transaction names
same_rows : (rows log : List Row) (bucket n : ℕ) → rows_of (record { bucket = bucket; number = n }) log ≡ [] → nodes_of (rows ++ log) bucket n ≡ nodes_of rows bucket n
unfolding replay
same_rows rows log bucket n none =
    content-append rows log (record { bucket = bucket; number = n }) ∙ ap (replay (nodes_of rows bucket n)) none

module _ (tells : List Row → Type 0) (finds : Finds) (upper : ℕ) (rows log : List Row) (old new : Cache) (loaded : IsLoaded tells finds upper old new) (serves : Serves tells old rows) (holds : Holds old rows log) where
  abbrev IsWhole : ℕ → Type 0
  IsWhole n = (nodes_of (rows ++ log) new.bucket n).0 ≢ node.Broken

  same_bucket : (n : ℕ) → nodes_of (rows ++ log) new.bucket n ≡ nodes_of (rows ++ log) old.bucket n
  same_bucket n = ap (λ k. nodes_of (rows ++ log) k n) loaded.bucket

  of_rows : (n : ℕ) → cached old n ≡ None → nodes_of (rows ++ log) new.bucket n ≡ nodes_of rows old.bucket n
  of_rows n none = same_bucket n ∙ same_rows rows log old.bucket n (holds.others n none)

  -- what was loaded and is not broken is what the rows leave
  fetched_is : (n : ℕ) (kept : Cached) → cached old n ≡ None → cached new n ≡ Some kept → IsWhole n → (kept.node, kept.version) ≡ nodes_of rows old.bucket n
  fetched_is n kept none is fine =
      let f = subst (λ o. IfSome o (IsFetched tells finds upper old.bucket n)) is (loaded.fetched n none) in
      let fine' = subst (λ k. k.0 ≢ node.Broken) (of_rows n none) fine in
      let known = serves.each n none fine' in
      f.same serves.known serves.is_told ∙ known

  -- what is cached is what the rows leave, where that is not broken
  pub agrees_loaded : (n : ℕ) → IsCached new n → IsWhole n → given new n ≡ nodes_of (rows ++ log) new.bucket n
  agrees_loaded n here fine = ⊎_elim
      (λ none. of none (cached new n) refl here)
      (λ there. loaded_given tells finds upper old new loaded n there ∙ holds.same n there ∙ sym (same_bucket n))
      (none_or_some (cached old n))
    where
      of : cached old n ≡ None → (o : Option Cached) → cached new n ≡ o → IsSome (cached new n) → given new n ≡ nodes_of (rows ++ log) new.bucket n
      of none None is here = absurd (true≢false (sym here ∙ ap is_some is))
      of none (Some kept) is here = given_is new n kept is ∙ fetched_is n kept none is fine ∙ sym (of_rows n none)

  was_none : (n : ℕ) → cached new n ≡ None → cached old n ≡ None
  was_none n none = by (cached old n) refl
    where
      by : (o : Option Cached) → cached old n ≡ o → cached old n ≡ None
      by None is = is
      by (Some kept) is = absurd (true≢false (sym (ap is_some (loaded.stays n (ap is_some is) ∙ is)) ∙ ap is_some none))

  module _ (fine : (n : ℕ) → cached old n ≡ None → IsCached new n → IsWhole n) where
    restores_loaded : (n : ℕ) → IfSome (before new n) (λ kept. (kept.node, kept.version) ≡ nodes_of rows new.bucket n)
    restores_loaded n = subst (λ k. IfSome (before new n) (λ kept. (kept.node, kept.version) ≡ nodes_of rows k n)) (sym loaded.bucket)
        (⊎_elim (λ none. by none (original old n) refl) (λ there. subst P (sym (λ i. unwrap_or (lookup (nat_eq n) (loaded.saved i)) (loaded.stays n there i))) (holds.restores.each n)) (none_or_some (cached old n)))
      where
        P : Option Cached → Type 0
        P o = IfSome o (λ kept. (kept.node, kept.version) ≡ nodes_of rows old.bucket n)

        now : (o : Option (Option Cached)) → original old n ≡ o → before new n ≡ unwrap_or o (cached new n)
        now o is = ap (λ s. unwrap_or s (cached new n)) (ap (lookup (nat_eq n)) loaded.saved ∙ is)

        new_one : cached old n ≡ None → (o : Option Cached) → cached new n ≡ o → P o
        new_one none None is = tt
        new_one none (Some kept) is = fetched_is n kept none is (fine n none (ap is_some is))

        by : cached old n ≡ None → (o : Option (Option Cached)) → original old n ≡ o → P (before new n)
        by none None is = subst P (sym (now None is)) (new_one none (cached new n) refl)
        by none (Some kept) is = subst P (sym (now (Some kept) is)) (subst P (ap (λ s. unwrap_or s (cached old n)) is) (holds.restores.each n))

    -- where nothing broken was loaded, the bucket holds what it held
    pub holds_loaded : Holds new rows log
    holds_loaded = record {
      same = λ n here. ⊎_elim (λ none. agrees_loaded n here (fine n none here))
          (λ there. loaded_given tells finds upper old new loaded n there ∙ holds.same n there ∙ sym (same_bucket n)) (none_or_some (cached old n));
      others = λ n none. ap (λ k. rows_of (record { bucket = k; number = n }) log) loaded.bucket ∙ holds.others n (was_none n none);
      restores = record { each = restores_loaded };
    }

-- what would be restored stays
pub restores_saved : (rows : List Row) (b new : Cache) → Saves b new → Restores b rows → Restores new rows
restores_saved rows b new saves restores = record {
  each = λ n. subst (λ o. IfSome o (λ kept. (kept.node, kept.version) ≡ nodes_of rows new.bucket n)) (sym (saves.before n))
      (subst (λ k. IfSome (before b n) (λ kept. (kept.node, kept.version) ≡ nodes_of rows k n)) (sym saves.bucket) (restores.each n));
}

-- rows that are pushed leave a bucket that holds them too
pub holds_pushed : (rows log own : List Row) (b new : Cache) → Pushes b new own → Holds b rows log → Holds new rows (log ++ own)
holds_pushed rows log own b new pushes holds = record {
  same = λ n here. pushes.nodes n
      ∙ ⊎_elim (λ none. pushes.added n none here (given b n) (nodes_of (rows ++ log) b.bucket n)) (λ there. ap (λ c. replay c (rows_of (node_at b n) own)) (holds.same n there)) (none_or_some (cached b n))
      ∙ sym (all n);
  others = λ n none.
      ap (λ k. rows_of (record { bucket = k; number = n }) (log ++ own)) pushes.saves.bucket
      ∙ rows_of-append (node_at b n) log own ∙ (λ i. holds.others n (was_none n none (cached b n) refl) i ++ pushes.others n none i);
  restores = restores_saved rows b new pushes.saves holds.restores;
}
  where
    was_none : (n : ℕ) → cached new n ≡ None → (o : Option Cached) → cached b n ≡ o → cached b n ≡ None
    was_none n none None is = is
    was_none n none (Some kept) is = absurd (true≢false (sym (pushes.kept n (ap is_some is)) ∙ ap is_some none))

    all : (n : ℕ) → nodes_of (rows ++ (log ++ own)) new.bucket n ≡ replay (nodes_of (rows ++ log) b.bucket n) (rows_of (node_at b n) own)
    all n = (λ i. nodes_of (sym (append_assoc rows log own) i) (pushes.saves.bucket i) n) ∙ content-append (rows ++ log) own (node_at b n)
