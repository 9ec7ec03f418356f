-- What a change of a tree leaves of a bucket that a transaction took.
use Rattle.std.proofs.Common.{◌≡◌, ◌≢◌, true≢false, ⊎_elim, ℕ, ◌≤◌, nat_eq, ◌||◌, List, ◌++◌, Option, Some, None, is_some, Result, Ok, Err, refl, sym, ap, subst, ◌∙◌}
use Rattle.std.specs.Prelude.{IfSome, IsSome, unwrap_or}
use Rattle.std.specs.Map.{lookup}
use Rattle.fine_model.specs.declared.Call.{Call}
use Rattle.fine_model.specs.declared.FetchFault.{FetchFault}
use Rattle.fine_model.specs.declared.Row.{Row}
use Rattle.fine_model.specs.declared.Node.TheVariants as node
use Rattle.fine_model.specs.Trees.{nodes_of}
use Rattle.fine_model.proofs.Ordered.Order.{all_map}
use Rattle.fine_model.proofs.Ordered.Sets.{all_append}
use Rattle.node_cache.specs.declared.cached.Cached.{Cached}
use Rattle.node_cache.specs.Cache.{Cache, cached, original, before, IsSaved}
use Rattle.node_cache.specs.Given.{Finds, IsCached, IsFetched, IsLoaded}
use Rattle.btree_nodes.specs.declared.fault.TreeFault.{TreeFault}
use Rattle.btree_nodes.specs.declared.fault.TreeFault.TheVariants.{Source, Unfit, BucketFull, Number, NoMemory}
use Rattle.btree_nodes.specs.Changes.{Saves, Pushes, is_named}
use Rattle.btree_nodes.specs.Trees.{Serves}
use Rattle.btree_nodes.specs.Calls.{IsAsBefore, Outcome, IsChange}
use Rattle.btree_nodes.proofs.Loads.{none_or_some}
use Rattle.txn_draft.specs.Uses.{Undoes, IsUsed, UsedAfter, OnlyLoads, OnKept}

-- what is there before is either the same, or what was loaded
by_saved : (o : Option (Option Cached)) (m : Option Cached) (Q : Cached → Type 0) → IfSome (unwrap_or o None) Q → IfSome m Q → IfSome (unwrap_or o m) Q
by_saved None m Q then_none then_loaded = then_loaded
by_saved (Some x) m Q then_none then_loaded = then_none

module _ (tells : List Row → Type 0) (finds : Finds) (upper low : ℕ) (most : low ≤ upper) (taken old mid : Cache) (loaded : IsLoaded tells finds upper old mid) where
  same_before : (n : ℕ) → IsCached old n → before mid n ≡ before old n
  same_before n here = λ i. unwrap_or (lookup (nat_eq n) (loaded.saved i)) (loaded.stays n here i)

  late : (n : ℕ) (o : Option Cached) → IfSome o (IsFetched tells finds upper old.bucket n) → IfSome o (λ kept. low ≤ kept.epoch)
  late n None h = tt
  late n (Some kept) h = subst (λ (e : ℕ). low ≤ e) (sym h.epoch) most

  undoes_loaded : Undoes low taken old → ((n : ℕ) → IsCached taken n → IsCached old n) → Undoes low taken mid
  undoes_loaded u there = record {
    bucket = loaded.bucket ∙ u.bucket;
    stays = λ n here. same_before n (there n here) ∙ u.stays n here;
    loaded = λ n none. ⊎_elim
        (λ gone. by_saved (original mid n) (cached mid n) (λ kept. low ≤ kept.epoch)
        (subst (λ o. IfSome o (λ kept. low ≤ kept.epoch)) (λ i. unwrap_or (lookup (nat_eq n) (sym loaded.saved i)) (gone i)) (u.loaded n none))
        (late n (cached mid n) (loaded.fetched n gone)))
        (λ here. subst (λ o. IfSome o (λ kept. low ≤ kept.epoch)) (sym (same_before n here)) (u.loaded n none))
        (none_or_some (cached old n));
  }

  pub used_loaded : (rows : List Row) → IsUsed low taken old rows → IsUsed low taken mid rows
  used_loaded rows u = record {
    undoes = undoes_loaded u.undoes u.there;
    there = λ n here. subst (λ (o : Option Cached). IsSome o) (sym (loaded.stays n (u.there n here))) (u.there n here);
    named = all_map (λ row. row.node.bucket ≡ old.bucket → IsSaved old row.node.number × IsCached old row.node.number) (λ row. row.node.bucket ≡ mid.bucket → IsSaved mid row.node.number × IsCached mid row.node.number)
        (λ row h here. let p = h (here ∙ loaded.bucket) in (
          subst (λ saved. IsSome (lookup (nat_eq row.node.number) saved)) (sym loaded.saved) p.0,
          subst (λ (o : Option Cached). IsSome o) (sym (loaded.stays row.node.number p.1)) p.1,
        ))
        rows u.named;
  }

module _ (low : ℕ) (taken mid new : Cache) where
  undoes_saved : Saves mid new → Undoes low taken mid → Undoes low taken new
  undoes_saved saves u = record {
    bucket = saves.bucket ∙ u.bucket;
    stays = λ n here. saves.before n ∙ u.stays n here;
    loaded = λ n none. subst (λ o. IfSome o (λ kept. low ≤ kept.epoch)) (sym (saves.before n)) (u.loaded n none);
  }

  used_pushed : (log own : List Row) → Pushes mid new own → IsUsed low taken mid log → IsUsed low taken new (log ++ own)
  used_pushed log own pushes u = record {
    undoes = undoes_saved pushes.saves u.undoes;
    there = λ n here. pushes.kept n (u.there n here);
    named = all_append (λ row. row.node.bucket ≡ new.bucket → IsSaved new row.node.number × IsCached new row.node.number) log own
        (all_map (λ row. row.node.bucket ≡ mid.bucket → IsSaved mid row.node.number × IsCached mid row.node.number) (λ row. row.node.bucket ≡ new.bucket → IsSaved new row.node.number × IsCached new row.node.number)
        (λ row h here. let p = h (here ∙ pushes.saves.bucket) in (pushes.saved row.node.number ∙ ap (λ t. t || is_named row.node.number own) p.0, pushes.kept row.node.number p.1)) log u.named)
        (all_map (λ row. IsSaved new row.node.number × IsCached new row.node.number) (λ row. row.node.bucket ≡ new.bucket → IsSaved new row.node.number × IsCached new row.node.number) (λ row h here. h) own pushes.named);
  }

  used_same : (log log' : List Row) → IsAsBefore mid new log log' → IsUsed low taken mid log → IsUsed low taken new log'
  used_same log log' same u = subst (λ b. IsUsed low taken b log') (sym same.nodes) (subst (IsUsed low taken mid) (sym same.rows) u)

module _ {A : Type 0} (tells : List Row → Type 0) (finds : Finds) (upper : ℕ) (old new : Cache) (log log' : List Row) (c : Call) (P : Cache → A → Type 0) (F : FetchFault → Type 0) where
  pub used_after : (low : ℕ) (taken : Cache) (r : Result A TreeFault) → IsChange tells finds upper old new log log' c P F r → IsUsed low taken old log → low ≤ upper → UsedAfter low taken new log' r
  used_after low taken r h u most = by r h.outcome
    where
      at_mid : IsUsed low taken h.mid log
      at_mid = used_loaded tells finds upper low most taken old h.mid h.loaded log u

      by : (r : Result A TreeFault) → Outcome h.mid new log log' c (P h.mid) F r → UsedAfter low taken new log' r
      by (Ok a) o = subst (IsUsed low taken new) (sym o.2.behind) (used_pushed low taken h.mid new log o.2.rows o.2.pushes at_mid)
      by (Err (Source f)) o = used_same low taken h.mid new log log' o.1 at_mid
      by (Err (Unfit id)) o = used_same low taken h.mid new log log' o.1 at_mid
      by (Err (BucketFull m d)) o = used_same low taken h.mid new log log' o.3 at_mid
      by (Err (Number id)) o = used_same low taken h.mid new log log' o.3 at_mid
      by (Err NoMemory) o = undoes_saved low taken h.mid new o at_mid.undoes

  -- the bucket keeps its number
  pub same_number : (r : Result A TreeFault) → IsChange tells finds upper old new log log' c P F r → new.bucket ≡ old.bucket
  same_number r h = by r h.outcome ∙ h.loaded.bucket
    where
      by : (r : Result A TreeFault) → Outcome h.mid new log log' c (P h.mid) F r → new.bucket ≡ h.mid.bucket
      by (Ok a) o = o.2.pushes.saves.bucket
      by (Err (Source f)) o = ap (λ b. b.bucket) o.1.nodes
      by (Err (Unfit id)) o = ap (λ b. b.bucket) o.1.nodes
      by (Err (BucketFull m d)) o = ap (λ b. b.bucket) o.3.nodes
      by (Err (Number id)) o = ap (λ b. b.bucket) o.3.nodes
      by (Err NoMemory) o = o.bucket

  pub only_loads : (r : Result A TreeFault) → IsChange tells finds upper old new log log' c P F r → OnlyLoads tells finds upper old new r
  only_loads r h = by r h.outcome
    where
      still : new ≡ h.mid → IsLoaded tells finds upper old new
      still same = subst (IsLoaded tells finds upper old) (sym same) h.loaded

      by : (r : Result A TreeFault) → Outcome h.mid new log log' c (P h.mid) F r → OnlyLoads tells finds upper old new r
      by (Ok a) o = tt
      by (Err (Source f)) o = still o.1.nodes
      by (Err (Unfit id)) o = still o.1.nodes
      by (Err (BucketFull m d)) o = still o.3.nodes
      by (Err (Number id)) o = still o.3.nodes
      by (Err NoMemory) o = tt

-- where nothing that was cached is dropped, a source that served the bucket does so some loads later
pub served : (tells tells' : List Row → Type 0) (old new : Cache) (rows : List Row) → ((known : List Row) → tells known → tells' known) → new.bucket ≡ old.bucket → ((n : ℕ) → IsCached old n → IsCached new n) → Serves tells old rows → Serves tells' new rows
served tells tells' old new rows on bucket there serves = record {
  known = serves.known;
  is_told = on serves.known serves.is_told;
  each = λ n none fine. subst (λ k. nodes_of serves.known k n ≡ nodes_of rows k n) (sym bucket)
      (serves.each n (was_none n none (cached old n) refl) (subst (λ k. (nodes_of rows k n).0 ≢ node.Broken) bucket fine));
}
  where
    was_none : (n : ℕ) → cached new n ≡ None → (o : Option Cached) → cached old n ≡ o → cached old n ≡ None
    was_none n none None is = is
    was_none n none (Some kept) is = absurd (true≢false (sym (there n (ap is_some is)) ∙ ap is_some none))

module _ (tells : List Row → Type 0) (finds : Finds) (upper : ℕ) (old mid : Cache) (loaded : IsLoaded tells finds upper old mid) where
  pub still_there : (n : ℕ) → IsCached old n → IsCached mid n
  still_there n here = subst (λ (o : Option Cached). IsSome o) (sym (loaded.stays n here)) here

module _ {A : Type 0} (tells tells' : List Row → Type 0) (on : (known : List Row) → tells known → tells' known) (finds : Finds) (upper : ℕ) (old new : Cache) (log log' : List Row) (c : Call) (P : Cache → A → Type 0) (F : FetchFault → Type 0) where
  pub served_after : (rows : List Row) (r : Result A TreeFault) → IsChange tells finds upper old new log log' c P F r → Serves tells old rows → OnKept r (Serves tells' new rows)
  served_after rows r h serves = by r h.outcome
    where
      at : ((n : ℕ) → IsCached h.mid n → IsCached new n) → new.bucket ≡ h.mid.bucket → Serves tells' new rows
      at there bucket = served tells tells' old new rows on (bucket ∙ h.loaded.bucket) (λ n here. there n (still_there tells finds upper old h.mid h.loaded n here)) serves

      same : new ≡ h.mid → Serves tells' new rows
      same is = at (λ n here. subst (λ b. IsCached b n) (sym is) here) (ap (λ b. b.bucket) is)

      by : (r : Result A TreeFault) → Outcome h.mid new log log' c (P h.mid) F r → OnKept r (Serves tells' new rows)
      by (Ok a) o = at o.2.pushes.kept o.2.pushes.saves.bucket
      by (Err (Source f)) o = same o.1.nodes
      by (Err (Unfit id)) o = same o.1.nodes
      by (Err (BucketFull m d)) o = same o.3.nodes
      by (Err (Number id)) o = same o.3.nodes
      by (Err NoMemory) o = tt
