-- The loop over touched buckets at the end of a transaction.
use Rattle.std.proofs.Common.{◌≡◌, ◌≢◌, ⊎_elim, ℕ, zero, suc, ◌<◌, Bool, true, false, true≢false, List, length, replicate, get_or, slice_get, slice_set, Option, Some, refl, sym, ap, ◌∙◌, subst, arith}
use Rattle.std.specs.Prelude.{if◌then◌else◌}
use Rattle.std.proofs.lemmas.List.{length-set, length-replicate}
use Rattle.std.proofs.lemmas.Option.{get_or_from_slice_get, same_Some, slice_get-get_or, slice_get_within}
use Rattle.node_cache.specs.Cache.{Cache}
use Rattle.btree_nodes.proofs.Loads.{same_or_not}
use Rattle.open_txn.specs.Buckets.{none_touched}
use Rattle.open_txn.specs.Endings.{EndEach}
use Rattle.open_txn.specs.Touched.{Clears}
use Rattle.open_txn.proofs.Places.{get_else, get_same}

not_both : (o : Option Bool) → o ≡ Some true → o ≡ Some false → ⊥
not_both o e f = true≢false (same_Some true false (sym e ∙ f))

some_flag : (n k : ℕ) → k < n → slice_get (replicate n false) k ≡ Some false
some_flag n k low = slice_get-get_or (replicate n false) k false (let l = length-replicate n false in omega (arith, low, l)) ∙ ap Some (same n k)
  where
    same : (n k : ℕ) → get_or (replicate n false) k false ≡ false
    same zero k = refl
    same (suc n) zero = refl
    same (suc n) (suc k) = same n k

-- Of the buckets that were touched, those whose flag is cleared were ended, and all others are as they were.
pub record SoFar (f : Cache → Cache) (Left : Cache → Cache → Type 0) (touched now : List Bool) (old new : List Cache) : Type 0 where
  pub many : length new ≡ length old
  pub flags : length now ≡ length touched
  pub clear : (k : ℕ) → slice_get touched k ≡ Some false → slice_get now k ≡ Some false
  pub stays : (k : ℕ) (b : Cache) (t : Bool) → slice_get old k ≡ Some b → slice_get touched k ≡ Some t → slice_get now k ≡ Some t → slice_get new k ≡ Some b
  pub done : (k : ℕ) (b : Cache) → slice_get old k ≡ Some b → slice_get touched k ≡ Some true → slice_get now k ≡ Some false → (slice_get new k ≡ Some (f b)) × Left b (f b)

module _ (f : Cache → Cache) (Left : Cache → Cache → Type 0) (touched : List Bool) (old : List Cache) where
  pub none_ended : SoFar f Left touched touched old old
  none_ended = record { many = refl; flags = refl; clear = λ k e. e; stays = λ k b t is e e'. is; done = λ k b is set clear. absurd (not_both (slice_get touched k) set clear) }

  -- a bucket whose flag is set is there
  pub within : (now now' : List Bool) (new : List Cache) (j : ℕ) → length touched ≡ length old → SoFar f Left touched now old new → Clears now now' j → j < length new
  within now now' new j long so_far c = let w = c.within in let a = so_far.flags in let m = so_far.many in omega (arith, long, w, a, m)

  pub one_ended : (now now' : List Bool) (mid new : List Cache) (j : ℕ) (d z : Cache) → SoFar f Left touched now old mid → Clears now now' j → new ≡ slice_set mid j z → z ≡ f (get_or mid j d) → Left (get_or mid j d) z → SoFar f Left touched now' old new
  one_ended now now' mid new j d z so_far c is made left = record {
    many = ap length is ∙ length-set mid j z ∙ so_far.many;
    flags = ap length c.cleared ∙ length-set now j false ∙ so_far.flags;
    clear = λ k e. ⊎_elim (λ (s : k ≡ j). cleared_at k s) (λ (o : k ≢ j). flag_else k o ∙ so_far.clear k e) (same_or_not k j);
    stays = λ k b t at flag flag'. ⊎_elim
        (λ (s : k ≡ j).
        let off : t ≡ false = same_Some t false (sym flag' ∙ cleared_at k s) in
        absurd (not_both (slice_get now k) (was_at k s) (so_far.clear k (flag ∙ ap Some off))))
        (λ (o : k ≢ j). else_at k o ∙ so_far.stays k b t at flag (sym (flag_else k o) ∙ flag'))
        (same_or_not k j);
    done = λ k b at set clear. ⊎_elim
        (λ (s : k ≡ j).
        let there : slice_get mid j ≡ Some b = ap (slice_get mid) (sym s) ∙ so_far.stays k b true at set (was_at k s) in
        let same : get_or mid j d ≡ b = get_or_from_slice_get mid j b d there in (
          ap (λ l. slice_get l k) is ∙ ap (slice_get (slice_set mid j z)) s ∙ get_same mid j b z there ∙ ap Some (made ∙ ap f same),
          subst (Left b) (made ∙ ap f same) (subst (λ x. Left x z) same left),
        ))
        (λ (o : k ≢ j). let r = so_far.done k b at set (sym (flag_else k o) ∙ clear) in (else_at k o ∙ r.0, r.1))
        (same_or_not k j);
  }
    where
      cleared_at : (k : ℕ) → k ≡ j → slice_get now' k ≡ Some false
      cleared_at k s = ap (slice_get now') s ∙ ap (λ l. slice_get l j) c.cleared ∙ get_same now j true false c.was

      was_at : (k : ℕ) → k ≡ j → slice_get now k ≡ Some true
      was_at k s = ap (slice_get now) s ∙ c.was

      flag_else : (k : ℕ) → k ≢ j → slice_get now' k ≡ slice_get now k
      flag_else k o = ap (λ l. slice_get l k) c.cleared ∙ get_else now j k false o

      else_at : (k : ℕ) → k ≢ j → slice_get new k ≡ slice_get mid k
      else_at k o = ap (λ l. slice_get l k) is ∙ get_else mid j k z o

  pub all_ended : (now : List Bool) (new : List Cache) → SoFar f Left touched now old new → now ≡ none_touched → EndEach f Left touched old new
  all_ended now new so_far none = record { many = so_far.many; each = ended; left = λ k b at set. (so_far.done k b at set (off k true set)).1 }
    where
      off : (k : ℕ) (t : Bool) → slice_get touched k ≡ Some t → slice_get now k ≡ Some false
      off k t is = ap (λ l. slice_get l k) none ∙ some_flag 256 k (let w = slice_get_within touched k t is in let l = so_far.flags in let n : length now ≡ 256 = ap length none in omega (arith, w, l, n))

      ended : (k : ℕ) (b : Cache) (t : Bool) → slice_get old k ≡ Some b → slice_get touched k ≡ Some t → slice_get new k ≡ Some (if t then f b else b)
      ended k b true at set = (so_far.done k b at set (off k true set)).0
      ended k b false at clear = so_far.stays k b false at clear (so_far.clear k clear)
