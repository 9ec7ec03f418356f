-- A number that becomes the last used.
use Rattle.std.proofs.Common.{◌≡◌, ◌-◌, ℕ, zero, suc, Bool, true, false, cond, List, [], ◌∷◌, ◌++◌, length, position, slice_get, Option, Some, None, refl, sym, ap, subst, ◌∙◌, nat_eq, eq-eqb, eqb-true, is_some}
use Rattle.std.specs.Bool.{OnTrue}
use Rattle.std.specs.Cmp.{nat_eq_equiv}
use Rattle.std.specs.List.{IsDistinct}
use Rattle.std.specs.Map.{keys_of, lookup, lookup_entry, remove_entry}
use Rattle.std.specs.Option.{option_to_list}
use Rattle.std.proofs.lemmas.Bool.{cond-true, cond-false}
use Rattle.indexmap.specs.IndexMap.{move_index, insert_entry}
use Rattle.indexmap.proofs.MapLemmas.{Found-position, index-first, remove_entry-first}
use Rattle.indexmap.proofs.RemoveLemmas.{moved_last, own_first}

pub none_found : {A : Type 0} (o : Option A) → is_some o ≡ false → o ≡ None
none_found None h = refl
none_found (Some x) h = cc

-- a number stands where its entry does, and nowhere before
pub own_place : {X : Type 0} (es : List (ℕ × X)) (i j k : ℕ) (v : X) → IsDistinct nat_eq (keys_of es) → Some (j, v) ≡ slice_get es i → OnTrue (nat_eq j k) (position (nat_eq k) (keys_of es) ≡ Some i)
own_place es i j k v distinct there = by (nat_eq j k) refl
  where
    by : (b : Bool) → nat_eq j k ≡ b → OnTrue b (position (nat_eq k) (keys_of es) ≡ Some i)
    by true same = subst (λ n. position (nat_eq n) (keys_of es) ≡ Some i) (eqb-true j k same) (index-first (nat_eq j) es i (own_first nat_eq nat_eq_equiv es i j v distinct (sym there)))
    by false other = tt

-- the i-th key is the first that passes
abbrev IsFirst : {K X : Type 0} → (K → Bool) → List (K × X) → ℕ → Type 0
IsFirst t [] i = ⊥
IsFirst t (e ∷ es) zero = t e.0 ≡ true
IsFirst t (e ∷ es) (suc i) = (t e.0 ≡ false) × IsFirst t es i

module _ {K X : Type 0} (t : K → Bool) where
  -- the entry at the place of the first key that passes
  entry_first : (es : List (K × X)) (i : ℕ) → IsFirst t es i → slice_get es i ≡ lookup_entry t es
  entry_first [] i h = absurd h
  entry_first (e ∷ es) zero h = sym (cond-true (t e.0) (Some e) (lookup_entry t es) h)
  entry_first (e ∷ es) (suc i) h = entry_first es i h.1 ∙ sym (cond-false (t e.0) (Some e) (lookup_entry t es) h.0)

  some_entry : (es : List (K × X)) (i : ℕ) → IsFirst t es i → (e : K × X) × (lookup_entry t es ≡ Some e)
  some_entry [] i h = absurd h
  some_entry (e ∷ es) zero h = (e, cond-true (t e.0) (Some e) (lookup_entry t es) h)
  some_entry (e ∷ es) (suc i) h = let r = some_entry es i h.1 in (r.0, cond-false (t e.0) (Some e) (lookup_entry t es) h.0 ∙ r.1)

  -- what is moved to the end is taken out and put behind the others
  pub moved : (es : List (K × X)) (i : ℕ) → position t (keys_of es) ≡ Some i → move_index es i (length es - 1) ≡ remove_entry t es ++ option_to_list (lookup_entry t es)
  moved es i p =
      let first = (Found-position t es i p).first in
      let there = some_entry es i first in
      moved_last es i there.0 (entry_first es i first ∙ there.1)
      ∙ ap (λ l. l ++ there.0 ∷ []) (sym (remove_entry-first t es i first))
      ∙ ap (λ o. remove_entry t es ++ option_to_list o) (sym there.1)

  -- what is not there is not moved
  pub unmoved : (es : List (K × X)) → lookup t es ≡ None → remove_entry t es ++ option_to_list (lookup_entry t es) ≡ es
  unmoved [] h = refl
  unmoved (e ∷ es) h = by (t e.0) refl h (unmoved es)
    where
      by : (b : Bool) → t e.0 ≡ b → cond b (Some e.1) (lookup t es) ≡ None → (lookup t es ≡ None → remove_entry t es ++ option_to_list (lookup_entry t es) ≡ es)
          → cond b es (e ∷ remove_entry t es) ++ option_to_list (cond b (Some e) (lookup_entry t es)) ≡ e ∷ es
      by true same none rest = cc
      by false other none rest = ap (λ l. e ∷ l) (rest none)

-- what was inserted, made the last
module _ {X : Type 0} (k : ℕ) (v : X) where
  pub others_inserted : (es : List (ℕ × X)) → remove_entry (nat_eq k) (insert_entry nat_eq es k v) ≡ remove_entry (nat_eq k) es
  others_inserted [] = cond-true (nat_eq k k) [] ((k, v) ∷ []) (eq-eqb k k refl)
  others_inserted (e ∷ es) = by (nat_eq k e.0) refl (others_inserted es)
    where
      by : (b : Bool) → nat_eq k e.0 ≡ b → remove_entry (nat_eq k) (insert_entry nat_eq es k v) ≡ remove_entry (nat_eq k) es
          → remove_entry (nat_eq k) (cond b ((e.0, v) ∷ es) (e ∷ insert_entry nat_eq es k v)) ≡ cond b es (e ∷ remove_entry (nat_eq k) es)
      by true same rest = cond-true (nat_eq k e.0) es ((e.0, v) ∷ remove_entry (nat_eq k) es) same
      by false other rest = cond-false (nat_eq k e.0) (insert_entry nat_eq es k v) (e ∷ remove_entry (nat_eq k) (insert_entry nat_eq es k v)) other ∙ ap (λ l. e ∷ l) rest

  pub entry_inserted : (es : List (ℕ × X)) → lookup_entry (nat_eq k) (insert_entry nat_eq es k v) ≡ Some (k, v)
  entry_inserted [] = cond-true (nat_eq k k) (Some (k, v)) None (eq-eqb k k refl)
  entry_inserted (e ∷ es) = by (nat_eq k e.0) refl (entry_inserted es)
    where
      by : (b : Bool) → nat_eq k e.0 ≡ b → lookup_entry (nat_eq k) (insert_entry nat_eq es k v) ≡ Some (k, v)
          → lookup_entry (nat_eq k) (cond b ((e.0, v) ∷ es) (e ∷ insert_entry nat_eq es k v)) ≡ Some (k, v)
      by true same rest = cond-true (nat_eq k e.0) (Some (e.0, v)) (lookup_entry (nat_eq k) es) same ∙ ap (λ n. Some (n, v)) (sym (eqb-true k e.0 same))
      by false other rest = cond-false (nat_eq k e.0) (Some e) (lookup_entry (nat_eq k) (insert_entry nat_eq es k v)) other ∙ rest
