-- What a change of a pair leaves, and what takes it back.
use Rattle.std.proofs.Common.{◌≡◌, ℕ, zero, suc, ◌+◌, ◌<◌, ◌≤◌, true, false, List, [], ◌∷◌, ◌++◌, length, take, slice_get, slice_set, Option, Some, option_map, unwrap_or, is_some, refl, sym, ap, subst, ◌∙◌, arith, length-set}
use Rattle.std.specs.List.{insert, remove}
use Rattle.std.proofs.lemmas.List.{set-set, set-get_or}
use Rattle.std.proofs.lemmas.Option.{get_or_from_slice_get}
use Rattle.fine_model.specs.Map.{Pair, set, unset, has, pairs_above}
use Rattle.node_record.specs.Places.{StandsAt, BelongsAt}
use Rattle.node_record.proofs.Changes.{set_there, get_there, get_absent}
use Rattle.node_cache.specs.Undo.{with_value}

set_itself : {A : Type 0} (xs : List A) (i : ℕ) (x : A) → slice_get xs i ≡ Some x → slice_set xs i x ≡ xs
set_itself xs i x there = ap (slice_set xs i) (sym (get_or_from_slice_get xs i x x there)) ∙ set-get_or xs i x

get_set : {A : Type 0} (xs : List A) (i : ℕ) (x : A) → i < length xs → slice_get (slice_set xs i x) i ≡ Some x
get_set [] i x within = absurd (omega (arith, within))
get_set (y ∷ xs) zero x within = refl
get_set (y ∷ xs) (suc i) x within = get_set xs i x (omega (arith, within))

-- a value is set at a place
pub value_set : (pairs : List Pair) (at : ℕ) (p : Pair) (value : List ℕ) → slice_get pairs at ≡ Some p → with_value pairs at value ≡ slice_set pairs at (p.0, value)
value_set pairs at p value there = ap (λ o. unwrap_or (option_map (λ (q : Pair). slice_set pairs at (q.0, value)) o) pairs) there

-- a value that was set by way of an empty pair
pub exchanged : (pairs mid new : List Pair) (at : ℕ) (p empty : Pair) (value : List ℕ) → slice_get pairs at ≡ Some p → mid ≡ slice_set pairs at empty → new ≡ slice_set mid at (p.0, value) → new ≡ with_value pairs at value
exchanged pairs mid new at p empty value there first second =
    second ∙ ap (λ m. slice_set m at (p.0, value)) first ∙ set-set pairs at empty (p.0, value) ∙ sym (value_set pairs at p value there)

module _ (pairs : List Pair) (key : List ℕ) (at : ℕ) where
  module _ (stands : StandsAt (λ p. p.0) key pairs at) where
    there : slice_get pairs at ≡ Some stands.here.0
    there = stands.here.1

    pub has_it : has pairs key ≡ true
    has_it = ap is_some (get_there key pairs at stands stands.here.0 there)

    pub set_value_there : (value : List ℕ) → with_value pairs at value ≡ set pairs key value
    set_value_there value =
        value_set pairs at stands.here.0 value there ∙ ap (λ k. slice_set pairs at (k, value)) stands.here.2 ∙ set_there key pairs at stands value

    pub set_within : (value : List ℕ) → at < length (with_value pairs at value)
    set_within value = subst (λ ps. at < length ps) (sym (value_set pairs at stands.here.0 value there)) (omega (arith, stands.within, length-set pairs at (stands.here.0.0, value)))

    -- the value that stood is set again
    pub set_again : (value old : List ℕ) → option_map (λ (p : Pair). p.1) (slice_get pairs at) ≡ Some old → with_value (with_value pairs at value) at old ≡ pairs
    set_again value old stood =
        let p : Pair = stands.here.0 in
        let mid : with_value pairs at value ≡ slice_set pairs at (p.0, value) = value_set pairs at p value there in
        let is : ◌≡◌ {A = Option (List ℕ)} (Some p.1) (Some old) = sym (ap (option_map (λ (q : Pair). q.1)) there) ∙ stood in
        let same : p.1 ≡ old = cc in
        ap (λ m. with_value m at old) mid
        ∙ value_set (slice_set pairs at (p.0, value)) at (p.0, value) old (get_set pairs at (p.0, value) stands.within)
        ∙ set-set pairs at (p.0, value) (p.0, old)
        ∙ ap (λ v. slice_set pairs at (p.0, v)) (sym same)
        ∙ set_itself pairs at p there

    pub unset_there : remove pairs at ≡ unset pairs key
    unfolding unset
    unset_there = sym (ap (λ ps. ps ++ pairs_above key pairs) stands.lower ∙ ap (λ ps. take at pairs ++ ps) stands.higher)

  module _ (belongs : BelongsAt (λ p. p.0) key pairs at) where
    pub has_not : has pairs key ≡ false
    has_not = ap is_some (get_absent key pairs at belongs)

    pub set_absent : (value : List ℕ) → insert pairs at (key, value) ≡ set pairs key value
    unfolding set
    set_absent value = sym (ap (λ ps. ps ++ (key, value) ∷ pairs_above key pairs) belongs.lower ∙ ap (λ ps. take at pairs ++ (key, value) ∷ ps) belongs.higher)

-- what was removed is inserted again
pub insert_removed : {A : Type 0} (xs : List A) (i : ℕ) (x : A) → slice_get xs i ≡ Some x → insert (remove xs i) i x ≡ xs
insert_removed [] i x there = cc
insert_removed (y ∷ xs) zero x there = let same : x ≡ y = cc in ap (λ (z : _). z ∷ xs) same
insert_removed (y ∷ xs) (suc i) x there = ap (λ zs. y ∷ zs) (insert_removed xs i x there)

pub length-insert_one : {A : Type 0} (xs : List A) (i : ℕ) (x : A) → i ≤ length xs → length (insert xs i x) ≡ length xs + 1
length-insert_one xs zero x within = omega arith
length-insert_one [] (suc i) x within = absurd (omega (arith, within))
length-insert_one (y ∷ xs) (suc i) x within = omega (arith, length-insert_one xs i x (omega (arith, within)))

pub length-remove_one : {A : Type 0} (xs : List A) (i : ℕ) → i < length xs → length (remove xs i) + 1 ≡ length xs
length-remove_one [] i within = absurd (omega (arith, within))
length-remove_one (y ∷ xs) zero within = omega arith
length-remove_one (y ∷ xs) (suc i) within = omega (arith, length-remove_one xs i (omega (arith, within)))
