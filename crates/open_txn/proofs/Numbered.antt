-- Flags of buckets and the numbers of those that are set, as one changes.
use Rattle.std.proofs.Common.{◌≡◌, ◌≢◌, ⊎_elim, ℕ, zero, suc, ◌+◌, ◌<◌, ◌≤◌, Bool, true, false, List, [], ◌∷◌, ◌++◌, length, replicate, Option, Some, None, slice_get, slice_index_or, slice_set, refl, sym, ap, ◌∙◌, subst, arith}
use Rattle.std.proofs.lemmas.List.{length-append, length-set}
use Rattle.std.proofs.lemmas.Option.{slice_get-get_or, slice_get_within}
use Rattle.fine_model.proofs.Ordered.Times.{times, times-none, times-append, times-same, times-cons}
use Rattle.open_txn.specs.Buckets.{none_touched}
use Rattle.open_txn.specs.Touched.{AreNumbered, Clears, here, number_set}
use Rattle.open_txn.proofs.Places.{get_else, get_same}

here_at : (flags : List Bool) (k : ℕ) (flag : Bool) → slice_get flags k ≡ Some flag → here (slice_get flags k) ≡ here (Some flag)
here_at flags k flag is = ap here is

-- a flag that is set, from its number
flag_of : (o : Option Bool) → 1 ≤ here o → o ≡ Some true
unfolding here
flag_of None h = absurd (omega (arith, h))
flag_of (Some true) h = refl
flag_of (Some false) h = absurd (omega (arith, h))

-- ---- how many are set

none_here : (n k : ℕ) → here (slice_get (replicate n false) k) ≡ 0
unfolding here
none_here zero k = refl
none_here (suc n) zero = refl
none_here (suc n) (suc k) = none_here n k

none_set : (n : ℕ) → number_set (replicate n false) ≡ 0
unfolding number_set
none_set zero = refl
none_set (suc n) = let r = none_set n in omega (arith, r)

all_clear : (flags : List Bool) → number_set flags ≡ 0 → flags ≡ replicate (length flags) false
unfolding number_set
all_clear [] h = refl
all_clear (true ∷ flags) h = absurd (omega (arith, h))
all_clear (false ∷ flags) h = ap (λ l. false ∷ l) (all_clear flags (omega (arith, h)))

at_most_set : (flags : List Bool) → number_set flags ≤ length flags
unfolding number_set
at_most_set [] = omega arith
at_most_set (true ∷ flags) = let r = at_most_set flags in omega (arith, r)
at_most_set (false ∷ flags) = let r = at_most_set flags in omega (arith, r)

number_cons : (flag : Bool) (flags : List Bool) → number_set (flag ∷ flags) ≡ here (Some flag) + number_set flags
unfolding number_set here
number_cons flag flags = refl

-- one flag that changes is counted as it is then, and the others as before
set_counts : (flags : List Bool) (k : ℕ) (was now : Bool) → slice_get flags k ≡ Some was → number_set (slice_set flags k now) + here (Some was) ≡ number_set flags + here (Some now)
set_counts [] k was now is = absurd cc
set_counts (flag ∷ flags) zero was now is = let a = number_cons now flags in let b = number_cons flag flags in let same = ap here is in omega (arith, a, b, same)
set_counts (flag ∷ flags) (suc k) was now is =
    let a = number_cons flag (slice_set flags k now) in let b = number_cons flag flags in let r = set_counts flags k was now is in omega (arith, a, b, r)

more_set : (flags : List Bool) (k : ℕ) → slice_get flags k ≡ Some false → number_set (slice_set flags k true) ≡ number_set flags + 1
unfolding here
more_set flags k is = let r = set_counts flags k false true is in omega (arith, r)

fewer_set : (flags : List Bool) (k : ℕ) → slice_get flags k ≡ Some true → number_set (slice_set flags k false) + 1 ≡ number_set flags
unfolding here
fewer_set flags k is = let r = set_counts flags k true false is in omega (arith, r)

not_all_set : (flags : List Bool) (k : ℕ) → slice_get flags k ≡ Some false → number_set flags < length flags
not_all_set flags k is =
    let more = more_set flags k is in let most = at_most_set (slice_set flags k true) in let same = length-set flags k true in omega (arith, more, most, same)

-- ---- the list of numbers goes with the flags

pub new_numbered : (flags : List Bool) (numbers : List ℕ) (room : ℕ) → flags ≡ none_touched → numbers ≡ [] → 256 ≤ room → AreNumbered flags numbers room
new_numbered flags numbers room clear none reserved = subst (λ l. AreNumbered l numbers room) (sym clear) (subst (λ l. AreNumbered none_touched l room) (sym none)
    record { all = refl; once = λ k. times-none k ∙ sym (none_here 256 k); as_many = sym (none_set 256); reserved = reserved })

pub clear_at : (flags : List Bool) (k : ℕ) (r d : Bool) → k < 256 → length flags ≡ 256 → r ≡ slice_index_or flags k d → r ≡ false → slice_get flags k ≡ Some false
clear_at flags k r d low long is clear = slice_get-get_or flags k d (omega (arith, low, long)) ∙ ap Some (sym is ∙ clear)

module _ (flags : List Bool) (numbers : List ℕ) (room : ℕ) (are : AreNumbered flags numbers room) where
  pub has_room : (k : ℕ) → slice_get flags k ≡ Some false → length numbers < room
  has_room k is = let n = not_all_set flags k is in let m = are.as_many in let a = are.all in let r = are.reserved in omega (arith, n, m, a, r)

  pub one_more : (numbers' : List ℕ) (room' k : ℕ) → slice_get flags k ≡ Some false → numbers' ≡ numbers ++ k ∷ [] → room' ≡ room → AreNumbered (slice_set flags k true) numbers' room'
  unfolding here
  one_more numbers' room' k is behind same = record {
    all = length-set flags k true ∙ are.all;
    once = λ j. ap (times j) behind ∙ times-append j numbers (k ∷ []) ∙ ⊎_elim
        (λ (s : (j ≡ k) × (times j (k ∷ []) ≡ times j [] + 1)).
        let was : times j numbers ≡ here (Some false) = are.once j ∙ here_at flags j false (ap (slice_get flags) s.0 ∙ is) in
        let now : here (slice_get (slice_set flags k true) j) ≡ here (Some true) = here_at (slice_set flags k true) j true (ap (slice_get (slice_set flags k true)) s.0 ∙ get_same flags k false true is) in
        counted j (times j numbers) (times j (k ∷ [])) was s.1 ∙ sym now)
        (λ (o : (j ≢ k) × (times j (k ∷ []) ≡ times j [])). let z = times-none j in let t = o.1 in
        let e : times j numbers + times j (k ∷ []) ≡ times j numbers = omega (arith, z, t) in e ∙ are.once j ∙ ap here (sym (get_else flags k j true o.0)))
        (times-cons j k []);
    as_many = let a = length-append numbers (k ∷ []) in let l = ap length behind in let m = are.as_many in let n = more_set flags k is in omega (arith, a, l, m, n);
    reserved = subst (λ r. 256 ≤ r) (sym same) are.reserved;
  }
    where
      counted : (j a b : ℕ) → a ≡ here (Some false) → b ≡ times j [] + 1 → a + b ≡ here (Some true)
      counted j a b e f = let z = times-none j in omega (arith, e, f, z)

  pub none_left : length numbers ≡ 0 → flags ≡ none_touched
  none_left none = all_clear flags (sym are.as_many ∙ none) ∙ ap (λ n. replicate n false) are.all

  module _ (numbers' : List ℕ) (n : ℕ) (last : numbers ≡ numbers' ++ n ∷ []) where
    is_set : slice_get flags n ≡ Some true
    is_set = flag_of (slice_get flags n) (let o = are.once n in let e = ap (times n) last in let a = times-append n numbers' (n ∷ []) in let s = times-same n [] in omega (arith, o, e, a, s))

    cleared : (room' : ℕ) → room' ≡ room → AreNumbered (slice_set flags n false) numbers' room'
    unfolding here
    cleared room' same = record {
      all = length-set flags n false ∙ are.all;
      once = λ j. ⊎_elim
          (λ (s : (j ≡ n) × (times j (n ∷ []) ≡ times j [] + 1)).
          let was : times j numbers ≡ here (Some true) = are.once j ∙ here_at flags j true (ap (slice_get flags) s.0 ∙ is_set) in
          let now : here (slice_get (slice_set flags n false) j) ≡ here (Some false) = here_at (slice_set flags n false) j false (ap (slice_get (slice_set flags n false)) s.0 ∙ get_same flags n true false is_set) in
          counted j (times j numbers) (times j numbers') (times j (n ∷ [])) (ap (times j) last ∙ times-append j numbers' (n ∷ [])) was s.1 ∙ sym now)
          (λ (o : (j ≢ n) × (times j (n ∷ []) ≡ times j [])).
          let z = times-none j in let t = o.1 in let e = ap (times j) last in let a = times-append j numbers' (n ∷ []) in
          let same_times : times j numbers' ≡ times j numbers = omega (arith, z, t, e, a) in same_times ∙ are.once j ∙ ap here (sym (get_else flags n j false o.0)))
          (times-cons j n []);
      as_many = let a = length-append numbers' (n ∷ []) in let l = ap length last in let m = are.as_many in let f = fewer_set flags n is_set in omega (arith, a, l, m, f);
      reserved = subst (λ r. 256 ≤ r) (sym same) are.reserved;
    }
      where
        counted : (j a b d : ℕ) → a ≡ b + d → a ≡ here (Some true) → d ≡ times j [] + 1 → b ≡ here (Some false)
        counted j a b d whole e f = let z = times-none j in omega (arith, whole, e, f, z)

    clears : Clears flags (slice_set flags n false) n
    clears = record { within = slice_get_within flags n true is_set; was = is_set; cleared = refl; fewer = let f = fewer_set flags n is_set in omega (arith, f) }

    pub one_less : (room' k : ℕ) → k ≡ n → room' ≡ room → AreNumbered (slice_set flags k false) numbers' room'
    one_less room' k is same = subst (λ i. AreNumbered (slice_set flags i false) numbers' room') (sym is) (cleared room' same)

    pub is_cleared : (now : List Bool) (k : ℕ) → flags ≡ now → k ≡ n → Clears now (slice_set flags k false) k
    is_cleared now k same is = subst (λ l. Clears l (slice_set flags k false) k) same (subst (λ i. Clears flags (slice_set flags i false) i) (sym is) clears)
