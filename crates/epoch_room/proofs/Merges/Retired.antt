-- Chains with one part in place of two neighbours, and retired parts with these two among them.
use Rattle.std.proofs.Common.{◌≡◌, ◌≢◌, ℕ, suc, ◌+◌, ◌<◌, ◌≤◌, ◌==◌, nat_lt, Bool, true, false, cond, not, List, [], ◌∷◌, ◌++◌, length, map, drop, set, refl, sym, ap, subst, ◌∙◌, arith, eq-eqb, length-append}
use Rattle.std.specs.Prelude.{fold, sum_by, Any, IsPermutation}
use Rattle.std.specs.List.{AllByRecursion, insert, position_or_len, remove}
use Rattle.std.proofs.lemmas.List.Edits.{length-insert}
use Rattle.std.proofs.lemmas.List.Elements.{All-from_recursion, recursion_from_All}
use Rattle.std.proofs.lemmas.List.Sorted.{All-permutation, Contains-permutation, IsPermutation-append, IsPermutation-append_left, IsPermutation-cons, IsPermutation-insert, IsPermutation-middle, IsPermutation-sym, IsPermutation-trans, sum_by-IsPermutation}
use Rattle.std.proofs.lemmas.List.Sums.{sum_by-cons}
use Rattle.fine_model.specs.declared.Part.{Part}
use Rattle.fine_model.specs.RowBytes.{greatest}
use Rattle.fine_model.specs.Chain.{regions_of}
use Rattle.fine_model.proofs.Ordered.Nothing.{all_mapped}
use Rattle.fine_model.proofs.Ordered.Order.{all_map}
use Rattle.fine_model.proofs.Ordered.Times.{times, times-append, times-none}
use Rattle.epoch_room.specs.MergeSealing.{replaced, retire}
use Rattle.epoch_room.specs.Value.{all_regions}
use Rattle.epoch_room.specs.Whole.{AreRising, FollowOn}

-- ---- a part in place of two

pub replaced_two : (parts : List Part) (lead : ℕ) (p : Part) → position_or_len (λ q. q.region == lead) parts + 1 < length parts
    → remove (set parts (position_or_len (λ q. q.region == lead) parts) p) (position_or_len (λ q. q.region == lead) parts + 1) ≡ replaced lead p parts
unfolding replaced
replaced_two [] lead p few = absurd (omega (arith, few))
replaced_two (q ∷ parts) lead p few = by (q.region == lead) (position_or_len (λ r. r.region == lead) parts) few (λ h. replaced_two parts lead p h)
  where
    next : (n : ℕ) → 1 + n ≡ suc n
    next n = omega arith

    later : (n : ℕ) → suc n + 1 ≡ suc (n + 1)
    later n = omega arith

    by : (b : Bool) (n : ℕ) → cond (not b) (1 + n) 0 + 1 < length (q ∷ parts) → (n + 1 < length parts → remove (set parts n p) (n + 1) ≡ replaced lead p parts)
        → remove (set (q ∷ parts) (cond (not b) (1 + n) 0) p) (cond (not b) (1 + n) 0 + 1) ≡ cond b (p ∷ drop 1 parts) (q ∷ replaced lead p parts)
    by true n few rest = refl
    by false n few rest = ap (λ k. remove (set (q ∷ parts) k p) (k + 1)) (next n) ∙ ap (λ k. remove (q ∷ set parts n p) k) (later n) ∙ ap (λ ps. q ∷ ps) (rest (omega (arith, few)))

-- the older one of two neighbours is not the last part
pub lead_place : (before : List Part) (older newer : Part) (after : List Part) → position_or_len (λ q. q.region == older.region) (before ++ older ∷ newer ∷ after) + 1 < length (before ++ older ∷ newer ∷ after)
lead_place [] older newer after = by (older.region == older.region) (eq-eqb older.region older.region refl)
  where
    by : (b : Bool) → b ≡ true → cond (not b) (1 + position_or_len (λ q. q.region == older.region) (newer ∷ after)) 0 + 1 < length (older ∷ newer ∷ after)
    by true e = omega arith
    by false e = absurd (cc)
lead_place (q ∷ before) older newer after = by (q.region == older.region) (position_or_len (λ r. r.region == older.region) (before ++ older ∷ newer ∷ after)) (lead_place before older newer after)
  where
    by : (b : Bool) (n : ℕ) → n + 1 < length (before ++ older ∷ newer ∷ after) → cond (not b) (1 + n) 0 + 1 < length (q ∷ (before ++ older ∷ newer ∷ after))
    by true n h = let l = length-append before (older ∷ newer ∷ after) in omega (arith, l)
    by false n h = omega (arith, h)

pub replaced_is : (before : List Part) (older newer : Part) (after : List Part) (p : Part) → AllByRecursion (λ q. q.region ≢ older.region) before → replaced older.region p (before ++ older ∷ newer ∷ after) ≡ before ++ p ∷ after
unfolding replaced
replaced_is [] older newer after p apart = ap (λ b. cond b (p ∷ after) (older ∷ replaced older.region p (newer ∷ after))) (eq-eqb older.region older.region refl)
replaced_is (q ∷ before) older newer after p apart =
    ap (λ b. cond b (p ∷ drop 1 (before ++ older ∷ newer ∷ after)) (q ∷ replaced older.region p (before ++ older ∷ newer ∷ after))) (differ q.region older.region apart.0)
    ∙ ap (λ ps. q ∷ ps) (replaced_is before older newer after p apart.1)
  where
    differ : (m n : ℕ) → m ≢ n → (m == n) ≡ false
    differ m n h = grind (arith, h)

-- ---- ranges

-- the epochs of two neighbours of a chain
pub follow_range : (before : List Part) (older newer : Part) (after : List Part) (next : ℕ) → 1 ≤ next → FollowOn next (before ++ older ∷ newer ∷ after)
    → (1 ≤ older.header.range.first) × (older.header.range.first ≤ newer.header.range.last) × (newer.header.range.last ≤ greatest)
follow_range [] older newer after next low follow =
    let a = follow.0 in let b = follow.1 in let c = follow.3.1 in (omega (arith, a, low), omega (arith, a, b, c), follow.3.2)
follow_range (q ∷ before) older newer after next low follow = let a = follow.1 in follow_range before older newer after (q.header.range.last + 1) (omega arith) follow.3

pub follow_merged : (before : List Part) (older newer : Part) (after : List Part) (p : Part) (next : ℕ) → p.header.range.first ≡ older.header.range.first → p.header.range.last ≡ newer.header.range.last
    → FollowOn next (before ++ older ∷ newer ∷ after) → FollowOn next (before ++ p ∷ after)
follow_merged [] older newer after p next first last follow =
    let a = follow.0 in
    let b = follow.1 in
    let c = follow.3.1 in
    let d = follow.3.2 in
    (first ∙ a, omega (arith, b, c, last), omega (arith, d, last), subst (λ n. FollowOn (n + 1) after) (sym last) follow.3.3)
follow_merged (q ∷ before) older newer after p next first last follow = (follow.0, follow.1, follow.2, follow_merged before older newer after p (q.header.range.last + 1) first last follow.3)

pub end_merged : (before : List Part) (older newer : Part) (after : List Part) (p : Part) (e : ℕ) → p.header.range.last ≡ newer.header.range.last
    → fold (λ (n : ℕ) (q : Part). q.header.range.last) e (before ++ p ∷ after) ≡ fold (λ (n : ℕ) (q : Part). q.header.range.last) e (before ++ older ∷ newer ∷ after)
end_merged [] older newer after p e last = ap (λ n. fold (λ (n : ℕ) (q : Part). q.header.range.last) n after) last
end_merged (q ∷ before) older newer after p e last = end_merged before older newer after p q.header.range.last last

-- ---- the same parts in another order

pub all_moved : {A : Type 0} (P : A → Type 0) (xs ys : List A) → IsPermutation xs ys → AllByRecursion P xs → AllByRecursion P ys
all_moved P xs ys moves all = recursion_from_All P ys (All-permutation P xs ys moves (All-from_recursion P xs all))

pub any_moved : {A : Type 0} (P : A → Type 0) (xs ys : List A) → IsPermutation xs ys → Any P xs → Any P ys
any_moved P xs ys moves (k, x, low, is, holds) = let there = Contains-permutation xs ys x moves (k, low, is) in (there.0, x, there.1, there.2, holds)

regions_times : (n : ℕ) (parts : List Part) → times n (all_regions parts) ≡ sum_by (λ p. times n (regions_of p)) parts
regions_times n [] = times-none n
regions_times n (p ∷ parts) = times-append n (regions_of p) (all_regions parts) ∙ ap (λ k. times n (regions_of p) + k) (regions_times n parts) ∙ sym (sum_by-cons (λ q. times n (regions_of q)) p parts)

pub times_moved : (n : ℕ) (xs ys : List Part) → IsPermutation xs ys → times n (all_regions ys) ≡ times n (all_regions xs)
times_moved n xs ys moves = regions_times n ys ∙ sum_by-IsPermutation (λ p. times n (regions_of p)) xs ys moves ∙ sym (regions_times n xs)

retired_moves : (older newer : Part) (retired : List Part) → IsPermutation (newer ∷ older ∷ retired) (retire newer (retire older retired))
retired_moves older newer retired =
    let first : IsPermutation (older ∷ retired) (retire older retired) = IsPermutation-insert retired (position_or_len (λ q. nat_lt older.region q.region) retired) older in
    IsPermutation-trans (newer ∷ older ∷ retired) (newer ∷ retire older retired) (retire newer (retire older retired)) (IsPermutation-cons newer (older ∷ retired) (retire older retired) first)
    (IsPermutation-insert (retire older retired) (position_or_len (λ q. nat_lt newer.region q.region) (retire older retired)) newer)

-- a part more, and the two that it takes the place of among the retired ones
pub merged_moves : (before : List Part) (older newer : Part) (after retired : List Part) (p : Part)
    → IsPermutation (p ∷ ((before ++ older ∷ newer ∷ after) ++ retired)) ((before ++ p ∷ after) ++ retire newer (retire older retired))
merged_moves before older newer after retired p =
    let ba : List Part = before ++ after in
    let front : IsPermutation (before ++ older ∷ newer ∷ after) (older ∷ newer ∷ ba) =
    IsPermutation-trans (before ++ older ∷ newer ∷ after) (older ∷ (before ++ newer ∷ after)) (older ∷ newer ∷ ba) (IsPermutation-middle before older (newer ∷ after))
    (IsPermutation-cons older (before ++ newer ∷ after) (newer ∷ ba) (IsPermutation-middle before newer after)) in
    let all : IsPermutation ((before ++ older ∷ newer ∷ after) ++ retired) (older ∷ newer ∷ (ba ++ retired)) = IsPermutation-append_left retired (before ++ older ∷ newer ∷ after) (older ∷ newer ∷ ba) front in
    let turned : IsPermutation (older ∷ newer ∷ (ba ++ retired)) (newer ∷ older ∷ (ba ++ retired)) = IsPermutation-sym (newer ∷ older ∷ (ba ++ retired)) (older ∷ newer ∷ (ba ++ retired)) (IsPermutation-middle (newer ∷ []) older (ba ++ retired)) in
    let back : IsPermutation (ba ++ newer ∷ older ∷ retired) (newer ∷ older ∷ (ba ++ retired)) =
    IsPermutation-trans (ba ++ newer ∷ older ∷ retired) (newer ∷ (ba ++ older ∷ retired)) (newer ∷ older ∷ (ba ++ retired)) (IsPermutation-middle ba newer (older ∷ retired))
    (IsPermutation-cons newer (ba ++ older ∷ retired) (older ∷ (ba ++ retired)) (IsPermutation-middle ba older retired)) in
    let here : IsPermutation ((before ++ older ∷ newer ∷ after) ++ retired) (ba ++ newer ∷ older ∷ retired) =
    IsPermutation-trans ((before ++ older ∷ newer ∷ after) ++ retired) (newer ∷ older ∷ (ba ++ retired)) (ba ++ newer ∷ older ∷ retired)
    (IsPermutation-trans ((before ++ older ∷ newer ∷ after) ++ retired) (older ∷ newer ∷ (ba ++ retired)) (newer ∷ older ∷ (ba ++ retired)) all turned)
    (IsPermutation-sym (ba ++ newer ∷ older ∷ retired) (newer ∷ older ∷ (ba ++ retired)) back) in
    IsPermutation-trans (p ∷ ((before ++ older ∷ newer ∷ after) ++ retired)) (p ∷ (ba ++ newer ∷ older ∷ retired)) ((before ++ p ∷ after) ++ retire newer (retire older retired))
    (IsPermutation-cons p ((before ++ older ∷ newer ∷ after) ++ retired) (ba ++ newer ∷ older ∷ retired) here)
    (IsPermutation-append (p ∷ ba) (before ++ p ∷ after) (newer ∷ older ∷ retired) (retire newer (retire older retired)) (IsPermutation-sym (before ++ p ∷ after) (p ∷ ba) (IsPermutation-middle before p after)) (retired_moves older newer retired))

-- ---- retired parts ascend

prefix_most : {A : Type 0} (p : A → Bool) (xs : List A) → position_or_len p xs ≤ length xs
prefix_most p [] = omega arith
prefix_most p (x ∷ xs) = by (p x) (prefix_most p xs)
  where
    by : (b : Bool) → position_or_len p xs ≤ length xs → cond (not b) (1 + position_or_len p xs) 0 ≤ length (x ∷ xs)
    by true h = omega arith
    by false h = omega (arith, h)

pub retire_long : (p : Part) (parts : List Part) → length (retire p parts) ≡ length parts + 1
retire_long p parts = length-insert parts (position_or_len (λ q. nat_lt p.region q.region) parts) p (prefix_most (λ q. nat_lt p.region q.region) parts)

mapped_all : (P : ℕ → Type 0) (parts : List Part) → AllByRecursion (λ q. P q.region) parts → AllByRecursion P (map (λ q. q.region) parts)
mapped_all P [] all = tt
mapped_all P (q ∷ parts) all = (all.0, mapped_all P parts all.1)

pub retire_rising : (p : Part) (parts : List Part) → AllByRecursion (λ q. q.region ≢ p.region) parts → AreRising (map (λ q. q.region) parts) → AreRising (map (λ q. q.region) (retire p parts))
retire_rising p [] other up = (tt, tt)
retire_rising p (q ∷ parts) other up = by (nat_lt p.region q.region) (position_or_len (λ r. nat_lt p.region r.region) parts) refl (retire_rising p parts other.1 up.1)
  where
    next : (n : ℕ) → 1 + n ≡ suc n
    next n = omega arith

    low : nat_lt p.region q.region ≡ true → p.region < q.region
    low e = grind (arith, e)

    high : nat_lt p.region q.region ≡ false → q.region < p.region
    high e = let ne = other.0 in above q.region p.region ne e
      where
        above : (m n : ℕ) → m ≢ n → nat_lt n m ≡ false → m < n
        above m n ne e = grind (arith, ne, e)

    by : (b : Bool) (n : ℕ) → nat_lt p.region q.region ≡ b → AreRising (map (λ r. r.region) (insert parts n p)) → AreRising (map (λ r. r.region) (insert (q ∷ parts) (cond (not b) (1 + n) 0) p))
    by true n e rest = ((low e, all_map (λ y. q.region < y) (λ y. p.region < y) (λ y h. let l = low e in omega (arith, h, l)) (map (λ r. r.region) parts) up.0), up)
    by false n e rest =
        subst (λ k. AreRising (map (λ r. r.region) (insert (q ∷ parts) k p))) (sym (next n)) (
          mapped_all (λ y. q.region < y) (insert parts n p)
              (all_moved (λ r. q.region < r.region) (p ∷ parts) (insert parts n p) (IsPermutation-insert parts n p) (high e, all_mapped (λ y. q.region < y) (λ r. r.region) parts up.0)),
          rest,
        )

-- each part has a region
pub regions_many : (parts : List Part) → length parts ≤ length (all_regions parts)
regions_many [] = omega arith
regions_many (p ∷ parts) = let l = length-append (regions_of p) (all_regions parts) in let r = regions_many parts in omega (arith, l, r)
