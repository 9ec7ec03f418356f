-- Chains with one part in place of the youngest ones, and retired parts with these among them.
use Rattle.std.proofs.Common.{◌≡◌, ◌≢◌, ℕ, suc, ◌+◌, ◌-◌, ◌<◌, ◌≤◌, nat_le, nat_lt, Bool, true, false, cond, not, List, [], ◌∷◌, ◌++◌, length, map, take, drop, get_or, set, refl, sym, ap, subst, ◌∙◌, arith, append-nil, append_assoc, length-drop, take-append-drop}
use Rattle.std.specs.Prelude.{IsPermutation}
use Rattle.std.specs.List.{AllByRecursion, position_or_len}
use Rattle.std.proofs.Math.Seq.{take-suc-set}
use Rattle.std.proofs.lemmas.List.{take_all, take_more}
use Rattle.std.proofs.lemmas.List.Sorted.{IsPermutation-append, IsPermutation-insert, IsPermutation-middle, IsPermutation-refl, IsPermutation-sym, IsPermutation-trans}
use Rattle.std.proofs.lemmas.List.Sums.{fold-append}
use Rattle.fine_model.specs.declared.Part.{Part}
use Rattle.fine_model.specs.RowBytes.{greatest}
use Rattle.fine_model.specs.Chain.{chain_end, regions_of}
use Rattle.fine_model.specs.Regions.{continuations}
use Rattle.fine_model.proofs.Ordered.Times.{times, times-append, times-same, times_absent}
use Rattle.fine_model.proofs.Ordered.Zip.{all_right}
use Rattle.epoch_room.specs.Gathering.{retire_all, young_at}
use Rattle.epoch_room.specs.MergeSealing.{retire}
use Rattle.epoch_room.specs.Value.{all_regions}
use Rattle.epoch_room.specs.Whole.{AreRising, FollowOn}
use Rattle.epoch_room.proofs.Erasures.LedParts.{lead_apart}
use Rattle.epoch_room.proofs.Merges.Retired.{retire_long, retire_rising, times_moved}

-- ---- ranges

-- the epochs of parts that follow one another
pub follow_ends : (oldest : Part) (newer : List Part) (next : ℕ) → FollowOn next (oldest ∷ newer) → (oldest.header.range.first ≡ next) × (next ≤ chain_end (oldest ∷ newer)) × (chain_end (oldest ∷ newer) ≤ greatest)
follow_ends oldest [] next follow = (follow.0, follow.1, follow.2)
follow_ends oldest (q ∷ newer) next follow =
    let rest = follow_ends q newer (oldest.header.range.last + 1) follow.3 in let a = follow.1 in let b = rest.1 in (follow.0, omega (arith, a, b), rest.2)

pub follow_back : (before parts : List Part) (next : ℕ) → 1 ≤ next → FollowOn next (before ++ parts) → (n : ℕ) × (1 ≤ n) × FollowOn n parts
follow_back [] parts next low follow = (next, low, follow)
follow_back (q ∷ before) parts next low follow = follow_back before parts (q.header.range.last + 1) (omega arith) follow.3

pub follow_young : (before : List Part) (oldest : Part) (newer : List Part) (p : Part) (next : ℕ) → p.header.range.first ≡ oldest.header.range.first → p.header.range.last ≡ chain_end (oldest ∷ newer)
    → FollowOn next (before ++ oldest ∷ newer) → FollowOn next (before ++ p ∷ [])
follow_young [] oldest newer p next first last follow =
    let ends = follow_ends oldest newer next follow in let a = ends.1 in let b = ends.2 in (first ∙ ends.0, omega (arith, a, last), omega (arith, b, last), tt)
follow_young (q ∷ before) oldest newer p next first last follow = (follow.0, follow.1, follow.2, follow_young before oldest newer p (q.header.range.last + 1) first last follow.3)

pub end_young : (before : List Part) (oldest : Part) (newer : List Part) → chain_end (before ++ oldest ∷ newer) ≡ chain_end (oldest ∷ newer)
end_young before oldest newer = fold-append (λ (n : ℕ) (q : Part). q.header.range.last) 0 before (oldest ∷ newer)

-- ---- the same parts in another order

pub all_retired : (run retired : List Part) → IsPermutation (run ++ retired) (retire_all run retired)
all_retired [] retired = IsPermutation-refl retired
all_retired (q ∷ run) retired =
    let inserted : IsPermutation (q ∷ retired) (retire q retired) = IsPermutation-insert retired (position_or_len (λ p. nat_lt q.region p.region) retired) q in
    let middle : IsPermutation (run ++ q ∷ retired) (q ∷ (run ++ retired)) = IsPermutation-middle run q retired in
    IsPermutation-trans (q ∷ (run ++ retired)) (run ++ retire q retired) (retire_all run (retire q retired))
    (IsPermutation-trans (q ∷ (run ++ retired)) (run ++ q ∷ retired) (run ++ retire q retired) (IsPermutation-sym (run ++ q ∷ retired) (q ∷ (run ++ retired)) middle)
    (IsPermutation-append run run (q ∷ retired) (retire q retired) (IsPermutation-refl run) inserted))
    (all_retired run (retire q retired))

-- a part more, and those that it takes the place of among the retired ones
pub young_moves : (before run retired : List Part) (p : Part) → IsPermutation (p ∷ ((before ++ run) ++ retired)) ((before ++ p ∷ []) ++ retire_all run retired)
young_moves before run retired p =
    let front : IsPermutation (before ++ p ∷ []) (p ∷ before) = subst (λ xs. IsPermutation (before ++ p ∷ []) (p ∷ xs)) (append-nil before) (IsPermutation-middle before p []) in
    subst (λ xs. IsPermutation (p ∷ xs) ((before ++ p ∷ []) ++ retire_all run retired)) (sym (append_assoc before run retired))
    (IsPermutation-append (p ∷ before) (before ++ p ∷ []) (run ++ retired) (retire_all run retired) (IsPermutation-sym (before ++ p ∷ []) (p ∷ before) front) (all_retired run retired))

-- ---- retired parts ascend

lead_once : (p : Part) → 1 ≤ times p.region (regions_of p)
lead_once p = let s = times-same p.region (continuations p.header) in omega (arith, s)

pub all_rising : (run retired : List Part) → ((n : ℕ) → times n (all_regions (run ++ retired)) ≤ 1) → AreRising (map (λ p. p.region) retired) → AreRising (map (λ p. p.region) (retire_all run retired))
all_rising [] retired once up = up
all_rising (q ∷ run) retired once up =
    all_rising run (retire q retired) (λ m. let h = once m in let s = same m in omega (arith, h, s)) (retire_rising q retired apart up)
  where
    parted : (m : ℕ) → times m (all_regions (q ∷ (run ++ retired))) ≡ times m (regions_of q) + times m (all_regions (run ++ retired))
    parted m = times-append m (regions_of q) (all_regions (run ++ retired))

    regions_both : (m : ℕ) → times m (all_regions retired) ≤ times m (all_regions (run ++ retired))
    regions_both m = fewer run
      where
        fewer : (ps : List Part) → times m (all_regions retired) ≤ times m (all_regions (ps ++ retired))
        fewer [] = omega arith
        fewer (p ∷ ps) = let a = times-append m (regions_of p) (all_regions (ps ++ retired)) in let b = fewer ps in omega (arith, a, b)

    apart : AllByRecursion (λ p. p.region ≢ q.region) retired
    apart =
        lead_apart q.region retired
        (times_absent q.region (all_regions retired) (let a = parted q.region in let b = once q.region in let c = lead_once q in let d = regions_both q.region in omega (arith, a, b, c, d)))

    moved : IsPermutation (q ∷ (run ++ retired)) (run ++ retire q retired)
    moved =
        IsPermutation-trans (q ∷ (run ++ retired)) (run ++ q ∷ retired) (run ++ retire q retired) (IsPermutation-sym (run ++ q ∷ retired) (q ∷ (run ++ retired)) (IsPermutation-middle run q retired))
        (IsPermutation-append run run (q ∷ retired) (retire q retired) (IsPermutation-refl run) (IsPermutation-insert retired (position_or_len (λ p. nat_lt q.region p.region) retired) q))

    same : (m : ℕ) → times m (all_regions (run ++ retire q retired)) ≡ times m (all_regions (q ∷ (run ++ retired)))
    same m = times_moved m (q ∷ (run ++ retired)) (run ++ retire q retired) moved

-- ---- the first part that begins at an epoch or later

-- the parts before a place begin before an epoch, and that at the place does not
pub record AreYoungAt (from : ℕ) (parts : List Part) (at : ℕ) : Type 0 where
  pub older : AllByRecursion (λ p. p.header.range.first < from) (take at parts)
  pub young : (oldest : Part) (newer : List Part) → drop at parts ≡ oldest ∷ newer → from ≤ oldest.header.range.first

pub older_before : (from : ℕ) (parts : List Part) → AllByRecursion (λ p. p.header.range.first < from) (take (young_at from parts) parts)
older_before from [] = tt
older_before from (p ∷ parts) = by (nat_le from p.header.range.first) refl (young_at from parts) (older_before from parts)
  where
    next : (n : ℕ) → 1 + n ≡ suc n
    next n = omega arith

    low : nat_le from p.header.range.first ≡ false → p.header.range.first < from
    low e = grind (arith, e)

    by : (b : Bool) → nat_le from p.header.range.first ≡ b → (n : ℕ) → AllByRecursion (λ q. q.header.range.first < from) (take n parts) → AllByRecursion (λ q. q.header.range.first < from) (take (cond (not b) (1 + n) 0) (p ∷ parts))
    by true e n rest = tt
    by false e n rest = subst (λ k. AllByRecursion (λ q. q.header.range.first < from) (take k (p ∷ parts))) (sym (next n)) (low e, rest)

pub young_there : (from : ℕ) (parts : List Part) (oldest : Part) (newer : List Part) → drop (young_at from parts) parts ≡ oldest ∷ newer → from ≤ oldest.header.range.first
young_there from [] oldest newer is = absurd (let e : ◌≡◌ {A = List Part} [] (oldest ∷ newer) = is in cc)
young_there from (p ∷ parts) oldest newer is = by (nat_le from p.header.range.first) refl (young_at from parts) is (young_there from parts oldest newer)
  where
    next : (n : ℕ) → 1 + n ≡ suc n
    next n = omega arith

    head_is : ◌≡◌ {A = List Part} (p ∷ parts) (oldest ∷ newer) → p ≡ oldest
    head_is h = cc

    high : nat_le from p.header.range.first ≡ true → from ≤ p.header.range.first
    high e = grind (arith, e)

    by : (b : Bool) → nat_le from p.header.range.first ≡ b → (n : ℕ) → drop (cond (not b) (1 + n) 0) (p ∷ parts) ≡ oldest ∷ newer → (drop n parts ≡ oldest ∷ newer → from ≤ oldest.header.range.first) → from ≤ oldest.header.range.first
    by true e n is rest = let same : p ≡ oldest = head_is is in subst (λ (q : Part). from ≤ q.header.range.first) same (high e)
    by false e n is rest = rest (ap (λ k. drop k (p ∷ parts)) (sym (next n)) ∙ is)

-- ---- one part after the other is retired

pub retired_more : (parts : List Part) (i : ℕ) (d : Part) (start now next : List Part) → i < length parts → now ≡ retire_all (take i parts) start → next ≡ retire (get_or parts i d) now → next ≡ retire_all (take (i + 1) parts) start
retired_more parts i d start now next low is more =
    more ∙ ap (retire (get_or parts i d)) is ∙ sym (fold-append (λ (left : List Part) (p : Part). retire p left) start (take i parts) (get_or parts i d ∷ [])) ∙ ap (λ ps. retire_all ps start) (sym (take_more parts i d low))

pub room_more : (parts : List Part) (i : ℕ) (p : Part) (now next : List Part) (most : ℕ) → i < length parts → length (drop i parts) + length now ≤ most → next ≡ retire p now → length (drop (i + 1) parts) + length next ≤ most
room_more parts i p now next most low room is = let l = retire_long p now in omega (arith, low, room, l, ap length is, length-drop i parts, length-drop (i + 1) parts)

pub replaced_at : (parts : List Part) (at : ℕ) (p : Part) → at < length parts → take (at + 1) (set parts at p) ≡ take at parts ++ p ∷ []
replaced_at parts at p low = ap (λ k. take k (set parts at p)) (next at) ∙ take-suc-set parts at p low
  where
    next : (n : ℕ) → n + 1 ≡ suc n
    next n = omega arith

-- ---- two parts or more

pub record AreTwo (parts : List Part) : Type 0 where
  pub oldest : Part
  pub newer : List Part
  pub is : parts ≡ oldest ∷ newer
  pub several : newer ≢ []

pub are_two : (parts : List Part) (at : ℕ) → at + 2 ≤ length parts → AreTwo (drop at parts)
are_two parts at many = by (drop at parts) (omega (arith, many, length-drop at parts))
  where
    by : (ps : List Part) → 2 ≤ length ps → AreTwo ps
    by [] few = absurd (omega (arith, few))
    by (p ∷ []) few = absurd (omega (arith, few))
    by (p ∷ q ∷ ps) few = record { oldest = p; newer = q ∷ ps; is = refl; several = λ e. let h : ◌≡◌ {A = List Part} (q ∷ ps) [] = e in cc }

pub are_young : (from : ℕ) (parts : List Part) → AreYoungAt from parts (young_at from parts)
are_young from parts = record { older = older_before from parts; young = young_there from parts }

-- the parts from a place on, as they are sliced
pub all_behind : (parts slice : List Part) (at : ℕ) → slice ≡ parts → take (length slice - at) (drop at slice) ≡ drop at parts
all_behind parts slice at is = ap (λ ps. take (length ps - at) (drop at ps)) is ∙ take_all (length parts - at) (drop at parts) (omega (arith, length-drop at parts))

-- what holds of all parts holds of those from a place on
pub all_from : (P : Part → Type 0) (parts slice : List Part) (at : ℕ) → slice ≡ parts → AllByRecursion P parts → AllByRecursion P (take (length slice - at) (drop at slice))
all_from P parts slice at is all =
    subst (AllByRecursion P) (sym (all_behind parts slice at is)) (all_right P (take at parts) (drop at parts) (subst (AllByRecursion P) (sym (take-append-drop at parts)) all))

-- a lead is a region of its part
pub leads_below : (most : ℕ) (parts : List Part) → AllByRecursion (λ r. r < most) (all_regions parts) → AllByRecursion (λ p. p.region < most) parts
leads_below most [] all = tt
leads_below most (p ∷ parts) all = (all.0, leads_below most parts (all_right (λ r. r < most) (regions_of p) (all_regions parts) all))
