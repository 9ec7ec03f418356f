-- The header of a job that has taken its regions is good, and is read back once it is written.
use Rattle.std.proofs.Common.{◌≡◌, ◌≢◌, ℕ, zero, suc, ◌+◌, ◌-◌, ◌*◌, ◌<◌, ◌≤◌, ◌==◌, nat_le, nat_lt, Bool, true, false, not, ◌&&◌, List, [], ◌∷◌, ◌++◌, length, take, drop, get_or, refl, sym, ap, subst, ◌∙◌, arith, eq-eqb, length-append, true≢false}
use Rattle.std.specs.Prelude.{if◌then◌else◌, flat_map, map, nat_eq, slice_index, IsTrue}
use Rattle.std.specs.List.{AllByRecursion, list_any, range_with_len}
use Rattle.std.specs.Int.{to_be_bytes, w32, w64}
use Rattle.std.proofs.lemmas.Bool.{lt-ltb}
use Rattle.std.proofs.lemmas.List.{drop_more, get_or-drop, get_or-take, length-drop, length-take, take-append-drop, take_at, take-take}
use Rattle.fine_model.specs.declared.Header.{Header}
use Rattle.fine_model.specs.declared.Job.{Job}
use Rattle.fine_model.specs.declared.Mark.{Mark}
use Rattle.fine_model.specs.declared.Mark.TheVariants as mark
use Rattle.fine_model.specs.RowBytes.{greatest}
use Rattle.fine_model.specs.Regions.{body_start, continuations, entry_test, header_bytes, mark_bytes, regions_bytes}
use Rattle.fine_model.specs.Trees.{is_distinct}
use Rattle.fine_model.proofs.Ordered.Times.{times, times-append, times-same, distinct_times, times_absent}
use Rattle.log_partition.specs.Written.{IsGood}
use Rattle.partition_index.specs.Parts.{is_counted}
use Rattle.epoch_room.specs.Whole.{HasRegions, IsTaken}

-- ---- how long it is

numbers_long : (xs : List ℕ) → length (flat_map (to_be_bytes w32) xs) ≡ 4 * length xs
numbers_long [] = refl
numbers_long (x ∷ xs) = let l = length-append (to_be_bytes w32 x) (flat_map (to_be_bytes w32) xs) in let r = numbers_long xs in omega (arith, l, r)

-- behind the gate it has the bytes before the body
pub header_long : (region_len : ℕ) (header : Header) → length header.more ≡ 7 → 1 + length (header_bytes region_len header) ≡ body_start header.mark
unfolding header_bytes
header_long region_len header seven = by header.mark refl
  where
    long : (m : Mark)
        → 1 + length (mark_bytes m ++ to_be_bytes w64 region_len ++ to_be_bytes w64 header.range.first ++ to_be_bytes w64 header.range.last
        ++ to_be_bytes w32 header.rows ++ to_be_bytes w32 header.nodes ++ to_be_bytes w32 header.area ++ regions_bytes m header) ≡ body_start m
    long mark.One = refl
    long mark.Two = refl
    long mark.Three = let n = numbers_long header.more in omega (arith, n, seven)

    by : (m : Mark) → header.mark ≡ m → 1 + length (header_bytes region_len header) ≡ body_start header.mark
    by m e = long header.mark

-- and it is cut off what was made room for it
pub header_cut : (region_len : ℕ) (header : Header) (bytes rest : List ℕ) (n : ℕ) → length header.more ≡ 7 → 1 + n ≡ body_start header.mark → bytes ≡ header_bytes region_len header ++ rest → take n bytes ≡ header_bytes region_len header
header_cut region_len header bytes rest n seven end is = ap (take n) is ∙ take_at (header_bytes region_len header) rest n (let l = header_long region_len header seven in omega (arith, l, end))

-- ---- its entries

all_index : (P : ℕ → Type 0) (xs : List ℕ) (i : ℕ) → AllByRecursion P xs → i < length xs → P (get_or xs i 0)
all_index P [] i all low = absurd (omega (arith, low))
all_index P (x ∷ xs) zero all low = all.0
all_index P (x ∷ xs) (suc i) all low = all_index P xs i all.1 (omega (arith, low))

-- in a list with each number once, none stands before itself
not_earlier : (xs : List ℕ) (i : ℕ) → is_distinct xs ≡ true → i < length xs → list_any (nat_eq (get_or xs i 0)) (take i xs) ≡ false
not_earlier xs i once low =
    let x : ℕ = get_or xs i 0 in
    let d = distinct_times xs once x in
    let s : times x xs ≡ times x (take i xs ++ drop i xs) = ap (times x) (sym (take-append-drop i xs)) in
    let a = times-append x (take i xs) (drop i xs) in
    let b : times x (drop i xs) ≡ times x (x ∷ drop (i + 1) xs) = ap (times x) (drop_more xs i 0 low) in
    let c = times-same x (drop (i + 1) xs) in
    times_absent x (take i xs) (omega (arith, d, s, a, b, c))

module _ (regions lead : ℕ) (header : Header) (has : HasRegions (record { region = lead; header = header })) (once : is_distinct (lead ∷ continuations header) ≡ true) (below : AllByRecursion (λ r. r < regions) (lead ∷ continuations header))
    (behind : AllByRecursion (λ r. r ≡ 0) (drop (header.regions - 1) header.more)) where
  abbrev k : ℕ
  k = header.regions - 1

  used : (i : ℕ) → i < k → (nat_lt (slice_index header.more i) regions && not (list_any (nat_eq (slice_index header.more i)) (lead ∷ take i header.more))) ≡ true
  used i low =
      let long : length (take k header.more) ≡ k = let l = length-take k header.more in omega (arith, l, has.more, has.high) in
      let is : get_or (take k header.more) i 0 ≡ get_or header.more i 0 = get_or-take k header.more i 0 low in
      let small : get_or header.more i 0 < regions = subst (λ r. r < regions) is (all_index (λ r. r < regions) (take k header.more) i below.1 (omega (arith, long, low))) in
      let front : take i (take k header.more) ≡ take i header.more = take-take i k header.more (omega (arith, low)) in
      let fresh : list_any (nat_eq (get_or header.more i 0)) (lead ∷ take i header.more) ≡ false =
      subst (λ ys. list_any (nat_eq (get_or header.more i 0)) (lead ∷ ys) ≡ false) front
      (subst (λ r. list_any (nat_eq r) (lead ∷ take i (take k header.more)) ≡ false) is (not_earlier (lead ∷ take k header.more) (suc i) once (omega (arith, long, low)))) in
      both (nat_lt (get_or header.more i 0) regions) (list_any (nat_eq (get_or header.more i 0)) (lead ∷ take i header.more)) (lt-ltb (get_or header.more i 0) regions small) fresh
    where
      both : (a b : Bool) → a ≡ true → b ≡ false → (a && not b) ≡ true
      both true false e f = refl
      both true true e f = absurd (true≢false f)
      both false b e f = absurd (true≢false (sym e))

  unused : (i : ℕ) → k ≤ i → i < 7 → (slice_index header.more i == 0) ≡ true
  unused i high low =
      let long : length (drop k header.more) ≡ 7 - k = let l = length-drop k header.more in omega (arith, l, has.more) in
      let at : k + (i - k) ≡ i = omega (arith, high) in
      let is : get_or header.more i 0 ≡ get_or (drop k header.more) (i - k) 0 = ap (λ n. get_or header.more n 0) (sym at) ∙ sym (get_or-drop k header.more (i - k) 0) in
      eq-eqb (get_or header.more i 0) 0 (is ∙ all_index (λ r. r ≡ 0) (drop k header.more) (i - k) behind (omega (arith, long, high, low)))

  entry : (i : ℕ) → i < 7 → (entry_test regions lead header i).1 ≡ true
  entry i low = by (nat_lt (i + 1) header.regions) refl
    where
      yes : nat_lt (i + 1) header.regions ≡ true → i < k
      yes e = let h : i + 1 < header.regions = grind (arith, e) in omega (arith, h)

      no : nat_lt (i + 1) header.regions ≡ false → k ≤ i
      no e = let h : header.regions ≤ i + 1 = grind (arith, e) in omega (arith, h)

      by : (b : Bool) → nat_lt (i + 1) header.regions ≡ b
          → (if b then nat_lt (slice_index header.more i) regions && not (list_any (nat_eq (slice_index header.more i)) (lead ∷ take i header.more)) else (slice_index header.more i == 0)) ≡ true
      by true e = used i (yes e)
      by false e = unused i (no e) low

  pub entries_good : AllByRecursion (λ t. t.1 ≡ true) (map (entry_test regions lead header) (range_with_len 0 7))
  entries_good = (entry 0 (omega arith), (entry 1 (omega arith), (entry 2 (omega arith), (entry 3 (omega arith), (entry 4 (omega arith), (entry 5 (omega arith), (entry 6 (omega arith), tt)))))))

-- ---- all of it

pub taken_good : (region_len regions : ℕ) (job : Job) (header : Header) → IsTaken region_len job header → regions ≤ 64 → HasRegions (record { region = job.target; header = header })
    → is_distinct (job.target ∷ continuations header) ≡ true → AllByRecursion (λ r. r < regions) (job.target ∷ continuations header)
    → (1 ≤ header.range.first) × (header.range.first ≤ header.range.last) × (header.range.last ≤ greatest) → IsGood region_len regions job.target header
taken_good region_len regions job header taken few has once below range = record {
  few = few;
  range = range;
  counted = taken.counted;
  lies = taken.lies;
  least = λ m. taken.least (two (subst (λ k. IsTrue (is_counted k header.regions)) m taken.lies.counted));
  entries = entries_good regions job.target header has once below taken.behind;
}
  where
    two : IsTrue (nat_le 2 header.regions && nat_le header.regions 8) → 2 ≤ header.regions
    two h = grind (arith, h)

-- the mark of a job is the second or the third
pub mark_later : (region_len : ℕ) (job : Job) (header : Header) → IsTaken region_len job header → header.mark ≢ mark.One
mark_later region_len job header taken is = by (header.regions == 1) (sym is ∙ taken.of_mark)
  where
    by : (b : Bool) → mark.One ≡ (if b then mark.Two else mark.Three) → ⊥
    by true e = cc
    by false e = cc
