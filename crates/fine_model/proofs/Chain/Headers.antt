-- What a good header says.
use Rattle.std.proofs.Common.{◌≡◌, ℕ, zero, suc, ◌+◌, ◌-◌, ◌*◌, ◌<◌, ◌≤◌, nat_eq, nat_lt, Bool, true, false, not, ◌&&◌, ◌⊎◌, inl, inr, List, [], ◌∷◌, ◌++◌, length, take, slice_index, refl, sym, ap, ◌∙◌, subst, Some, None, Ok, Err, arith, true≢false, leb, lt-ltb}
use Rattle.std.specs.Prelude.{Option, Result, find}
use Rattle.std.specs.List.{AllByRecursion, list_any, range_with_len}
use Rattle.std.proofs.lemmas.Bool.{and_parts, not-true, leb-true, ltb-true}
use Rattle.std.proofs.lemmas.List.{take_more}
use Rattle.fine_model.specs.Types.{Header, Mark}
use Rattle.fine_model.specs.RowBytes.{greatest}
use Rattle.fine_model.specs.Merge.{fits_in}
use Rattle.fine_model.specs.Types.mark
use Rattle.fine_model.specs.Regions.{is_sealed, continuations, regions_at, more_at, header_at, entry_test, length_tests, header_tests, bad_field, header_in}
use Rattle.fine_model.proofs.Ordered.Nothing.{none_found, map_none, all_below, all_mapped}
use Rattle.fine_model.proofs.Ordered.Order.{all_map}
use Rattle.fine_model.proofs.Ordered.Sets.{all_append}
use Rattle.fine_model.proofs.Ordered.Times.{times, times-append, times-none, times-cons, absent_times}

pub header_closed : (region_len regions lead : ℕ) (bytes : List ℕ) → is_sealed bytes ≡ false → header_in region_len regions lead bytes ≡ Ok None
unfolding header_in
header_closed region_len regions lead bytes closed = rw closed refl

pub header_good : (region_len regions lead : ℕ) (bytes : List ℕ) → is_sealed bytes ≡ true → bad_field region_len regions lead bytes ≡ None → header_in region_len regions lead bytes ≡ Ok (Some (header_at bytes))
unfolding header_in
header_good region_len regions lead bytes is_open good = rw (is_open, good) refl

pub header_bad : (region_len regions lead at : ℕ) (bytes : List ℕ) → is_sealed bytes ≡ true → bad_field region_len regions lead bytes ≡ Some at → header_in region_len regions lead bytes ≡ Err at
unfolding header_in
header_bad region_len regions lead at bytes is_open bad = rw (is_open, bad) refl

-- a good header stands behind a sealed gate, is what the bytes spell, and passes each test
pub record Good (region_len regions lead : ℕ) (bytes : List ℕ) (header : Header) : Type 0 where
  pub is_open : is_sealed bytes ≡ true
  pub read : header_at bytes ≡ header
  pub tests : AllByRecursion (λ t. t.1 ≡ true) (header_tests region_len regions lead bytes header)

pub good : (region_len regions lead : ℕ) (bytes : List ℕ) (header : Header) → header_in region_len regions lead bytes ≡ Ok (Some header) → Good region_len regions lead bytes header
unfolding bad_field
good region_len regions lead bytes header is = by (is_sealed bytes) refl
  where
    tested : is_sealed bytes ≡ true → (o : Option ℕ) → bad_field region_len regions lead bytes ≡ o → Good region_len regions lead bytes header
    tested e (Some at) f = absurd (let h : ◌≡◌ {A = Result (Option Header) ℕ} (Err at) (Ok (Some header)) = sym (header_bad region_len regions lead at bytes e f) ∙ is in cc)
    tested e None f =
        let h : ◌≡◌ {A = Result (Option Header) ℕ} (Ok (Some (header_at bytes))) (Ok (Some header)) = sym (header_good region_len regions lead bytes e f) ∙ is in
        let same : header_at bytes ≡ header = cc in
        let each = none_found (λ t. not t.1) (header_tests region_len regions lead bytes (header_at bytes)) (map_none (λ t. t.0) (find (λ t. not t.1) (header_tests region_len regions lead bytes (header_at bytes))) f) in
        record {
          is_open = e;
          read = same;
          tests = subst (λ h. AllByRecursion (λ t. t.1 ≡ true) (header_tests region_len regions lead bytes h)) same
              (all_map (λ t. not t.1 ≡ false) (λ t. t.1 ≡ true) (λ t h. passed t.1 h) (header_tests region_len regions lead bytes (header_at bytes)) each);
        }
      where
        passed : (b : Bool) → not b ≡ false → b ≡ true
        passed true h = refl
        passed false h = absurd (true≢false h)

    by : (b : Bool) → is_sealed bytes ≡ b → Good region_len regions lead bytes header
    by true e = tested e (bad_field region_len regions lead bytes) refl
    by false e = absurd (let h : ◌≡◌ {A = Result (Option Header) ℕ} (Ok None) (Ok (Some header)) = sym (header_closed region_len regions lead bytes e) ∙ is in cc)

-- its last epoch is not before its first one
pub in_order : (region_len regions lead : ℕ) (bytes : List ℕ) (header : Header) → Good region_len regions lead bytes header → header.range.first ≤ header.range.last
unfolding header_tests
in_order region_len regions lead bytes header g =
    let t = g.tests in leb-true header.range.first header.range.last (and_parts (leb header.range.first header.range.last) _ t.1.1.1.0).0

-- ---- the regions of a header

pub regions_are : (bytes : List ℕ) → (header_at bytes).regions ≡ regions_at (header_at bytes).mark bytes
unfolding header_at
regions_are bytes = refl

pub more_are : (bytes : List ℕ) → (header_at bytes).more ≡ more_at (header_at bytes).mark bytes
unfolding header_at
more_are bytes = refl

pub seven : (m : Mark) (bytes : List ℕ) → length (more_at m bytes) ≡ 7
seven mark.One bytes = refl
seven mark.Two bytes = refl
seven mark.Three bytes = refl

-- no region twice, and none that is no region of the disk
pub record Own (regions lead : ℕ) (more : List ℕ) : Type 0 where
  pub there : AllByRecursion (λ region. region < regions) more
  pub once : (n : ℕ) → times n (lead ∷ more) ≤ 1

alone : (regions lead : ℕ) → Own regions lead []
alone regions lead = record { there = tt; once = λ n. let z = times-none n in by n (times-cons n lead []) }
  where
    by : (n : ℕ) → ((n ≡ lead) × (times n (lead ∷ []) ≡ times n [] + 1)) ⊎ ((n ≡ lead → ⊥) × (times n (lead ∷ []) ≡ times n [])) → times n (lead ∷ []) ≤ 1
    by n (inl h) = let z = times-none n in let e = h.1 in omega (arith, z, e)
    by n (inr h) = let z = times-none n in let e = h.1 in omega (arith, z, e)

-- one region more
one_more : (regions lead : ℕ) (more : List ℕ) (region : ℕ) → Own regions lead more → nat_lt region regions ≡ true → list_any (nat_eq region) (lead ∷ more) ≡ false → Own regions lead (more ++ region ∷ [])
one_more regions lead more region own there absent = record {
  there = all_append (λ r. r < regions) more (region ∷ []) own.there (ltb-true region regions there, tt);
  once = λ n. by n (times-cons n region []);
}
  where
    by : (n : ℕ) → ((n ≡ region) × (times n (region ∷ []) ≡ times n [] + 1)) ⊎ ((n ≡ region → ⊥) × (times n (region ∷ []) ≡ times n [])) → times n ((lead ∷ more) ++ region ∷ []) ≤ 1
    by n (inl h) =
        let z = times-none n in let e = h.1 in let a = times-append n (lead ∷ more) (region ∷ []) in
        let none : times n (lead ∷ more) ≡ 0 = ap (λ k. times k (lead ∷ more)) h.0 ∙ absent_times region (lead ∷ more) absent in omega (arith, z, e, a, none)
    by n (inr h) = let z = times-none n in let e = h.1 in let a = times-append n (lead ∷ more) (region ∷ []) in let o = own.once n in omega (arith, z, e, a, o)

used_entry : (regions lead : ℕ) (header : Header) (i : ℕ) → nat_lt (i + 1) header.regions ≡ true → (entry_test regions lead header i).1 ≡ true
    → (nat_lt (slice_index header.more i) regions ≡ true) × (list_any (nat_eq (slice_index header.more i)) (lead ∷ take i header.more) ≡ false)
used_entry regions lead header i used passed =
    let e : (nat_lt (slice_index header.more i) regions && not (list_any (nat_eq (slice_index header.more i)) (lead ∷ take i header.more))) ≡ true = rw used at passed in
    let both = and_parts (nat_lt (slice_index header.more i) regions) (not (list_any (nat_eq (slice_index header.more i)) (lead ∷ take i header.more))) e in
    (both.0, not-true (list_any (nat_eq (slice_index header.more i)) (lead ∷ take i header.more)) both.1)

-- the first entries, as many as are used
entries : (regions lead : ℕ) (header : Header) → length header.more ≡ 7 → ((i : ℕ) → i < 7 → (entry_test regions lead header i).1 ≡ true)
    → (j : ℕ) → j ≤ 7 → j ≤ header.regions - 1 → Own regions lead (take j header.more)
entries regions lead header long each zero few used = alone regions lead
entries regions lead header long each (suc j) few used =
    let u = used_entry regions lead header j (lt-ltb (j + 1) header.regions (omega (arith, used))) (each j (omega (arith, few))) in
    let next : j + 1 ≡ suc j = omega arith in
    let more : take (suc j) header.more ≡ take j header.more ++ slice_index header.more j ∷ [] =
    subst (λ k. take k header.more ≡ take j header.more ++ slice_index header.more j ∷ []) next (take_more header.more j 0 (omega (arith, few, long))) in
    subst (Own regions lead) (sym more)
    (one_more regions lead (take j header.more) (slice_index header.more j) (entries regions lead header long each j (omega (arith, few)) (omega (arith, used))) u.0 u.1)

several : (region_len regions lead : ℕ) (header : Header) → length header.more ≡ 7 → AllByRecursion (λ t. t.1 ≡ true) (length_tests region_len regions lead header mark.Three) → Own regions lead (continuations header)
several region_len regions lead header long tests =
    let few = leb-true header.regions 8 (and_parts (leb 2 header.regions) (leb header.regions 8) tests.0).1 in
    entries regions lead header long
    (λ i h. all_below (λ i. (entry_test regions lead header i).1 ≡ true) 7 (all_mapped (λ t. t.1 ≡ true) (entry_test regions lead header) (range_with_len 0 7) tests.1.1) i h)
    (header.regions - 1) (omega (arith, few)) (omega arith)

-- ---- a good header, by its mark

module _ (region_len regions lead : ℕ) (bytes : List ℕ) (header : Header) (g : Good region_len regions lead bytes header) where
  seven_entries : length header.more ≡ 7
  seven_entries = ap length (sym (ap (λ h. h.more) g.read) ∙ more_are bytes) ∙ seven (header_at bytes).mark bytes

  -- the tests of its lengths, for the mark that it has
  abbrev LengthsPass : Mark → Type 0
  LengthsPass m = AllByRecursion (λ t. t.1 ≡ true) (length_tests region_len regions lead header m)

  lengths_pass : (m : Mark) → header.mark ≡ m → LengthsPass m
  unfolding header_tests
  lengths_pass m is = let t = g.tests in subst LengthsPass is t.1.1.1.1.1

  -- one region, where the mark has no entries
  one_region : (m : Mark) → header.mark ≡ m → regions_at m bytes ≡ 1 → header.regions ≡ 1
  one_region m is one = sym (ap (λ h. h.regions) g.read) ∙ regions_are bytes ∙ ap (λ h. regions_at h.mark bytes) g.read ∙ ap (λ k. regions_at k bytes) is ∙ one

-- the lead and the continuations of a good header are regions of the disk, each once
pub own_regions : (region_len regions lead : ℕ) (bytes : List ℕ) (header : Header) → Good region_len regions lead bytes header → Own regions lead (continuations header)
own_regions region_len regions lead bytes header g = by header.mark refl
  where
    single : header.regions ≡ 1 → Own regions lead (continuations header)
    single one = subst (λ k. Own regions lead (take (k - 1) header.more)) (sym one) (alone regions lead)

    by : (m : Mark) → header.mark ≡ m → Own regions lead (continuations header)
    by mark.One is = single (one_region region_len regions lead bytes header g mark.One is refl)
    by mark.Two is = single (one_region region_len regions lead bytes header g mark.Two is refl)
    by mark.Three is = several region_len regions lead header (seven_entries region_len regions lead bytes header g) (lengths_pass region_len regions lead bytes header g mark.Three is)

-- ---- the body of a header's partition

-- a header has 1 to 8 regions, as its mark says, seven entries, and a body that fits its regions
pub record Lies (region_len : ℕ) (header : Header) : Type 0 where
  pub few : (1 ≤ header.regions) × (header.regions ≤ 8)
  pub alone : (header.mark ≡ mark.Three → ⊥) → header.regions ≡ 1
  pub several : header.mark ≡ mark.Three → 2 ≤ header.regions
  pub long : length header.more ≡ 7
  pub fits : fits_in region_len header.regions (header.area + 14 * header.nodes) ≡ true

pub lies : (region_len regions lead : ℕ) (bytes : List ℕ) (header : Header) → Good region_len regions lead bytes header → Lies region_len header
lies region_len regions lead bytes header g = by header.mark refl
  where
    front : (a b : Bool) → (a && b) ≡ true → a ≡ true
    front a b both = (and_parts a b both).0

    one : (m : Mark) → header.mark ≡ m → (m ≡ mark.Three → ⊥) → header.regions ≡ 1 → fits_in region_len 1 (header.area + 14 * header.nodes) ≡ true → Lies region_len header
    one m is other n fits = record {
      few = (omega (arith, n), omega (arith, n));
      alone = λ _. n;
      several = λ three. absurd (other (sym is ∙ three));
      long = seven_entries region_len regions lead bytes header g;
      fits = subst (λ k. fits_in region_len k (header.area + 14 * header.nodes) ≡ true) (sym n) fits;
    }

    by : (m : Mark) → header.mark ≡ m → Lies region_len header
    by mark.One is =
        let t = lengths_pass region_len regions lead bytes header g mark.One is in
        one mark.One is (λ e. cc) (one_region region_len regions lead bytes header g mark.One is refl) (front (fits_in region_len 1 (header.area + 14 * header.nodes)) _ t.0)
    by mark.Two is =
        let t = lengths_pass region_len regions lead bytes header g mark.Two is in
        one mark.Two is (λ e. cc) (one_region region_len regions lead bytes header g mark.Two is refl) (front (fits_in region_len 1 (header.area + 14 * header.nodes)) _ t.0)
    by mark.Three is =
        let t = lengths_pass region_len regions lead bytes header g mark.Three is in
        let low = leb-true 2 header.regions (and_parts (leb 2 header.regions) (leb header.regions 8) t.0).0 in
        let high = leb-true header.regions 8 (and_parts (leb 2 header.regions) (leb header.regions 8) t.0).1 in
        record {
          few = (omega (arith, low), high);
          alone = λ other. absurd (other is);
          several = λ _. low;
          long = seven_entries region_len regions lead bytes header g;
          fits = front (fits_in region_len header.regions (header.area + 14 * header.nodes)) _ (front (fits_in region_len header.regions (header.area + 14 * header.nodes) && not (fits_in region_len (header.regions - 1) (header.area + 14 * header.nodes))) _ t.1.0);
        }

-- its last epoch is within the format's bounds, and its first is an epoch
pub in_bounds : (region_len regions lead : ℕ) (bytes : List ℕ) (header : Header) → Good region_len regions lead bytes header → (1 ≤ header.range.first) × (header.range.last ≤ greatest)
unfolding header_tests
in_bounds region_len regions lead bytes header g =
    let t = g.tests in (
      leb-true 1 header.range.first (and_parts (leb 1 header.range.first) (leb header.range.first greatest) t.1.1.0).0,
      leb-true header.range.last greatest (and_parts (leb header.range.first header.range.last) (leb header.range.last greatest) t.1.1.1.0).1,
    )
