-- A good header is read back from its bytes.
use Rattle.std.proofs.Common.{◌≡◌, ℕ, ◌+◌, ◌-◌, ◌*◌, ◌<◌, ◌≤◌, ◌==◌, nat_le, nat_lt, Bool, true, false, not, ◌&&◌, List, [], ◌∷◌, ◌++◌, length, Some, None, Ok, refl, sym, ap, ◌∙◌, subst, arith, eq-eqb, eqb-true}
use Rattle.std.specs.Prelude.{if◌then◌else◌}
use Rattle.std.specs.List.{AllByRecursion}
use Rattle.std.specs.Int.{to_be_bytes, from_be_bytes, w32, w64}
use Rattle.std.proofs.lemmas.Bool.{le-leb, true≢false}
use Rattle.std.proofs.lemmas.Bool.Decides.{nat_tests}
use Rattle.std.proofs.lemmas.Nat.{from_be_bytes-to_be_bytes_4, from_be_bytes-to_be_bytes_8}
use Rattle.fine_model.specs.declared.Header.{Header}
use Rattle.fine_model.specs.declared.Mark.{Mark}
use Rattle.fine_model.specs.declared.Mark.TheVariants as mark
use Rattle.fine_model.specs.RowBytes.{greatest}
use Rattle.fine_model.specs.Merge.{fits_in}
use Rattle.fine_model.specs.Regions.{sealed_gate, header_bytes, header_at, alike, header_tests, bad_field, header_in}
use Rattle.partition_index.proofs.Exact.{area_small}
use Rattle.log_partition.specs.Headers.{first_bad}
use Rattle.log_partition.specs.Written.{IsGood, WrittenHeaderLaw, WrittenPartitionLaw}
use Rattle.fine_model.proofs.Chain.Headers.{header_good}
use Rattle.log_partition.proofs.Sealed.{and_true, both_zero}

-- where each test holds, no field is the first that fails
none_bad : (tests : List (ℕ × Bool)) → AllByRecursion (λ t. t.1 ≡ true) tests → first_bad tests ≡ None
none_bad [] all = refl
none_bad (t ∷ tests) all = by t.1 all.0 (none_bad tests all.1)
  where
    by : (b : Bool) → b ≡ true → first_bad tests ≡ None → first_bad ((t.0, b) ∷ tests) ≡ None
    by true h rest = rest
    by false h rest = absurd (true≢false (sym h))

-- an entry that is good has a spelling
small_entry : (regions r : ℕ) (used others : Bool) → regions ≤ 64 → (if used then nat_lt r regions && others else (r == 0)) ≡ true → r < 4294967296
small_entry regions r true others few h = low (nat_lt r regions) refl h
  where
    low : (t : Bool) → nat_lt r regions ≡ t → (t && others) ≡ true → r < 4294967296
    low true e h = let b : r < regions = grind (arith, nat_tests) in omega (arith, b, few)
    low false e h = absurd (true≢false (sym h))
small_entry regions r false others few h = let z : r ≡ 0 = eqb-true r 0 h in omega (arith, z)

-- a list of seven
pub record Seven (xs : List ℕ) : Type 0 where
  pub a : ℕ
  pub b : ℕ
  pub c : ℕ
  pub d : ℕ
  pub e : ℕ
  pub f : ℕ
  pub g : ℕ
  pub are : xs ≡ a ∷ b ∷ c ∷ d ∷ e ∷ f ∷ g ∷ []

seven : (xs : List ℕ) → length xs ≡ 7 → Seven xs
seven (a ∷ b ∷ c ∷ d ∷ e ∷ f ∷ g ∷ []) long = record { a = a; b = b; c = c; d = d; e = e; f = f; g = g; are = refl }
seven _ long = absurd (omega (arith, long))

module _ (region_len regions lead first last rows nodes area : ℕ) (rest : List ℕ) where
  abbrev with_regions : Mark → ℕ → List ℕ → Header
  with_regions m k more = record { mark = m; range = record { first = first; last = last }; rows = rows; nodes = nodes; area = area; regions = k; more = more }

  abbrev bytes_of : Header → List ℕ
  bytes_of header = (sealed_gate ∷ header_bytes region_len header) ++ rest

  abbrev read_again : Header → Type 0
  read_again header = header_in region_len regions lead (bytes_of header) ≡ Ok (Some header)

  -- the numbers, read again
  module _ (m : Mark) (k : ℕ) (more : List ℕ) (good : IsGood region_len regions lead (with_regions m k more)) where
    first_again : from_be_bytes w64 (to_be_bytes w64 first) ≡ first
    first_again = from_be_bytes-to_be_bytes_8 first (omega (arith, good.range.1, good.range.2))

    last_again : from_be_bytes w64 (to_be_bytes w64 last) ≡ last
    last_again = from_be_bytes-to_be_bytes_8 last (omega (arith, good.range.2))

    rows_again : from_be_bytes w32 (to_be_bytes w32 rows) ≡ rows
    rows_again = from_be_bytes-to_be_bytes_4 rows good.counted.0

    nodes_again : from_be_bytes w32 (to_be_bytes w32 nodes) ≡ nodes
    nodes_again = from_be_bytes-to_be_bytes_4 nodes (let few = good.counted.0 in omega (arith, few, good.counted.1))

    area_again : from_be_bytes w32 (to_be_bytes w32 area) ≡ area
    area_again = from_be_bytes-to_be_bytes_4 area (area_small region_len (with_regions m k more) good.lies)

    len_again : from_be_bytes w64 (to_be_bytes w64 region_len) ≡ region_len
    len_again = from_be_bytes-to_be_bytes_8 region_len (let small = good.lies.small in omega (arith, small))

    -- the tests that all marks share
    t5 : (from_be_bytes w64 (to_be_bytes w64 region_len) == region_len) ≡ true
    t5 = eq-eqb (from_be_bytes w64 (to_be_bytes w64 region_len)) region_len len_again

    t13 : (nat_le 1 first && nat_le first greatest) ≡ true
    t13 = and_true (nat_le 1 first) (nat_le first greatest) (le-leb 1 first good.range.0) (le-leb first greatest (omega (arith, good.range.1, good.range.2)))

    t21 : (nat_le first last && nat_le last greatest) ≡ true
    t21 = and_true (nat_le first last) (nat_le last greatest) (le-leb first last good.range.1) (le-leb last greatest good.range.2)

    t33 : (nat_le nodes rows && alike (nodes == 0) (rows == 0)) ≡ true
    t33 = and_true (nat_le nodes rows) (alike (nodes == 0) (rows == 0)) (le-leb nodes rows good.counted.1) (both_zero nodes rows good.counted.2.0 good.counted.2.1)

    areas : alike (area == 0) (rows == 0) ≡ true
    areas = let both = good.counted.3 in both_zero area rows both.0 both.1

  -- the header that its fields are read as, with as many regions as they say
  abbrev read_as : Mark → ℕ → List ℕ → Header
  read_as m k more = record {
    mark = m;
    range = record { first = from_be_bytes w64 (to_be_bytes w64 first); last = from_be_bytes w64 (to_be_bytes w64 last) };
    rows = from_be_bytes w32 (to_be_bytes w32 rows);
    nodes = from_be_bytes w32 (to_be_bytes w32 nodes);
    area = from_be_bytes w32 (to_be_bytes w32 area);
    regions = k;
    more = more;
  }

  fields_again : (m : Mark) (k : ℕ) (more : List ℕ) → IsGood region_len regions lead (with_regions m k more) → read_as m k more ≡ with_regions m k more
  fields_again m k more good =
      let s1 = first_again m k more good in
      let s2 = last_again m k more good in
      let s3 = rows_again m k more good in
      let s4 = nodes_again m k more good in
      let s5 = area_again m k more good in
      λ i. record { mark = m; range = record { first = s1 i; last = s2 i }; rows = s3 i; nodes = s4 i; area = s5 i; regions = k; more = more }

  -- ---- over several regions

  module _ (k a b c d e f g : ℕ) where
    abbrev seven_more : List ℕ
    seven_more = a ∷ b ∷ c ∷ d ∷ e ∷ f ∷ g ∷ []

    module _ (good : IsGood region_len regions lead (with_regions mark.Three k seven_more)) where
      abbrev long : Header
      long = with_regions mark.Three k seven_more

      entry_again : (r : ℕ) (used others : Bool) → (if used then nat_lt r regions && others else (r == 0)) ≡ true → from_be_bytes w32 (to_be_bytes w32 r) ≡ r
      entry_again r used others h = from_be_bytes-to_be_bytes_4 r (small_entry regions r used others good.few h)

      spelled_long : header_at (bytes_of long) ≡ long
      unfolding header_at header_bytes
      spelled_long =
          let t = good.entries in
          let ea = entry_again a _ _ t.0 in
          let eb = entry_again b _ _ t.1.0 in
          let ec = entry_again c _ _ t.1.1.0 in
          let ed = entry_again d _ _ t.1.1.1.0 in
          let ee = entry_again e _ _ t.1.1.1.1.0 in
          let ef = entry_again f _ _ t.1.1.1.1.1.0 in
          let eg = entry_again g _ _ t.1.1.1.1.1.1.0 in
          (λ i. read_as mark.Three k (ea i ∷ eb i ∷ ec i ∷ ed i ∷ ee i ∷ ef i ∷ eg i ∷ [])) ∙ fields_again mark.Three k seven_more good

      tests_long : AllByRecursion (λ t. t.1 ≡ true) (header_tests region_len regions lead (bytes_of long) long)
      unfolding header_tests header_bytes
      tests_long =
          (refl, (t5 mark.Three k seven_more good, (t13 mark.Three k seven_more good, (t21 mark.Three k seven_more good, (t33 mark.Three k seven_more good, (good.lies.counted, (fits_least, good.entries)))))))
        where
          fits_least : (fits_in region_len k (area + 14 * nodes) && not (fits_in region_len (k - 1) (area + 14 * nodes)) && alike (area == 0) (rows == 0)) ≡ true
          fits_least = let least = good.least refl in rw (good.lies.lies, least, areas mark.Three k seven_more good) refl

      no_bad_long : bad_field region_len regions lead (bytes_of long) ≡ None
      unfolding bad_field
      no_bad_long = ap (λ h. first_bad (header_tests region_len regions lead (bytes_of long) h)) spelled_long ∙ none_bad (header_tests region_len regions lead (bytes_of long) long) tests_long

      read_long : read_again long
      read_long = header_good region_len regions lead (bytes_of long) refl no_bad_long ∙ ap (λ (h : Header). Ok (Some h)) spelled_long

  -- ---- in one region

  abbrev zeros : List ℕ
  zeros = 0 ∷ 0 ∷ 0 ∷ 0 ∷ 0 ∷ 0 ∷ 0 ∷ []

  all_zero : (m : Mark) (a b c d e f g : ℕ) → IsGood region_len regions lead (with_regions m 1 (a ∷ b ∷ c ∷ d ∷ e ∷ f ∷ g ∷ [])) → a ∷ b ∷ c ∷ d ∷ e ∷ f ∷ g ∷ [] ≡ zeros
  all_zero m a b c d e f g good =
      let t = good.entries in
      let za = eqb-true a 0 t.0 in
      let zb = eqb-true b 0 t.1.0 in
      let zc = eqb-true c 0 t.1.1.0 in
      let zd = eqb-true d 0 t.1.1.1.0 in
      let ze = eqb-true e 0 t.1.1.1.1.0 in
      let zf = eqb-true f 0 t.1.1.1.1.1.0 in
      let zg = eqb-true g 0 t.1.1.1.1.1.1.0 in
      λ i. za i ∷ zb i ∷ zc i ∷ zd i ∷ ze i ∷ zf i ∷ zg i ∷ []

  -- of the first format, or of the second
  abbrev older_mark : Bool → Mark
  older_mark true = mark.Two
  older_mark false = mark.One

  abbrev short : Bool → Header
  short two = with_regions (older_mark two) 1 zeros

  spelled_short : (two : Bool) → IsGood region_len regions lead (short two) → header_at (bytes_of (short two)) ≡ short two
  unfolding header_at header_bytes
  spelled_short true good = fields_again mark.Two 1 zeros good
  spelled_short false good = fields_again mark.One 1 zeros good

  fits_one : (m : Mark) (good : IsGood region_len regions lead (with_regions m 1 zeros)) → (fits_in region_len 1 (area + 14 * nodes) && alike (area == 0) (rows == 0)) ≡ true
  fits_one m good = and_true (fits_in region_len 1 (area + 14 * nodes)) (alike (area == 0) (rows == 0)) good.lies.lies (areas m 1 zeros good)

  tests_short : (two : Bool) → IsGood region_len regions lead (short two) → AllByRecursion (λ t. t.1 ≡ true) (header_tests region_len regions lead (bytes_of (short two)) (short two))
  unfolding header_tests header_bytes
  tests_short true good = (refl, (t5 mark.Two 1 zeros good, (t13 mark.Two 1 zeros good, (t21 mark.Two 1 zeros good, (t33 mark.Two 1 zeros good, (fits_one mark.Two good, tt))))))
  tests_short false good = (refl, (t5 mark.One 1 zeros good, (t13 mark.One 1 zeros good, (t21 mark.One 1 zeros good, (t33 mark.One 1 zeros good, (fits_one mark.One good, tt))))))

  no_bad_short : (two : Bool) → IsGood region_len regions lead (short two) → bad_field region_len regions lead (bytes_of (short two)) ≡ None
  unfolding bad_field
  no_bad_short two good =
      ap (λ h. first_bad (header_tests region_len regions lead (bytes_of (short two)) h)) (spelled_short two good) ∙ none_bad (header_tests region_len regions lead (bytes_of (short two)) (short two)) (tests_short two good)

  read_short : (two : Bool) → IsGood region_len regions lead (short two) → read_again (short two)
  read_short two good = header_good region_len regions lead (bytes_of (short two)) refl (no_bad_short two good) ∙ ap (λ (h : Header). Ok (Some h)) (spelled_short two good)

  -- ---- of any mark

  in_one : (two : Bool) (k : ℕ) (more : List ℕ) → Seven more → IsGood region_len regions lead (with_regions (older_mark two) k more) → k ≡ 1 → read_again (with_regions (older_mark two) k more)
  in_one two k more s good one =
      let lone : IsGood region_len regions lead (with_regions (older_mark two) 1 (s.a ∷ s.b ∷ s.c ∷ s.d ∷ s.e ∷ s.f ∷ s.g ∷ [])) = subst (λ xs. IsGood region_len regions lead (with_regions (older_mark two) 1 xs)) s.are (subst (λ n. IsGood region_len regions lead (with_regions (older_mark two) n more)) one good) in
      let none : more ≡ zeros = s.are ∙ all_zero (older_mark two) s.a s.b s.c s.d s.e s.f s.g lone in
      let is : IsGood region_len regions lead (short two) = subst (λ xs. IsGood region_len regions lead (with_regions (older_mark two) 1 xs)) none (subst (λ n. IsGood region_len regions lead (with_regions (older_mark two) n more)) one good) in
      subst (λ n. read_again (with_regions (older_mark two) n more)) (sym one) (subst (λ xs. read_again (with_regions (older_mark two) 1 xs)) (sym none) (read_short two is))

  read_any : (m : Mark) (k : ℕ) (more : List ℕ) → IsGood region_len regions lead (with_regions m k more) → read_again (with_regions m k more)
  read_any mark.One k more good = in_one false k more (seven more good.lies.listed) good (eqb-true k 1 good.lies.counted)
  read_any mark.Two k more good = in_one true k more (seven more good.lies.listed) good (eqb-true k 1 good.lies.counted)
  read_any mark.Three k more good =
      let s = seven more good.lies.listed in
      subst (λ xs. read_again (with_regions mark.Three k xs)) (sym s.are)
      (read_long k s.a s.b s.c s.d s.e s.f s.g (subst (λ xs. IsGood region_len regions lead (with_regions mark.Three k xs)) s.are good))

pub written_header : WrittenHeaderLaw
written_header region_len regions lead header rest good =
    read_any region_len regions lead header.range.first header.range.last header.rows header.nodes header.area rest header.mark header.regions header.more good

pub written_partition : WrittenPartitionLaw
written_partition region_len image lead header rows h =
    let front = h.front in
    record {
      header = header;
      has_header = ap (header_in region_len (length image) lead) front.1 ∙ written_header region_len (length image) lead header front.0 h.good;
      of_range = refl;
      of_rows = h.of_rows;
      rows_fit = h.rows_fit;
      ordered = h.ordered;
      spelled = h.spelled;
    }
