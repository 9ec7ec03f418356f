-- A change behind the closed gates of free regions.
use Rattle.std.proofs.Common.{◌≡◌, ◌≢◌, ◌⊎◌, inl, inr, ℕ, suc, ◌+◌, nat_eq, true, false, ◌&&◌, ◌||◌, not, List, [], ◌∷◌, length, refl, sym, ap, ◌∙◌, subst, Some, None, Ok, Err, arith, true≢false}
use Rattle.std.specs.Prelude.{Option, Result, filter, take}
use Rattle.std.specs.List.{AllByRecursion, list_any, range_with_len}
use Rattle.std.proofs.lemmas.Bool.{cases_eq, cases_Bool}
use Rattle.std.proofs.lemmas.List.Elements.{filter_agree}
use Rattle.fine_model.specs.Types.{Row, Range, Header, Part}
use Rattle.fine_model.specs.Pushed.{and_then}
use Rattle.fine_model.specs.Regions.{Image, region_of, is_sealed, continuations, header_at, header_in, HasHeader, IsSealed}
use Rattle.fine_model.specs.Chain.{parts_from, apart, chain_of, chain, regions_of, is_free, free_regions, AreRowsOf, Shows}
use Rattle.fine_model.specs.ChainLaws.{ShowsAlike, ClosedLaw, BehindLaw, HasAlike, part_of}
use Rattle.fine_model.proofs.Ordered.Order.{all_map}
use Rattle.fine_model.proofs.Ordered.Nothing.{each_there, all_at}
use Rattle.fine_model.proofs.Chain.Headers.{header_closed}
use Rattle.fine_model.proofs.Chain.Images.{parts_none, parts_bad, parts_good, names}
use Rattle.fine_model.proofs.Chain.Free.{free_parts, free_law}
use Rattle.fine_model.proofs.Chain.Owning.{own_law}

-- two regions hold the same, or are both closed
abbrev Alike : List ℕ → List ℕ → Type 0
Alike x y = (y ≡ x) ⊎ ((is_sealed x ≡ false) × (is_sealed y ≡ false))

-- images of alike regions have the same parts
module _ (region_len regions : ℕ) where
  rest_alike : (k : ℕ) (x : List ℕ) (xs ys : Image) → parts_from region_len regions (k + 1) ys ≡ parts_from region_len regions (k + 1) xs
      → (r : Result (Option Header) ℕ) → header_in region_len regions k x ≡ r → parts_from region_len regions k (x ∷ ys) ≡ parts_from region_len regions k (x ∷ xs)
  rest_alike k x xs ys rest (Err at) e = parts_bad region_len regions k at x ys e ∙ sym (parts_bad region_len regions k at x xs e)
  rest_alike k x xs ys rest (Ok None) e = parts_none region_len regions k x ys e ∙ rest ∙ sym (parts_none region_len regions k x xs e)
  rest_alike k x xs ys rest (Ok (Some h)) e =
      parts_good region_len regions k x h ys e ∙ ap (λ r. and_then r (λ parts. Ok (part_of k h ∷ parts))) rest ∙ sym (parts_good region_len regions k x h xs e)

  parts_alike : (k : ℕ) (old new : Image) → length new ≡ length old → ((i : ℕ) → Alike (region_of old i) (region_of new i)) → parts_from region_len regions k new ≡ parts_from region_len regions k old
  parts_alike k [] [] long each = refl
  parts_alike k [] (y ∷ ys) long each = absurd (omega (arith, long))
  parts_alike k (x ∷ xs) [] long each = absurd (omega (arith, long))
  parts_alike k (x ∷ xs) (y ∷ ys) long each = by (each 0) (parts_alike (k + 1) xs ys (omega (arith, long)) (λ i. each (suc i)))
    where
      by : Alike x y → parts_from region_len regions (k + 1) ys ≡ parts_from region_len regions (k + 1) xs → parts_from region_len regions k (y ∷ ys) ≡ parts_from region_len regions k (x ∷ xs)
      by (inl same) rest = ap (λ z. parts_from region_len regions k (z ∷ ys)) same ∙ rest_alike k x xs ys rest (header_in region_len regions k x) refl
      by (inr closed) rest =
          parts_none region_len regions k y ys (header_closed region_len regions k y closed.1) ∙ rest ∙ sym (parts_none region_len regions k x xs (header_closed region_len regions k x closed.0))

named_alike : (r : ℕ) (old new : Image) → length new ≡ length old → ((i : ℕ) → Alike (region_of old i) (region_of new i)) → list_any (names r) new ≡ list_any (names r) old
named_alike r [] [] long each = refl
named_alike r [] (y ∷ ys) long each = absurd (omega (arith, long))
named_alike r (x ∷ xs) [] long each = absurd (omega (arith, long))
named_alike r (x ∷ xs) (y ∷ ys) long each =
    ap (λ b. b || list_any (names r) ys) (by (each 0)) ∙ ap (λ b. names r x || b) (named_alike r xs ys (omega (arith, long)) (λ i. each (suc i)))
  where
    by : Alike x y → names r y ≡ names r x
    by (inl same) = ap (names r) same
    by (inr closed) =
        ap (λ b. b && list_any (nat_eq r) (continuations (header_at y))) closed.1 ∙ sym (ap (λ b. b && list_any (nat_eq r) (continuations (header_at x))) closed.0)

-- each region holds the same, or was free and is closed
record Behind (old new : Image) : Type 0 where
  as_many : length new ≡ length old
  each : (r : ℕ) → (region_of new r ≡ region_of old r) ⊎ ((is_free old r ≡ true) × (is_sealed (region_of new r) ≡ false))

module _ (region_len : ℕ) (old new : Image) (behind : Behind old new) where
  each_alike : (r : ℕ) → Alike (region_of old r) (region_of new r)
  each_alike r = by (behind.each r)
    where
      by : (region_of new r ≡ region_of old r) ⊎ ((is_free old r ≡ true) × (is_sealed (region_of new r) ≡ false)) → Alike (region_of old r) (region_of new r)
      by (inl same) = inl same
      by (inr free) = inr ((free_parts old r free.0).0, free.1)

  same_chain : chain region_len new ≡ chain region_len old
  unfolding chain
  same_chain =
      ap (λ n. and_then (and_then (parts_from region_len n 0 new) apart) chain_of) behind.as_many
      ∙ ap (λ r. and_then (and_then r apart) chain_of) (parts_alike region_len (length old) 0 old new behind.as_many each_alike)

  same_gate : (r : ℕ) → is_sealed (region_of new r) ≡ is_sealed (region_of old r)
  same_gate r = by (each_alike r)
    where
      by : Alike (region_of old r) (region_of new r) → is_sealed (region_of new r) ≡ is_sealed (region_of old r)
      by (inl same) = ap is_sealed same
      by (inr closed) = closed.1 ∙ sym closed.0

  same_free : (r : ℕ) → is_free new r ≡ is_free old r
  unfolding is_free
  same_free r =
      ap (λ b. not b && not (list_any (names r) new)) (same_gate r) ∙ ap (λ b. not (is_sealed (region_of old r)) && not b) (named_alike r old new behind.as_many each_alike)

  same_regions : free_regions new ≡ free_regions old
  same_regions =
      ap (λ n. filter (is_free new) (range_with_len 0 n)) behind.as_many ∙ filter_agree (is_free new) (is_free old) same_free (range_with_len 0 (length old))

  -- a partition's regions hold the same
  same_in : (lead : ℕ) (header : Header) → HasHeader region_len old lead header → (rs : List ℕ) → AllByRecursion (λ r. list_any (nat_eq r) (regions_of (part_of lead header)) ≡ true) rs
      → AllByRecursion (λ r. region_of new r ≡ region_of old r) rs
  same_in lead header has [] there = tt
  same_in lead header has (r ∷ rs) there = (by (behind.each r), same_in lead header has rs there.1)
    where
      by : (region_of new r ≡ region_of old r) ⊎ ((is_free old r ≡ true) × (is_sealed (region_of new r) ≡ false)) → region_of new r ≡ region_of old r
      by (inl same) = same
      by (inr free) = absurd (true≢false (sym there.0 ∙ free_law region_len old r lead header free.0 has))

  has_alike : (lead : ℕ) (header : Header) → HasHeader region_len old lead header → HasAlike region_len old new (part_of lead header)
  has_alike lead header has =
      own_law region_len old new (part_of lead header) (record { as_many = behind.as_many; same = same_in lead header has (regions_of (part_of lead header)) (each_there (regions_of (part_of lead header))) }) has

  header_kept : (lead : ℕ) (header : Header) → HasHeader region_len old lead header → HasHeader region_len new lead header
  header_kept lead header has = let h = has_alike lead header has in h.header has

  sealed_kept : (lead : ℕ) (range : Range) (rows : List Row) → IsSealed region_len old lead range rows → IsSealed region_len new lead range rows
  sealed_kept lead range rows s =
      let h = has_alike lead s.header s.has_header in
      subst (λ g. IsSealed region_len new lead g rows) s.of_range (h.rows rows (subst (λ g. IsSealed region_len old lead g rows) (sym s.of_range) s))

  rows_kept : (parts : List Part) (rows : List Row) → AreRowsOf region_len old parts rows → AreRowsOf region_len new parts rows
  unfolding AreRowsOf
  rows_kept [] rows are = are
  rows_kept (p ∷ parts) rows are = (are.0, are.1, are.2, sealed_kept p.region p.header.range are.0 are.3, rows_kept parts are.1 are.4)

  shown : (e : ℕ) (rows : List Row) → Shows region_len old e rows → Shows region_len new e rows
  shown e rows s = record { parts = s.parts; is_chain = same_chain ∙ s.is_chain; ends = s.ends; are_rows = rows_kept s.parts rows s.are_rows }

  alike : ShowsAlike region_len old new
  alike = record {
    same_chain = same_chain;
    same_free = same_free;
    same_regions = same_regions;
    headers = header_kept;
    leads = sealed_kept;
    rows = rows_kept;
    shown = shown;
    retired = λ parts others r. record {
      is_chain = same_chain ∙ r.is_chain;
      headers = all_map (λ p. HasHeader region_len old p.region p.header) (λ p. HasHeader region_len new p.region p.header) (λ p has. header_kept p.region p.header has) others r.headers;
      beside = r.beside;
    };
  }

-- ---- one region

pub closed_law : ClosedLaw
closed_law region_len region old new stays = let d = stays.differs in alike region_len old new (record { as_many = d.as_many; each = λ r. by r (cases_eq r region) })
  where
    by : (r : ℕ) → (r ≡ region) ⊎ (r ≢ region) → (region_of new r ≡ region_of old r) ⊎ ((is_free old r ≡ true) × (is_sealed (region_of new r) ≡ false))
    by r (inl e) = inr (subst (λ k. (is_free old k ≡ true) × (is_sealed (region_of new k) ≡ false)) (sym e) (stays.free, stays.closed))
    by r (inr other) = let d = stays.differs in inl (d.others r other)

-- ---- several regions

-- the first byte tells whether a region is sealed
same_first : (x y : List ℕ) → take 1 y ≡ take 1 x → is_sealed y ≡ is_sealed x
same_first [] [] same = refl
same_first [] (b ∷ y) same = absurd (cc)
same_first (a ∷ x) [] same = absurd (cc)
same_first (a ∷ x) (b ∷ y) same = let e : b ≡ a = cc in ap (λ n. is_sealed (n ∷ [])) e

pub behind_law : BehindLaw
behind_law region_len regions old new differs free = alike region_len old new (record { as_many = differs.as_many; each = λ r. by r (cases_Bool (list_any (nat_eq r) regions)) })
  where
    by : (r : ℕ) → (list_any (nat_eq r) regions ≡ true) ⊎ (list_any (nat_eq r) regions ≡ false) → (region_of new r ≡ region_of old r) ⊎ ((is_free old r ≡ true) × (is_sealed (region_of new r) ≡ false))
    by r (inl there) =
        let f = all_at (λ r. is_free old r ≡ true) r regions free there in inr (f, same_first (region_of old r) (region_of new r) (differs.gates r) ∙ (free_parts old r f).0)
    by r (inr other) = inl (differs.others r other)
