-- What the parts behind a merge are made of, by the bytes of an earlier moment.
use Rattle.std.proofs.Common.{◌≡◌, ◌⊎◌, ◌∙◌, inl, inr, ℕ, List, [], ◌∷◌, ◌++◌, map, refl, sym, ap, subst, arith, append_assoc}
use Rattle.std.specs.Prelude.{Contains, flat_map}
use Rattle.std.specs.List.{AllByRecursion}
use Rattle.std.proofs.lemmas.Grind.{flat_map-append}
use Rattle.std.proofs.lemmas.List.{map-append}
use Rattle.std.proofs.lemmas.List.Elements.{Contains-append_right}
use Rattle.fine_model.specs.declared.Part.{Part}
use Rattle.fine_model.specs.declared.Row.{Row}
use Rattle.fine_model.specs.Chain.{regions_of}
use Rattle.fine_model.specs.Regions.{Image, region_of}
use Rattle.fine_model.proofs.Chain.Owning.{own_law}
use Rattle.damage_laws.specs.Made.{AreMadeOf, IsMadeOf, Made, Source, at_entry, joined, one, sources}
use Rattle.damage_laws.specs.Places.{AreKeptOrGood, IsGood, IsKept, IsUnchanged}
use Rattle.damage_laws.proofs.Kept.{found_law}
use Rattle.damage_laws.proofs.Heads.{head_same, not_empty, tail_same}
use Rattle.damage_laws.proofs.MergedFinds.{kept_law}

-- ---- parts that stay

pub still_made : (region_len : ℕ) (entry first last : Image) (m : Made) (p : Part) → IsUnchanged region_len first last p → IsMadeOf region_len entry first m p → IsMadeOf region_len entry last m p
still_made region_len entry first last m p u made = record { each = λ id rows f. made.each id rows (found_law region_len first last p id rows u f) }

pub all_still : (region_len : ℕ) (entry first last : Image) (made : List (Made × Part)) → ((p : Part) → Contains (map (λ m. m.1) made) p → IsUnchanged region_len first last p) → AllByRecursion (λ m. IsMadeOf region_len entry first m.0 m.1) made
    → AllByRecursion (λ m. IsMadeOf region_len entry last m.0 m.1) made
all_still region_len entry first last [] same all = tt
all_still region_len entry first last (m ∷ made) same all = (
  still_made region_len entry first last m.0 m.1 (same m.1 (0, omega arith, refl)) all.0,
  all_still region_len entry first last made (λ p there. same p (Contains-append_right (m.1 ∷ []) (map (λ m. m.1) made) p there)) all.1,
)

-- one that was kept, or is in the grammar, is so still
still_good : (region_len : ℕ) (entry first last : Image) (parts : List Part) (p : Part) → IsUnchanged region_len first last p → IsKept region_len entry first parts p ⊎ IsGood region_len first p → IsKept region_len entry last parts p ⊎ IsGood region_len last p
still_good region_len entry first last parts p u (inl kept) = inl (record {
  there = kept.there;
  unchanged = record { header = kept.unchanged.header; same = record { as_many = u.same.as_many ∙ kept.unchanged.same.as_many; same = both (regions_of p) kept.unchanged.same.same u.same.same } };
})
  where
    both : (rs : List ℕ) → AllByRecursion (λ r. region_of first r ≡ region_of entry r) rs → AllByRecursion (λ r. region_of last r ≡ region_of first r) rs → AllByRecursion (λ r. region_of last r ≡ region_of entry r) rs
    both [] a b = tt
    both (r ∷ rs) a b = (b.0 ∙ a.0, both rs a.1 b.1)
still_good region_len entry first last parts p u (inr good) =
    let alike = own_law region_len first last p u.same u.header in inr (record { header = alike.header good.header; rows = good.rows; sealed = alike.rows good.rows good.sealed })

pub all_good : (region_len : ℕ) (entry first last : Image) (parts present : List Part) → ((p : Part) → Contains present p → IsUnchanged region_len first last p) → AreKeptOrGood region_len entry first parts present
    → AreKeptOrGood region_len entry last parts present
all_good region_len entry first last parts [] same all = tt
all_good region_len entry first last parts (p ∷ present) same all = (
  still_good region_len entry first last parts p (same p (0, omega arith, refl)) all.0,
  all_good region_len entry first last parts present (λ q there. same q (Contains-append_right (p ∷ []) present q there)) all.1,
)

-- two neighbours are one part that is in the grammar, and the others have the bytes that they had
pub merge_good : (region_len : ℕ) (entry first last : Image) (parts before : List Part) (older newer p : Part) (after : List Part) → ((q : Part) → Contains before q → IsUnchanged region_len first last q)
    → ((q : Part) → Contains after q → IsUnchanged region_len first last q) → IsGood region_len last p → AreKeptOrGood region_len entry first parts (before ++ older ∷ newer ∷ after) → AreKeptOrGood region_len entry last parts (before ++ p ∷ after)
merge_good region_len entry first last parts [] older newer p after of_before of_after good all = (inr good, all_good region_len entry first last parts after of_after all.1.1)
merge_good region_len entry first last parts (q ∷ before) older newer p after of_before of_after good all = (
  still_good region_len entry first last parts q (of_before q (0, omega arith, refl)) all.0,
  merge_good region_len entry first last parts before older newer p after (λ r there. of_before r (Contains-append_right (q ∷ []) before r there)) of_after good all.1,
)

-- one part more, which is in the grammar
pub seal_good : (region_len : ℕ) (entry last : Image) (parts present : List Part) (p : Part) → IsGood region_len last p → AreKeptOrGood region_len entry last parts present → AreKeptOrGood region_len entry last parts (present ++ p ∷ [])
seal_good region_len entry last parts [] p good all = (inr good, tt)
seal_good region_len entry last parts (q ∷ present) p good all = (all.0, seal_good region_len entry last parts present p good all.1)

-- ---- two that were merged

-- a list of parts with what they are made of, cut in front of two neighbours
record IsCut (made : List (Made × Part)) (before : List Part) (older newer : Part) (after : List Part) : Type 0 where
  front : List (Made × Part)
  a : Made
  b : Made
  back : List (Made × Part)
  whole : made ≡ front ++ (a, older) ∷ (b, newer) ∷ back
  of_front : map (λ m. m.1) front ≡ before
  of_back : map (λ m. m.1) back ≡ after

cut_at : (before : List Part) (older newer : Part) (after : List Part) (made : List (Made × Part)) → map (λ m. m.1) made ≡ before ++ older ∷ newer ∷ after → IsCut made before older newer after
cut_at [] older newer after [] is = absurd (not_empty older (newer ∷ after) (sym is))
cut_at [] older newer after (a ∷ []) is = absurd (not_empty newer after (sym (tail_same a.1 older [] (newer ∷ after) is)))
cut_at [] older newer after (a ∷ b ∷ back) is =
    let first : a.1 ≡ older = head_same a.1 older (b.1 ∷ map (λ m. m.1) back) (newer ∷ after) is in
    let rest = tail_same a.1 older (b.1 ∷ map (λ m. m.1) back) (newer ∷ after) is in
    let second : b.1 ≡ newer = head_same b.1 newer (map (λ m. m.1) back) after rest in
    record { front = []; a = a.0; b = b.0; back = back; whole = λ i. (a.0, first i) ∷ (b.0, second i) ∷ back; of_front = refl; of_back = tail_same b.1 newer (map (λ m. m.1) back) after rest }
cut_at (p ∷ before) older newer after [] is = absurd (not_empty p (before ++ older ∷ newer ∷ after) (sym is))
cut_at (p ∷ before) older newer after (m ∷ made) is =
    let c = cut_at before older newer after made (tail_same m.1 p (map (λ m. m.1) made) (before ++ older ∷ newer ∷ after) is) in
    let first : m.1 ≡ p = head_same m.1 p (map (λ m. m.1) made) (before ++ older ∷ newer ∷ after) is in
    record { front = m ∷ c.front; a = c.a; b = c.b; back = c.back; whole = ap (λ xs. m ∷ xs) c.whole; of_front = λ i. first i ∷ c.of_front i; of_back = c.of_back }

-- Two neighbours are one part, and the others have the bytes that they had.
pub merge_made : (region_len : ℕ) (entry first last : Image) (parts : List Part) (sealed : List (List Row)) (before : List Part) (older newer p : Part) (after : List Part)
    → ((q : Part) → Contains before q → IsUnchanged region_len first last q) → ((q : Part) → Contains after q → IsUnchanged region_len first last q)
    → ((a b : Made) → IsMadeOf region_len entry first a older → IsMadeOf region_len entry first b newer → IsMadeOf region_len entry last (joined a b) p)
    → AreMadeOf region_len entry first parts sealed (before ++ older ∷ newer ∷ after) → AreMadeOf region_len entry last parts sealed (before ++ p ∷ after)
merge_made region_len entry first last parts sealed before older newer p after of_before of_after both_made am = record {
  made = now;
  are = sym (map-append (λ (m : Made × Part). m.1) c.front ((joined c.a c.b, p) ∷ c.back) ∙ (λ i. c.of_front i ++ p ∷ c.of_back i));
  of_all = flat_map-append Of c.front ((joined c.a c.b, p) ∷ c.back) ∙ ap (λ xs. flat_map Of c.front ++ xs) (append_assoc (sources c.a) (sources c.b) (flat_map Of c.back)) ∙ sym (flat_map-append Of c.front ((c.a, older) ∷ (c.b, newer) ∷ c.back))
      ∙ sym (ap (flat_map Of) c.whole) ∙ am.of_all;
  each = both c.front ((joined c.a c.b, p) ∷ c.back) (all_still region_len entry first last c.front (λ q there. of_before q (subst (λ ps. Contains ps q) c.of_front there)) s.0)
      (both_made c.a c.b s.1.0 s.1.1.0, all_still region_len entry first last c.back (λ q there. of_after q (subst (λ ps. Contains ps q) c.of_back there)) s.1.1.1);
}
  where
    c : IsCut am.made before older newer after
    c = cut_at before older newer after am.made (sym am.are)

    now : List (Made × Part)
    now = c.front ++ (joined c.a c.b, p) ∷ c.back

    Of : Made × Part → List Source
    Of m = sources m.0

    both : (xs ys : List (Made × Part)) → AllByRecursion (λ m. IsMadeOf region_len entry last m.0 m.1) xs → AllByRecursion (λ m. IsMadeOf region_len entry last m.0 m.1) ys → AllByRecursion (λ m. IsMadeOf region_len entry last m.0 m.1) (xs ++ ys)
    both [] ys a b = b
    both (x ∷ xs) ys a b = (a.0, both xs ys a.1 b)

    split : (xs ys : List (Made × Part)) → AllByRecursion (λ m. IsMadeOf region_len entry first m.0 m.1) (xs ++ ys) → AllByRecursion (λ m. IsMadeOf region_len entry first m.0 m.1) xs × AllByRecursion (λ m. IsMadeOf region_len entry first m.0 m.1) ys
    split [] ys all = (tt, all)
    split (x ∷ xs) ys all = let r = split xs ys all.1 in ((all.0, r.0), r.1)

    s : AllByRecursion (λ m. IsMadeOf region_len entry first m.0 m.1) c.front × AllByRecursion (λ m. IsMadeOf region_len entry first m.0 m.1) ((c.a, older) ∷ (c.b, newer) ∷ c.back)
    s = split c.front ((c.a, older) ∷ (c.b, newer) ∷ c.back) (subst (AllByRecursion (λ m. IsMadeOf region_len entry first m.0 m.1)) c.whole am.each)

-- no merge
pub none_made : (region_len : ℕ) (entry first last : Image) (parts : List Part) (sealed : List (List Row)) (present : List Part) → ((q : Part) → Contains present q → IsUnchanged region_len first last q)
    → AreMadeOf region_len entry first parts sealed present → AreMadeOf region_len entry last parts sealed present
none_made region_len entry first last parts sealed present same am =
    record { made = am.made; are = am.are; of_all = am.of_all; each = all_still region_len entry first last am.made (λ q there. same q (subst (λ ps. Contains ps q) (sym am.are) there)) am.each }

-- ---- parts at entry

pub entry_made : (region_len : ℕ) (entry now : Image) (parts : List Part) → ((p : Part) → Contains parts p → IsMadeOf region_len entry now (one (at_entry p)) p) → AreMadeOf region_len entry now parts [] parts
entry_made region_len entry now parts own = record { made = map (λ (p : Part). (one (at_entry p), p)) parts; are = names parts; of_all = all parts; each = each parts own }
  where
    names : (ps : List Part) → ps ≡ map (λ (m : Made × Part). m.1) (map (λ (p : Part). (one (at_entry p), p)) ps)
    names [] = refl
    names (p ∷ ps) = ap (λ xs. p ∷ xs) (names ps)

    all : (ps : List Part) → flat_map (λ (m : Made × Part). sources m.0) (map (λ (p : Part). (one (at_entry p), p)) ps) ≡ map at_entry ps ++ []
    all [] = refl
    all (p ∷ ps) = ap (λ xs. at_entry p ∷ xs) (all ps)

    each : (ps : List Part) → ((p : Part) → Contains ps p → IsMadeOf region_len entry now (one (at_entry p)) p) → AllByRecursion (λ (m : Made × Part). IsMadeOf region_len entry now m.0 m.1) (map (λ (p : Part). (one (at_entry p), p)) ps)
    each [] own = tt
    each (p ∷ ps) own = (own p (0, omega arith, refl), each ps (λ q there. own q (Contains-append_right (p ∷ []) ps q there)))

pub own_made : (region_len : ℕ) (entry : Image) (parts : List Part) → ((p : Part) → Contains parts p → IsUnchanged region_len entry entry p) → AreMadeOf region_len entry entry parts [] parts
own_made region_len entry parts same = entry_made region_len entry entry parts (λ p there. kept_law region_len entry entry p (same p there))
