-- A free region that becomes the lead of a partition whose regions were all free.
use Rattle.std.proofs.Common.{◌≡◌, ◌≢◌, ◌⊎◌, inl, inr, ℕ, ◌≤◌, ◌==◌, nat_eq, nat_lt, Bool, true, false, not, ◌&&◌, ◌||◌, List, [], ◌∷◌, ◌++◌, length, refl, sym, ap, ◌∙◌, subst, None, Ok, arith, eq-eqb, eqb-true, ne_eqb, true≢false}
use Rattle.std.specs.Prelude.{filter}
use Rattle.std.specs.List.{AllByRecursion, list_any, range_with_len}
use Rattle.std.proofs.lemmas.Bool.{cases_eq, and_right, or_parts, false_from_ne_true, le-ltb}
use Rattle.std.proofs.lemmas.List.Elements.{filter_agree}
use Rattle.std.proofs.lemmas.List.Folds.{list_any-append}
use Rattle.fine_model.specs.Types.{Header, Part}
use Rattle.fine_model.specs.Regions.{Image, region_of, is_sealed, continuations, header_at, header_in, HasHeader}
use Rattle.fine_model.specs.Chain.{regions_of, parts_from, is_taken_from, bad_continuation, chain, is_free, free_regions}
use Rattle.fine_model.specs.ChainLaws.{DiffersAt, AreRetired, part_of}
use Rattle.fine_model.proofs.Ordered.Order.{all_map}
use Rattle.fine_model.proofs.Ordered.Parts.{all_both}
use Rattle.fine_model.proofs.Ordered.Nothing.{any_none, none_any}
use Rattle.fine_model.proofs.Ordered.Times.{times-same, times_absent}
use Rattle.fine_model.proofs.Chain.Headers.{Good, good, own_regions}
use Rattle.fine_model.proofs.Chain.Images.{Split, split, before_is, after_is, OneMore, parts_sealed, names}
use Rattle.fine_model.proofs.Chain.Free.{free_parts, sealed_there, free_law, header_kept}
use Rattle.fine_model.proofs.Chain.Chains.{Walked}
use Rattle.fine_model.proofs.Chain.ReadChain.{ReadChain, read_chain, chain_read, have_headers, header_ordered, own, none_bad}
use Rattle.fine_model.proofs.Chain.Sealing.{any_without, filter_twice, round}

pub record IsOpened (region_len region : ℕ) (old new : Image) (header : Header) : Type 0 where
  pub differs : DiffersAt region old new
  pub free : AllByRecursion (λ r. is_free old r ≡ true) (regions_of (part_of region header))
  pub has_header : HasHeader region_len new region header

-- the parts of the old image with the new part among them; a walk over them gives the new image's chain
pub record Inserted (region_len region : ℕ) (old new : Image) (header : Header) (parts : List Part) : Type 0 where
  pub left : List Part
  pub right : List Part
  pub ordered : AllByRecursion (λ q. q.header.range.first ≤ q.header.range.last) (left ++ right)
  pub walk : Walked (left ++ right) parts
  pub now : (longer : List Part) → Walked (left ++ part_of region header ∷ right) longer → chain region_len new ≡ Ok longer

turned : (a b : ℕ) → nat_eq a b ≡ false → nat_eq b a ≡ false
turned a b h = false_from_ne_true (nat_eq b a) (λ e. true≢false (sym (eq-eqb a b (sym (eqb-true b a e))) ∙ h))

-- numbers none of which is among others, the other way round
none_of : (ys xs : List ℕ) → AllByRecursion (λ x. list_any (nat_eq x) ys ≡ false) xs → AllByRecursion (λ y. list_any (nat_eq y) xs ≡ false) ys
none_of [] xs all = tt
none_of (y ∷ ys) xs all = (
  none_any (nat_eq y) xs (all_map (λ x. list_any (nat_eq x) (y ∷ ys) ≡ false) (λ x. nat_eq y x ≡ false) (λ x h. turned x y (or_parts (nat_eq x y) (list_any (nat_eq x) ys) h).0) xs all),
  none_of ys xs (all_map (λ x. list_any (nat_eq x) (y ∷ ys) ≡ false) (λ x. list_any (nat_eq x) ys ≡ false) (λ x h. (or_parts (nat_eq x y) (list_any (nat_eq x) ys) h).1) xs all),
)

module _ (region_len region : ℕ) (old new : Image) (header : Header) (s : IsOpened region_len region old new header) where
  abbrev part : Part
  part = part_of region header

  pub is_good : Good region_len (length new) region (region_of new region) header
  is_good = good region_len (length new) region (region_of new region) header s.has_header

  pub lead_free : is_free old region ≡ true
  lead_free = let f = s.free in f.0

  more_free : AllByRecursion (λ r. is_free old r ≡ true) (continuations header)
  more_free = let f = s.free in f.1

  -- the lead is none of the continuations
  lead_apart : AllByRecursion (λ r. nat_eq region r ≡ false) (continuations header)
  lead_apart =
      let o = own_regions region_len (length new) region (region_of new region) header is_good in let once = o.once region in let same = times-same region (continuations header) in
      any_none (nat_eq region) (continuations header) (times_absent region (continuations header) (omega (arith, once, same)))

  -- none of them is a region of a partition that was there
  none_there : (q : Part) → HasHeader region_len old q.region q.header → AllByRecursion (λ r. list_any (nat_eq r) (continuations q.header) ≡ false) (continuations header)
  none_there q has =
      all_map (λ r. is_free old r ≡ true) (λ r. list_any (nat_eq r) (continuations q.header) ≡ false)
      (λ r free. (or_parts (nat_eq r q.region) (list_any (nat_eq r) (continuations q.header)) (free_law region_len old r q.region q.header free has)).1) (continuations header) more_free

  was_closed : is_sealed (region_of old region) ≡ false
  was_closed = (free_parts old region lead_free).0

  pub round_region : Split region old new
  round_region =
      let d = s.differs in let g = is_good in let m = d.as_many in let t = sealed_there new region g.is_open in
      split region old new m d.others (omega (arith, t, m))

  -- ---- free regions

  names_them : (r : ℕ) (bytes : List ℕ) → region_of new region ≡ bytes → names r bytes ≡ list_any (nat_eq r) (continuations header)
  names_them r bytes is =
      let g = is_good in
      ap (λ b. b && list_any (nat_eq r) (continuations (header_at bytes))) (ap is_sealed (sym is) ∙ g.is_open)
      ∙ ap (λ b. list_any (nat_eq r) (continuations (header_at b))) (sym is) ∙ ap (λ h. list_any (nat_eq r) (continuations h)) g.read

  now_named : (i : Split region old new) (r : ℕ) → list_any (names r) new ≡ (list_any (names r) old || list_any (nat_eq r) (continuations header))
  now_named i r =
      ap (list_any (names r)) i.new_is
      ∙ list_any-append (names r) i.front (i.after ∷ i.back)
      ∙ ap (λ b. list_any (names r) i.front || (b || list_any (names r) i.back)) (names_them r i.after (after_is region old new i))
      ∙ joined (list_any (names r) i.front) (list_any (names r) i.back) (list_any (nat_eq r) (continuations header))
      ∙ ap (λ b. (list_any (names r) i.front || (b || list_any (names r) i.back)) || list_any (nat_eq r) (continuations header)) (sym was_none)
      ∙ ap (λ b. b || list_any (nat_eq r) (continuations header)) (sym (list_any-append (names r) i.front (i.before ∷ i.back)) ∙ ap (list_any (names r)) (sym i.old_is))
    where
      joined : (x y z : Bool) → (x || (z || y)) ≡ ((x || (false || y)) || z)
      joined true y z = refl
      joined false true true = refl
      joined false true false = refl
      joined false false true = refl
      joined false false false = refl

      was_none : names r i.before ≡ false
      was_none = ap (λ b. b && list_any (nat_eq r) (continuations (header_at i.before))) (ap is_sealed (sym (before_is region old new i)) ∙ was_closed)

  pub free_now : (r : ℕ) → (r ≡ region) ⊎ (r ≢ region) → is_free new r ≡ (is_free old r && not (list_any (nat_eq r) (region ∷ continuations header)))
  unfolding is_free
  free_now r (inl e) =
      let g = is_good in
      ap (λ b. not b && not (list_any (names r) new)) (ap (λ k. is_sealed (region_of new k)) e ∙ g.is_open)
      ∙ sym (and_right (is_free old r) (not (list_any (nat_eq r) (region ∷ continuations header))) (ap (λ b. not (b || list_any (nat_eq r) (continuations header))) (eq-eqb r region e)))
  free_now r (inr other) =
      let d = s.differs in
      ap (λ b. not b && not (list_any (names r) new)) (ap is_sealed (d.others r other)) ∙ ap (λ b. not (is_sealed (region_of old r)) && not b) (now_named round_region r)
      ∙ spread (is_sealed (region_of old r)) (list_any (names r) old) (list_any (nat_eq r) (continuations header))
      ∙ ap (λ b. is_free old r && not (b || list_any (nat_eq r) (continuations header))) (sym (ne_eqb r region other))
    where
      spread : (x y z : Bool) → (not x && not (y || z)) ≡ ((not x && not y) && not (false || z))
      spread true y z = refl
      spread false true z = refl
      spread false false z = refl

  pub left_now : free_regions new ≡ filter (λ r. not (list_any (nat_eq r) (region ∷ continuations header))) (free_regions old)
  left_now =
      let d = s.differs in
      ap (λ n. filter (is_free new) (range_with_len 0 n)) d.as_many
      ∙ filter_agree (is_free new) (λ r. is_free old r && not (list_any (nat_eq r) (region ∷ continuations header))) (λ r. free_now r (cases_eq r region)) (range_with_len 0 (length old))
      ∙ filter_twice (is_free old) (λ r. not (list_any (nat_eq r) (region ∷ continuations header))) (range_with_len 0 (length old))

  -- ---- the chain

  module _ (parts : List Part) (c : ReadChain region_len old parts) (i : Split region old new) (more : OneMore region_len (length old) 0 region i.front i.after i.back header c.all) where
    abbrev few : List Part
    few = more.left ++ more.right

    abbrev all : List Part
    all = more.left ++ part ∷ more.right

    now : parts_from region_len (length new) 0 new ≡ Ok all
    now =
        let d = s.differs in
        ap (λ n. parts_from region_len n 0 new) d.as_many ∙ ap (parts_from region_len (length old) 0) i.new_is ∙ more.are

    headers : AllByRecursion (λ q. HasHeader region_len old q.region q.header) few
    headers = subst (AllByRecursion (λ q. HasHeader region_len old q.region q.header)) more.were (have_headers region_len old c.all c.are)

    -- the continuations of the others are taken from no part
    still_own : (q : Part) → HasHeader region_len old q.region q.header → bad_continuation few q ≡ None → bad_continuation all q ≡ None
    still_own q has none =
        none_bad all q
        (all_both (λ r. is_taken_from few q r ≡ false) (λ r. (nat_eq region r ≡ false) × (list_any (nat_eq r) (continuations header) ≡ false)) (λ r. is_taken_from all q r ≡ false)
        (λ r was clear. untouched r clear.0 clear.1 ∙ was) (continuations q.header)
        (own few q none)
        (all_both (λ r. nat_eq region r ≡ false) (λ r. list_any (nat_eq r) (continuations header) ≡ false) (λ r. (nat_eq region r ≡ false) × (list_any (nat_eq r) (continuations header) ≡ false))
        (λ r lead more. (lead, more)) (continuations q.header)
        (any_none (nat_eq region) (continuations q.header) (or_parts (nat_eq region q.region) (list_any (nat_eq region) (continuations q.header)) (free_law region_len old region q.region q.header lead_free has)).1)
        (none_of (continuations q.header) (continuations header) (none_there q has))))
      where
        untouched : (r : ℕ) → nat_eq region r ≡ false → list_any (nat_eq r) (continuations header) ≡ false → is_taken_from all q r ≡ is_taken_from few q r
        untouched r other none_more =
            ap (λ b. b || list_any (λ p. nat_lt p.region q.region && list_any (nat_eq r) (continuations p.header)) all) (any_without (λ p. p.region == r) more.left part more.right other)
            ∙ ap (λ b. list_any (λ p. p.region == r) few || b)
            (any_without (λ p. nat_lt p.region q.region && list_any (nat_eq r) (continuations p.header)) more.left part more.right
            (and_right (nat_lt region q.region) (list_any (nat_eq r) (continuations header)) none_more))

    -- and so are those of the new part
    own_free : (r : ℕ) → is_free old r ≡ true → nat_eq region r ≡ false → is_taken_from all part r ≡ false
    own_free r free other =
        ap (λ b. b || list_any (λ p. nat_lt p.region region && list_any (nat_eq r) (continuations p.header)) all)
        (any_without (λ p. p.region == r) more.left part more.right other
        ∙ none_any (λ p. p.region == r) few
        (all_map (λ q. HasHeader region_len old q.region q.header) (λ q. (q.region == r) ≡ false)
        (λ q has. turned r q.region (or_parts (nat_eq r q.region) (list_any (nat_eq r) (continuations q.header)) (free_law region_len old r q.region q.header free has)).0) few headers))
        ∙ any_without (λ p. nat_lt p.region region && list_any (nat_eq r) (continuations p.header)) more.left part more.right
        (ap (λ b. b && list_any (nat_eq r) (continuations header)) (le-ltb region region (omega arith)))
        ∙ none_any (λ p. nat_lt p.region region && list_any (nat_eq r) (continuations p.header)) few
        (all_map (λ q. HasHeader region_len old q.region q.header) (λ q. (nat_lt q.region region && list_any (nat_eq r) (continuations q.header)) ≡ false)
        (λ q has. and_right (nat_lt q.region region) (list_any (nat_eq r) (continuations q.header)) (or_parts (nat_eq r q.region) (list_any (nat_eq r) (continuations q.header)) (free_law region_len old r q.region q.header free has)).1) few headers)

    disjoint : AllByRecursion (λ q. bad_continuation all q ≡ None) all
    disjoint =
        round (λ q. bad_continuation all q ≡ None) more.left part more.right
        (all_both (λ q. HasHeader region_len old q.region q.header) (λ q. bad_continuation few q ≡ None) (λ q. bad_continuation all q ≡ None) still_own few headers
        (subst (λ ps. AllByRecursion (λ q. bad_continuation ps q ≡ None) ps) more.were c.disjoint))
        (none_bad all part
        (all_both (λ r. is_free old r ≡ true) (λ r. nat_eq region r ≡ false) (λ r. is_taken_from all part r ≡ false) (λ r free other. own_free r free other) (continuations header) more_free lead_apart))

    inserted_in : Inserted region_len region old new header parts
    inserted_in = record {
      left = more.left;
      right = more.right;
      ordered = all_map (λ q. HasHeader region_len old q.region q.header) (λ q. q.header.range.first ≤ q.header.range.last) (λ q has. header_ordered region_len old q has) few headers;
      walk = subst (λ ps. Walked ps parts) more.were c.walk;
      now = λ longer w. chain_read region_len new longer (record { all = all; are = now; disjoint = disjoint; walk = w });
    }

  pub inserted : (parts : List Part) → chain region_len old ≡ Ok parts → Inserted region_len region old new header parts
  inserted parts is =
      let c = read_chain region_len old parts is in let i = round_region in let d = s.differs in
      inserted_in parts c i (parts_sealed region_len (length old) 0 region i.front i.before i.after i.back header c.all (let a = i.at in omega (arith, a)) (ap is_sealed (sym (before_is region old new i)) ∙ was_closed)
      (sym (ap (λ n. header_in region_len n region i.after) d.as_many) ∙ ap (header_in region_len (length new) region) (sym (after_is region old new i)) ∙ s.has_header)
      (sym (ap (parts_from region_len (length old) 0) i.old_is) ∙ c.are))

  -- parts beside the old chain stand beside the new one, whose parts are of the old one or the new part
  pub still_retired : (longer others : List Part) → chain region_len new ≡ Ok longer → AllByRecursion (λ p. HasHeader region_len old p.region p.header) others
      → AllByRecursion (λ other. (region ≢ other.region → AllByRecursion (λ p. p.region ≢ other.region) longer)) others → AreRetired region_len new longer others
  still_retired longer others is headers apart = record {
    is_chain = is;
    headers = all_map (λ p. HasHeader region_len old p.region p.header) (λ p. HasHeader region_len new p.region p.header) (λ p has. header_kept region_len region old new s.differs lead_free p.region p.header has) others headers;
    beside = all_both (λ p. HasHeader region_len old p.region p.header) (λ other. (region ≢ other.region → AllByRecursion (λ p. p.region ≢ other.region) longer)) (λ other. AllByRecursion (λ p. p.region ≢ other.region) longer)
        (λ p has clear. clear (λ e. let g = good region_len (length old) p.region (region_of old p.region) p.header has in
        true≢false (sym g.is_open ∙ ap (λ r. is_sealed (region_of old r)) (sym e) ∙ was_closed))) others headers apart;
  }
