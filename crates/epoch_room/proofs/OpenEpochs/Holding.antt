-- The free regions of an image, and the parts that it holds while a region is sealed.
use Rattle.std.proofs.Common.{◌≡◌, ◌≢◌, ℕ, suc, ◌<◌, ◌==◌, Bool, true, false, not, ◌&&◌, ◌||◌, List, [], ◌∷◌, ◌++◌, length, Some, None, Ok, refl, sym, ap, subst, ◌∙◌, inl, inr, arith, eq-eqb, true≢false}
use Rattle.std.specs.Prelude.{Option, nat_eq}
use Rattle.std.specs.List.{AllByRecursion, list_any}
use Rattle.std.proofs.lemmas.Bool.{eqb-true, cases_eq, or_parts}
use Rattle.std.proofs.lemmas.List.Folds.{list_any-append}
use Rattle.fine_model.specs.declared.Header.{Header}
use Rattle.fine_model.specs.declared.Part.{Part}
use Rattle.fine_model.specs.Regions.{Image, region_of, is_sealed, continuations, header_at, header_in, bad_field, HasHeader}
use Rattle.fine_model.specs.Chain.{regions_of, is_free}
use Rattle.fine_model.specs.ChainLaws.{ShowsAlike, IsLonger, part_of}
use Rattle.fine_model.proofs.Ordered.Order.{all_map}
use Rattle.fine_model.proofs.Ordered.Sets.{all_append}
use Rattle.fine_model.proofs.Ordered.Zip.{all_left, all_right}
use Rattle.log_partition.proofs.Heads.{in_closed, in_good, in_bad}
use Rattle.epoch_room.specs.Value.{all_regions}
use Rattle.epoch_room.specs.Whole.{HoldsParts}
use Rattle.epoch_room.proofs.OpenEpochs.Torn.{HasClosed, HasOpened}

-- ---- headers

header_is : (region_len regions lead : ℕ) (bytes : List ℕ) (header : Header) → header_in region_len regions lead bytes ≡ Ok (Some header) → header_at bytes ≡ header
header_is region_len regions lead bytes header h = by (is_sealed bytes) (bad_field region_len regions lead bytes) refl refl
  where
    by : (s : Bool) (o : Option ℕ) → is_sealed bytes ≡ s → bad_field region_len regions lead bytes ≡ o → header_at bytes ≡ header
    by false o s b = let e = sym (in_closed region_len regions lead bytes s) ∙ h in cc
    by true None s b = let e = sym (in_good region_len regions lead bytes s b) ∙ h in cc
    by true (Some at) s b = let e = sym (in_bad region_len regions lead bytes at s b) ∙ h in cc

-- a test that fails at each region
none_in : (p : List ℕ → Bool) (image : Image) → ((i : ℕ) → i < length image → p (region_of image i) ≡ false) → list_any p image ≡ false
none_in p [] h = refl
none_in p (bytes ∷ image) h = ap (λ b. b || list_any p image) (h 0 (omega arith)) ∙ none_in p image (λ i l. h (suc i) (omega (arith, l)))

-- a region that is in no part is none of their leads
no_lead : (r : ℕ) (parts : List Part) → list_any (nat_eq r) (all_regions parts) ≡ false → list_any (λ p. p.region == r) parts ≡ false
no_lead r [] h = refl
no_lead r (p ∷ parts) h =
    let both = or_parts (list_any (nat_eq r) (regions_of p)) (list_any (nat_eq r) (all_regions parts)) (sym (list_any-append (nat_eq r) (regions_of p) (all_regions parts)) ∙ h) in
    let here = or_parts (nat_eq r p.region) (list_any (nat_eq r) (continuations p.header)) both.0 in
    ap (λ b. b || list_any (λ q. q.region == r) parts) (other_way r p.region here.0) ∙ no_lead r parts both.1
  where
    other_way : (m n : ℕ) → nat_eq m n ≡ false → (n == m) ≡ false
    other_way m n e = grind (arith, e)

-- and no continuation of a sealed region
not_named : (region_len : ℕ) (image : Image) (r i : ℕ) (parts : List Part) → AllByRecursion (λ p. HasHeader region_len image p.region p.header) parts → list_any (nat_eq r) (all_regions parts) ≡ false
    → list_any (λ p. p.region == i) parts ≡ true → list_any (nat_eq r) (continuations (header_at (region_of image i))) ≡ false
not_named region_len image r i [] headers h some = absurd (true≢false (sym some))
not_named region_len image r i (p ∷ parts) headers h some = by (p.region == i) refl some (λ rest. not_named region_len image r i parts headers.1 both.1 rest)
  where
    both : (list_any (nat_eq r) (regions_of p) ≡ false) × (list_any (nat_eq r) (all_regions parts) ≡ false)
    both = or_parts (list_any (nat_eq r) (regions_of p)) (list_any (nat_eq r) (all_regions parts)) (sym (list_any-append (nat_eq r) (regions_of p) (all_regions parts)) ∙ h)

    by : (b : Bool) → (p.region == i) ≡ b → (b || list_any (λ q. q.region == i) parts) ≡ true → (list_any (λ q. q.region == i) parts ≡ true → list_any (nat_eq r) (continuations (header_at (region_of image i))) ≡ false)
        → list_any (nat_eq r) (continuations (header_at (region_of image i))) ≡ false
    by true e some rest =
        let is : header_at (region_of image p.region) ≡ p.header = header_is region_len (length image) p.region (region_of image p.region) p.header headers.0 in
        subst (λ n. list_any (nat_eq r) (continuations (header_at (region_of image n))) ≡ false) (eqb-true p.region i e)
        (subst (λ (header : Header). list_any (nat_eq r) (continuations header) ≡ false) (sym is) (or_parts (nat_eq r p.region) (list_any (nat_eq r) (continuations p.header)) both.0).1)
    by false e some rest = rest some

pub free_of : (region_len : ℕ) (image : Image) (live retired : List Part) (r : ℕ) → HoldsParts region_len image live retired → r < length image → list_any (nat_eq r) (all_regions (live ++ retired)) ≡ false → is_free image r ≡ true
unfolding is_free
free_of region_len image live retired r holds there h = ap (λ b. not b && not (list_any named image)) shut ∙ ap not (none_in named image each)
  where
    named : List ℕ → Bool
    named bytes = is_sealed bytes && list_any (nat_eq r) (continuations (header_at bytes))

    shut : is_sealed (region_of image r) ≡ false
    shut = holds.leads r there ∙ no_lead r (live ++ retired) h

    each : (i : ℕ) → i < length image → named (region_of image i) ≡ false
    each i l = by (is_sealed (region_of image i)) refl
      where
        by : (b : Bool) → is_sealed (region_of image i) ≡ b → (is_sealed (region_of image i) && list_any (nat_eq r) (continuations (header_at (region_of image i)))) ≡ false
        by false e = ap (λ b. b && list_any (nat_eq r) (continuations (header_at (region_of image i)))) e
        by true e =
            ap (λ b. b && list_any (nat_eq r) (continuations (header_at (region_of image i)))) e
            ∙ not_named region_len image r i (live ++ retired) holds.headers h (sym (holds.leads i l) ∙ e)

-- ---- parts that are held

pub held_closed : (region_len region : ℕ) (old new : Image) (live retired : List Part) → HoldsParts region_len old live retired → HasClosed region old new → ShowsAlike region_len old new → is_sealed (region_of old region) ≡ false → HoldsParts region_len new live retired
held_closed region_len region old new live retired holds is alike shut = record {
  is_chain = alike.same_chain ∙ holds.is_chain;
  leads = λ r h. elim (cases_eq r region) as (λ _. is_sealed (region_of new r) ≡ list_any (λ p. p.region == r) (live ++ retired)) [
    | inl same ↦ subst (λ n. is_sealed (region_of new n) ≡ list_any (λ p. p.region == n) (live ++ retired)) (sym same) (is.closed ∙ sym shut ∙ holds.leads region (subst (λ n. n < length old) same (omega (arith, h, is.differs.as_many))))
    | inr other ↦ ap is_sealed (is.differs.others r other) ∙ holds.leads r (omega (arith, h, is.differs.as_many))
  ];
  headers = all_map (λ p. HasHeader region_len old p.region p.header) (λ p. HasHeader region_len new p.region p.header) (λ p h. alike.headers p.region p.header h) (live ++ retired) holds.headers;
}

lead_among : (r region : ℕ) (header : Header) (live retired : List Part) → list_any (λ p. p.region == r) ((live ++ part_of region header ∷ []) ++ retired) ≡ ((region == r) || list_any (λ p. p.region == r) (live ++ retired))
lead_among r region header live retired =
    list_any-append (λ p. p.region == r) (live ++ part_of region header ∷ []) retired
    ∙ ap (λ b. b || list_any (λ p. p.region == r) retired) (list_any-append (λ p. p.region == r) live (part_of region header ∷ []))
    ∙ three (list_any (λ p. p.region == r) live) (region == r) (list_any (λ p. p.region == r) retired)
    ∙ ap (λ b. (region == r) || b) (sym (list_any-append (λ p. p.region == r) live retired))
  where
    three : (a b c : Bool) → ((a || (b || false)) || c) ≡ (b || (a || c))
    three true true c = refl
    three true false c = refl
    three false true c = refl
    three false false c = refl

pub held_opened : (region_len region : ℕ) (bytes : List ℕ) (old new : Image) (live retired : List Part) (header : Header) → HoldsParts region_len old live retired → HasOpened region bytes old new
    → IsLonger region_len region old new live header → HasHeader region_len new region header → HoldsParts region_len new (live ++ part_of region header ∷ []) retired
held_opened region_len region bytes old new live retired header holds is longer has = record {
  is_chain = longer.is_chain;
  leads = λ r h. elim (cases_eq r region) as (λ _. is_sealed (region_of new r) ≡ list_any (λ p. p.region == r) ((live ++ part_of region header ∷ []) ++ retired)) [
    | inl same ↦ ap (λ n. is_sealed (region_of new n)) same ∙ ap is_sealed is.spelled ∙ sym (lead_among r region header live retired ∙ ap (λ b. b || list_any (λ p. p.region == r) (live ++ retired)) (eq-eqb region r (sym same)))
    | inr other ↦
        ap is_sealed (is.differs.others r other) ∙ holds.leads r (omega (arith, h, is.differs.as_many))
        ∙ sym (lead_among r region header live retired ∙ ap (λ b. b || list_any (λ p. p.region == r) (live ++ retired)) (differ r region other))
  ];
  headers =
      let kept = all_map (λ p. HasHeader region_len old p.region p.header) (λ p. HasHeader region_len new p.region p.header) (λ p h. longer.headers p.region p.header h) (live ++ retired) holds.headers in
      all_append (λ p. HasHeader region_len new p.region p.header) (live ++ part_of region header ∷ []) retired
      (all_append (λ p. HasHeader region_len new p.region p.header) live (part_of region header ∷ []) (all_left (λ p. HasHeader region_len new p.region p.header) live retired kept) (has, tt))
      (all_right (λ p. HasHeader region_len new p.region p.header) live retired kept);
}
  where
    differ : (m n : ℕ) → m ≢ n → (n == m) ≡ false
    differ m n h = grind (arith, h)
