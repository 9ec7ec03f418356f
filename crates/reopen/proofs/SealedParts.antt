-- The sealed parts of an image: those of its chain and those beside it share no region, and are all that is sealed.
use Rattle.std.proofs.Common.{◌≡◌, ◌≢◌, ℕ, zero, suc, ◌+◌, ◌<◌, ◌≤◌, ◌==◌, Bool, true, false, not, ◌||◌, cond, List, [], ◌∷◌, ◌++◌, length, map, refl, sym, ap, ◌∙◌, subst, Some, None, Ok, Err, arith, true≢false, eqb-true, eq-eqb, IsTrue}
use Rattle.std.specs.Prelude.{Option, Result, flat_map}
use Rattle.std.specs.List.{AllByRecursion, list_any}
use Rattle.std.proofs.lemmas.Bool.{or_parts, ne_eqb}
use Rattle.std.proofs.lemmas.List.Folds.{list_any-append}
use Rattle.std.proofs.lemmas.Grind.{flat_map-append}
use Rattle.fine_model.specs.declared.Header.{Header}
use Rattle.fine_model.specs.declared.Part.{Part}
use Rattle.fine_model.specs.declared.Damage.{Damage}
use Rattle.fine_model.specs.declared.Damage.TheVariants as damage
use Rattle.fine_model.specs.Trees.{is_distinct}
use Rattle.fine_model.specs.Regions.{Image, region_of, is_sealed, header_at, header_in, bad_field}
use Rattle.fine_model.specs.Chain.{parts_from, regions_of}
use Rattle.fine_model.specs.ChainLaws.{part_of}
use Rattle.fine_model.proofs.Ordered.Order.{all_map}
use Rattle.fine_model.proofs.Ordered.Times.{times, times-none, times-append, times_distinct, distinct_times}
use Rattle.fine_model.proofs.Chain.Images.{and_then_ok, parts_none, parts_bad, parts_good}
use Rattle.fine_model.proofs.Chain.Headers.{good}
use Rattle.fine_model.proofs.Chain.ChainFacts.{Fact, sharing}
use Rattle.epoch_room.specs.Whole.{AreRising}
use Rattle.reopen.specs.Opening.{beside}

abbrev lead_of : Part → ℕ
lead_of p = p.region

-- ---- the leads of sealed parts ascend, and are all that is sealed

abbrev is_lead : ℕ → List Part → Bool
is_lead region parts = list_any (λ p. p.region == region) parts

pub record AreLeads (k : ℕ) (image : Image) (parts : List Part) : Type 0 where
  pub above : AllByRecursion (λ p. k ≤ p.region) parts
  pub rising : AreRising (map lead_of parts)
  pub all : (i : ℕ) → i < length image → is_sealed (region_of image i) ≡ is_lead (k + i) parts

rising_above : (k : ℕ) (parts : List Part) → AllByRecursion (λ p. k + 1 ≤ p.region) parts → AllByRecursion (λ y. k < y) (map lead_of parts)
rising_above k [] all = tt
rising_above k (p ∷ parts) all = (let h = all.0 in omega (arith, h), rising_above k parts all.1)

not_lead : (k : ℕ) (parts : List Part) → AllByRecursion (λ p. k + 1 ≤ p.region) parts → is_lead k parts ≡ false
not_lead k [] all = refl
not_lead k (p ∷ parts) all = by (p.region == k) refl (not_lead k parts all.1)
  where
    by : (b : Bool) → (p.region == k) ≡ b → is_lead k parts ≡ false → (b || is_lead k parts) ≡ false
    by true e rest = let h = all.0 in let same = eqb-true p.region k e in absurd (omega (arith, h, same))
    by false e rest = rest

-- a region without a header is closed
none_closed : (region_len regions k : ℕ) (bytes : List ℕ) → header_in region_len regions k bytes ≡ Ok None → is_sealed bytes ≡ false
unfolding header_in
none_closed region_len regions k bytes e = by (is_sealed bytes) refl (bad_field region_len regions k bytes) refl
  where
    by : (b : Bool) → is_sealed bytes ≡ b → (o : Option ℕ) → bad_field region_len regions k bytes ≡ o → is_sealed bytes ≡ false
    by false s o f = s
    by true s None f =
        let g : header_in region_len regions k bytes ≡ Ok (Some (header_at bytes)) = rw (s, f) refl in
        absurd (let c : ◌≡◌ {A = Result (Option Header) ℕ} (Ok (Some (header_at bytes))) (Ok None) = sym g ∙ e in cc)
    by true s (Some at) f =
        let g : header_in region_len regions k bytes ≡ Err at = rw (s, f) refl in
        absurd (let c : ◌≡◌ {A = Result (Option Header) ℕ} (Err at) (Ok None) = sym g ∙ e in cc)

lead_at : (k i : ℕ) (parts : List Part) (b : Bool) → b ≡ is_lead ((k + 1) + i) parts → b ≡ is_lead (k + suc i) parts
lead_at k i parts b h = let e : (k + 1) + i ≡ k + suc i = omega arith in subst (λ n. b ≡ is_lead n parts) e h

pub leads : (region_len regions k : ℕ) (image : Image) (parts : List Part) → parts_from region_len regions k image ≡ Ok parts → AreLeads k image parts
unfolding parts_from
leads region_len regions k [] parts is =
    let e : [] ≡ parts = cc in subst (AreLeads k []) e (record { above = tt; rising = tt; all = λ i below. absurd (omega (arith, below)) })
leads region_len regions k (bytes ∷ image) parts is = by (header_in region_len regions k bytes) refl (λ ps was. leads region_len regions (k + 1) image ps was)
  where
    lower : (ps : List Part) → AllByRecursion (λ p. k + 1 ≤ p.region) ps → AllByRecursion (λ p. k ≤ p.region) ps
    lower ps all = all_map (λ p. k + 1 ≤ p.region) (λ p. k ≤ p.region) (λ p h. omega (arith, h)) ps all

    closed : is_sealed bytes ≡ false → (ps : List Part) → AreLeads (k + 1) image ps → AreLeads k (bytes ∷ image) ps
    closed shut ps l = record {
      above = lower ps l.above;
      rising = l.rising;
      all = at;
    }
      where
        at : (i : ℕ) → i < length (bytes ∷ image) → is_sealed (region_of (bytes ∷ image) i) ≡ is_lead (k + i) ps
        at zero below = shut ∙ sym (ap (λ n. is_lead n ps) (let e : k + 0 ≡ k = omega arith in e) ∙ not_lead k ps l.above)
        at (suc i) below = lead_at k i ps (is_sealed (region_of image i)) (l.all i (omega (arith, below)))

    open_ : (h : Header) → is_sealed bytes ≡ true → (ps : List Part) → AreLeads (k + 1) image ps → AreLeads k (bytes ∷ image) (part_of k h ∷ ps)
    open_ h is_open ps l = record {
      above = (omega arith, lower ps l.above);
      rising = (rising_above k ps l.above, l.rising);
      all = at;
    }
      where
        at : (i : ℕ) → i < length (bytes ∷ image) → is_sealed (region_of (bytes ∷ image) i) ≡ is_lead (k + i) (part_of k h ∷ ps)
        at zero below = is_open ∙ sym (ap (λ n. is_lead n (part_of k h ∷ ps)) (let e : k + 0 ≡ k = omega arith in e) ∙ ap (λ b. b || is_lead k ps) (eq-eqb k k refl))
        at (suc i) below =
            lead_at k i ps (is_sealed (region_of image i)) (l.all i (omega (arith, below)))
            ∙ sym (ap (λ b. b || is_lead (k + suc i) ps) (ne_eqb k (k + suc i) (λ e. absurd (omega (arith, e)))))

    by : (r : Result (Option Header) ℕ) → header_in region_len regions k bytes ≡ r → ((ps : List Part) → parts_from region_len regions (k + 1) image ≡ Ok ps → AreLeads (k + 1) image ps) → AreLeads k (bytes ∷ image) parts
    by (Err at) e rest = absurd (let c : ◌≡◌ {A = Result (List Part) Damage} (Err (damage.Region k at)) (Ok parts) = sym (parts_bad region_len regions k at bytes image e) ∙ is in cc)
    by (Ok None) e rest = closed (none_closed region_len regions k bytes e) parts (rest parts (sym (parts_none region_len regions k bytes image e) ∙ is))
    by (Ok (Some h)) e rest =
        let o = and_then_ok (parts_from region_len regions (k + 1) image) (λ ps. Ok (part_of k h ∷ ps)) parts (sym (parts_good region_len regions k bytes h image e) ∙ is) in
        let c = o.2 in
        let whole : part_of k h ∷ o.0 ≡ parts = cc in
        subst (AreLeads k (bytes ∷ image)) whole (open_ h ((good region_len regions k bytes h e).is_open) o.0 (rest o.0 o.1))

-- ---- those beside a chain

-- what holds of all holds of those beside, whose leads ascend too
pub all_beside : (P : Part → Type 0) (live sealed : List Part) → AllByRecursion P sealed → AllByRecursion P (beside live sealed)
unfolding beside
all_beside P live [] all = tt
all_beside P live (p ∷ sealed) all = by (is_lead p.region live) (all_beside P live sealed all.1)
  where
    by : (b : Bool) → AllByRecursion P (beside live sealed) → AllByRecursion P (cond (not b) (p ∷ beside live sealed) (beside live sealed))
    by true rest = rest
    by false rest = (all.0, rest)

mapped_beside : (P : ℕ → Type 0) (live sealed : List Part) → AllByRecursion P (map lead_of sealed) → AllByRecursion P (map lead_of (beside live sealed))
unfolding beside
mapped_beside P live [] all = tt
mapped_beside P live (p ∷ sealed) all = by (is_lead p.region live) (mapped_beside P live sealed all.1)
  where
    by : (b : Bool) → AllByRecursion P (map lead_of (beside live sealed)) → AllByRecursion P (map lead_of (cond (not b) (p ∷ beside live sealed) (beside live sealed)))
    by true rest = rest
    by false rest = (all.0, rest)

pub rising_beside : (live sealed : List Part) → AreRising (map lead_of sealed) → AreRising (map lead_of (beside live sealed))
unfolding beside
rising_beside live [] rising = tt
rising_beside live (p ∷ sealed) rising = by (is_lead p.region live) (rising_beside live sealed rising.1)
  where
    by : (b : Bool) → AreRising (map lead_of (beside live sealed)) → AreRising (map lead_of (cond (not b) (p ∷ beside live sealed) (beside live sealed)))
    by true rest = rest
    by false rest = (mapped_beside (λ y. p.region < y) live sealed rising.0, rest)

-- the leads of those beside are none of the chain's
pub apart_beside : (live sealed : List Part) → AllByRecursion (λ p. is_lead p.region live ≡ false) (beside live sealed)
unfolding beside
apart_beside live [] = tt
apart_beside live (p ∷ sealed) = by (is_lead p.region live) refl (apart_beside live sealed)
  where
    by : (b : Bool) → is_lead p.region live ≡ b → AllByRecursion (λ q. is_lead q.region live ≡ false) (beside live sealed)
        → AllByRecursion (λ q. is_lead q.region live ≡ false) (cond (not b) (p ∷ beside live sealed) (beside live sealed))
    by true e rest = rest
    by false e rest = (e, rest)

-- the leads of the chain and those beside it are those of all sealed parts
pub all_leads : (live sealed : List Part) → AllByRecursion (λ p. is_lead p.region sealed ≡ true) live → (region : ℕ) → is_lead region (live ++ beside live sealed) ≡ is_lead region sealed
unfolding beside
all_leads live sealed among region = list_any-append (λ p. p.region == region) live (beside live sealed) ∙ by (is_lead region live) refl
  where
    here : (ps : List Part) → AllByRecursion (λ p. is_lead p.region sealed ≡ true) ps → is_lead region ps ≡ true → is_lead region sealed ≡ true
    here [] all there = absurd (true≢false (sym there))
    here (p ∷ ps) all there = found (p.region == region) refl there (here ps all.1)
      where
        found : (b : Bool) → (p.region == region) ≡ b → (b || is_lead region ps) ≡ true → (is_lead region ps ≡ true → is_lead region sealed ≡ true) → is_lead region sealed ≡ true
        found true e h rest = subst (λ n. is_lead n sealed ≡ true) (eqb-true p.region region e) all.0
        found false e h rest = rest h

    left : is_lead region live ≡ false → (ps : List Part) → is_lead region (beside live ps) ≡ is_lead region ps
    left none [] = refl
    left none (p ∷ ps) = go (p.region == region) refl (is_lead p.region live) refl (left none ps)
      where
        go : (b : Bool) → (p.region == region) ≡ b → (c : Bool) → is_lead p.region live ≡ c → is_lead region (beside live ps) ≡ is_lead region ps
            → is_lead region (cond (not c) (p ∷ beside live ps) (beside live ps)) ≡ ((p.region == region) || is_lead region ps)
        go true e true f rest = absurd (true≢false (sym f ∙ ap (λ n. is_lead n live) (eqb-true p.region region e) ∙ none))
        go false e true f rest = rest ∙ sym (ap (λ b. b || is_lead region ps) e)
        go b e false f rest = ap (λ t. (p.region == region) || t) rest

    by : (b : Bool) → is_lead region live ≡ b → (b || is_lead region (beside live sealed)) ≡ is_lead region sealed
    by true e = sym (here live among e)
    by false e = left e sealed

-- ---- they share no region

module _ (region_len : ℕ) (image : Image) (all : List Part) where
  abbrev fact : Part → Type 0
  fact = Fact region_len image all

  -- a region of a part is in none of others with other leads
  none_in : (p : Part) → fact p → (n : ℕ) → 1 ≤ times n (regions_of p) → (parts : List Part) → AllByRecursion (λ q. p.region ≢ q.region) parts → AllByRecursion fact parts → times n (flat_map regions_of parts) ≡ 0
  none_in p f n here [] differ facts = times-none n
  none_in p f n here (q ∷ parts) differ facts =
      times-append n (regions_of q) (flat_map regions_of parts) ∙ by (times n (regions_of q)) refl (none_in p f n here parts differ.1 facts.1)
    where
      by : (k : ℕ) → times n (regions_of q) ≡ k → times n (flat_map regions_of parts) ≡ 0 → times n (regions_of q) + times n (flat_map regions_of parts) ≡ 0
      by zero e rest = omega (arith, e, rest)
      by (suc k) e rest = absurd (sharing region_len image all p q f facts.0 differ.0 n here (omega (arith, e)))

  differ_above : (p : Part) (parts : List Part) → AllByRecursion (λ y. p.region < y) (map lead_of parts) → AllByRecursion (λ q. p.region ≢ q.region) parts
  differ_above p [] above = tt
  differ_above p (q ∷ parts) above = (λ e. let h = above.0 in absurd (omega (arith, h, e)), differ_above p parts above.1)

  once_rising : (parts : List Part) → AreRising (map lead_of parts) → AllByRecursion fact parts → (n : ℕ) → times n (flat_map regions_of parts) ≤ 1
  once_rising [] rising facts n = let z = times-none n in omega (arith, z)
  once_rising (p ∷ parts) rising facts n = by (times n (regions_of p)) refl (times-append n (regions_of p) (flat_map regions_of parts)) (once_rising parts rising.1 facts.1 n)
    where
      by : (k : ℕ) → times n (regions_of p) ≡ k → times n (flat_map regions_of (p ∷ parts)) ≡ times n (regions_of p) + times n (flat_map regions_of parts)
          → times n (flat_map regions_of parts) ≤ 1 → times n (flat_map regions_of (p ∷ parts)) ≤ 1
      by zero e joined rest = omega (arith, e, joined, rest)
      by (suc k) e joined rest =
          let one = Fact.once facts.0 n in
          let none = none_in p facts.0 n (omega (arith, e)) parts (differ_above p parts rising.0) facts.1 in omega (arith, one, joined, none)

  differ_from : (q : Part) (parts : List Part) → is_lead q.region parts ≡ false → AllByRecursion (λ p. q.region ≢ p.region) parts
  differ_from q [] none = tt
  differ_from q (p ∷ parts) none =
      let both = or_parts (p.region == q.region) (is_lead q.region parts) none in
      (λ e. absurd (true≢false (sym (eq-eqb p.region q.region (sym e)) ∙ both.0)), differ_from q parts both.1)

  -- a region of a part beside the chain is in no part of it
  none_live : (live retired : List Part) → AllByRecursion (λ q. is_lead q.region live ≡ false) retired → AllByRecursion fact live → AllByRecursion fact retired
      → (n : ℕ) → 1 ≤ times n (flat_map regions_of retired) → times n (flat_map regions_of live) ≡ 0
  none_live live [] differ f g n here = let z = times-none n in absurd (omega (arith, z, here))
  none_live live (q ∷ retired) differ f g n here = by (times n (regions_of q)) refl (times-append n (regions_of q) (flat_map regions_of retired)) (none_live live retired differ.1 f g.1 n)
    where
      by : (k : ℕ) → times n (regions_of q) ≡ k → times n (flat_map regions_of (q ∷ retired)) ≡ times n (regions_of q) + times n (flat_map regions_of retired)
          → (1 ≤ times n (flat_map regions_of retired) → times n (flat_map regions_of live) ≡ 0) → times n (flat_map regions_of live) ≡ 0
      by zero e joined rest = rest (omega (arith, e, joined, here))
      by (suc k) e joined rest = none_in q g.0 n (omega (arith, e)) live (differ_from q live differ.0) f

  pub distinct : (live retired : List Part) → AllByRecursion (λ q. is_lead q.region live ≡ false) retired → AllByRecursion fact live → AllByRecursion fact retired
      → IsTrue (is_distinct (flat_map regions_of live)) → AreRising (map lead_of retired) → IsTrue (is_distinct (flat_map regions_of (live ++ retired)))
  distinct live retired differ f g apart rising = times_distinct (flat_map regions_of (live ++ retired)) (λ n. by n (times n (flat_map regions_of retired)) refl)
    where
      joined : (n : ℕ) → times n (flat_map regions_of (live ++ retired)) ≡ times n (flat_map regions_of live) + times n (flat_map regions_of retired)
      joined n = ap (times n) (flat_map-append regions_of live retired) ∙ times-append n (flat_map regions_of live) (flat_map regions_of retired)

      by : (n k : ℕ) → times n (flat_map regions_of retired) ≡ k → times n (flat_map regions_of (live ++ retired)) ≤ 1
      by n zero e = let j = joined n in let l = distinct_times (flat_map regions_of live) apart n in omega (arith, j, l, e)
      by n (suc k) e =
          let j = joined n in let r = once_rising retired rising g n in
          let none = none_live live retired differ f g n (omega (arith, e)) in omega (arith, j, r, none)
