-- The regions of parts that are erased, and those of the others.
use Rattle.std.proofs.Common.{◌≡◌, ◌≢◌, ℕ, zero, suc, ◌+◌, ◌<◌, ◌≤◌, ◌==◌, Bool, true, false, cond, not, ◌||◌, List, [], ◌∷◌, ◌++◌, map, refl, sym, ap, ◌∙◌, inl, inr, arith, true≢false, eq-eqb}
use Rattle.std.specs.Prelude.{nat_eq, filter}
use Rattle.std.specs.List.{AllByRecursion, list_any, range_with_len}
use Rattle.std.proofs.lemmas.Bool.{cases_lt, eqb-true, false_from_ne_true, or_parts, or_right}
use Rattle.std.proofs.lemmas.List.Folds.{list_any-append}
use Rattle.fine_model.specs.declared.Part.{Part}
use Rattle.fine_model.specs.Boards.{regions_by, set_of}
use Rattle.fine_model.specs.Chain.{regions_of}
use Rattle.fine_model.specs.Regions.{continuations}
use Rattle.fine_model.proofs.Ordered.Nothing.{all_at}
use Rattle.fine_model.proofs.Ordered.Times.{times, times-append, times-none, times-other, absent_times, times_absent, distinct_times, times_distinct, below_times, times_below}
use Rattle.epoch_room.specs.Erasing.{led_by, without}
use Rattle.epoch_room.specs.Value.{all_regions, regions_outside}
use Rattle.epoch_room.specs.Whole.{AreApart, AreRising}
use Rattle.epoch_room.proofs.RegionSets.FreeSets.{alike_from}
use Rattle.epoch_room.proofs.RegionSets.Taken.{any_times}

-- ---- how often a region stands in them

pub led_times : (n : ℕ) (leads : List ℕ) (parts : List Part) → times n (all_regions parts) ≡ times n (all_regions (led_by leads parts)) + times n (all_regions (without leads parts))
led_times n leads [] = let z = times-none n in omega (arith, z)
led_times n leads (p ∷ parts) = by (list_any (nat_eq p.region) leads) (led_times n leads parts)
  where
    whole : times n (all_regions (p ∷ parts)) ≡ times n (regions_of p) + times n (all_regions parts)
    whole = times-append n (regions_of p) (all_regions parts)

    by : (b : Bool) → times n (all_regions parts) ≡ times n (all_regions (led_by leads parts)) + times n (all_regions (without leads parts))
        → times n (all_regions (p ∷ parts)) ≡ times n (all_regions (cond b (p ∷ led_by leads parts) (led_by leads parts))) + times n (all_regions (cond (not b) (p ∷ without leads parts) (without leads parts)))
    by true rest = let t = times-append n (regions_of p) (all_regions (led_by leads parts)) in omega (arith, whole, rest, t)
    by false rest = let t = times-append n (regions_of p) (all_regions (without leads parts)) in omega (arith, whole, rest, t)

-- ---- leads

-- the lead of a part is one of its regions
pub lead_in : (r : ℕ) (parts : List Part) → list_any (λ p. p.region == r) parts ≡ true → list_any (nat_eq r) (all_regions parts) ≡ true
lead_in r [] there = absurd (true≢false (sym there))
lead_in r (p ∷ parts) there = list_any-append (nat_eq r) (regions_of p) (all_regions parts) ∙ by (p.region == r) refl there (λ h. lead_in r parts h)
  where
    turned : (m n : ℕ) → (m == n) ≡ true → nat_eq n m ≡ true
    turned m n e = grind (arith, e)

    by : (b : Bool) → (p.region == r) ≡ b → (b || list_any (λ p. p.region == r) parts) ≡ true → (list_any (λ p. p.region == r) parts ≡ true → list_any (nat_eq r) (all_regions parts) ≡ true)
        → (list_any (nat_eq r) (regions_of p) || list_any (nat_eq r) (all_regions parts)) ≡ true
    by true e h rest = ap (λ b. (b || list_any (nat_eq r) (continuations p.header)) || list_any (nat_eq r) (all_regions parts)) (turned p.region r e)
    by false e h rest = or_right (list_any (nat_eq r) (regions_of p)) (list_any (nat_eq r) (all_regions parts)) (rest h)

-- a lead of a retired part is the lead of no part whose regions are others
pub lead_apart : (r : ℕ) (parts : List Part) → list_any (nat_eq r) (all_regions parts) ≡ false → AllByRecursion (λ p. p.region ≢ r) parts
lead_apart r [] none = tt
lead_apart r (p ∷ parts) none =
    let both = or_parts (list_any (nat_eq r) (regions_of p)) (list_any (nat_eq r) (all_regions parts)) (sym (list_any-append (nat_eq r) (regions_of p) (all_regions parts)) ∙ none) in
    let own = or_parts (nat_eq r p.region) _ both.0 in
    (apart r p.region own.0, lead_apart r parts both.1)
  where
    apart : (m n : ℕ) → nat_eq m n ≡ false → n ≢ m
    apart m n e = grind (arith, e)

-- the parts that are left have the leads that are no lead of an erased one
pub lead_left : (r : ℕ) (leads : List ℕ) (parts : List Part) → list_any (nat_eq r) leads ≡ false → list_any (λ p. p.region == r) (without leads parts) ≡ list_any (λ p. p.region == r) parts
lead_left r leads [] none = refl
lead_left r leads (p ∷ parts) none = by (list_any (nat_eq p.region) leads) refl (lead_left r leads parts none)
  where
    other : list_any (nat_eq p.region) leads ≡ true → (p.region == r) ≡ false
    other e = false_from_ne_true (p.region == r) (λ f. true≢false (sym e ∙ ap (λ n. list_any (nat_eq n) leads) (eqb-true p.region r f) ∙ none))

    by : (b : Bool) → list_any (nat_eq p.region) leads ≡ b → list_any (λ q. q.region == r) (without leads parts) ≡ list_any (λ q. q.region == r) parts
        → list_any (λ q. q.region == r) (cond (not b) (p ∷ without leads parts) (without leads parts)) ≡ ((p.region == r) || list_any (λ q. q.region == r) parts)
    by true e rest = rest ∙ sym (ap (λ b. b || list_any (λ q. q.region == r) parts) (other e))
    by false e rest = ap (λ b. (p.region == r) || b) rest

pub lead_gone : (r : ℕ) (leads : List ℕ) (parts : List Part) → list_any (nat_eq r) leads ≡ true → list_any (λ p. p.region == r) (without leads parts) ≡ false
lead_gone r leads [] there = refl
lead_gone r leads (p ∷ parts) there = by (list_any (nat_eq p.region) leads) refl (lead_gone r leads parts there)
  where
    by : (b : Bool) → list_any (nat_eq p.region) leads ≡ b → list_any (λ q. q.region == r) (without leads parts) ≡ false → list_any (λ q. q.region == r) (cond (not b) (p ∷ without leads parts) (without leads parts)) ≡ false
    by true e rest = rest
    by false e rest = side (p.region == r) refl
      where
        side : (b : Bool) → (p.region == r) ≡ b → ((p.region == r) || list_any (λ q. q.region == r) (without leads parts)) ≡ false
        side false f = ap (λ b. b || list_any (λ q. q.region == r) (without leads parts)) f ∙ rest
        side true f = absurd (true≢false (sym there ∙ ap (λ n. list_any (nat_eq n) leads) (sym (eqb-true p.region r f)) ∙ e))

pub lead_led : (r : ℕ) (leads : List ℕ) (parts : List Part) → list_any (nat_eq r) leads ≡ true → list_any (λ p. p.region == r) parts ≡ true → list_any (λ p. p.region == r) (led_by leads parts) ≡ true
lead_led r leads [] there some = absurd (true≢false (sym some))
lead_led r leads (p ∷ parts) there some = by (list_any (nat_eq p.region) leads) refl (p.region == r) refl (λ h. lead_led r leads parts there h)
  where
    by : (b : Bool) → list_any (nat_eq p.region) leads ≡ b → (s : Bool) → (p.region == r) ≡ s → (list_any (λ q. q.region == r) parts ≡ true → list_any (λ q. q.region == r) (led_by leads parts) ≡ true)
        → list_any (λ q. q.region == r) (cond b (p ∷ led_by leads parts) (led_by leads parts)) ≡ true
    by true e true f rest = ap (λ b. b || list_any (λ q. q.region == r) (led_by leads parts)) f
    by true e false f rest = or_right (p.region == r) (list_any (λ q. q.region == r) (led_by leads parts)) (rest (ap (λ b. b || list_any (λ q. q.region == r) parts) (sym f) ∙ some))
    by false e true f rest = absurd (true≢false (sym there ∙ ap (λ n. list_any (nat_eq n) leads) (sym (eqb-true p.region r f)) ∙ e))
    by false e false f rest = rest (ap (λ b. b || list_any (λ q. q.region == r) parts) (sym f) ∙ some)

pub left_rising : (leads : List ℕ) (parts : List Part) → AreRising (map (λ p. p.region) parts) → AreRising (map (λ p. p.region) (without leads parts))
left_rising leads [] up = tt
left_rising leads (p ∷ parts) up = by (list_any (nat_eq p.region) leads) (left_rising leads parts up.1)
  where
    fewer : (ps : List Part) → AllByRecursion (λ y. p.region < y) (map (λ q. q.region) ps) → AllByRecursion (λ y. p.region < y) (map (λ q. q.region) (without leads ps))
    fewer [] all = tt
    fewer (q ∷ ps) all = side (list_any (nat_eq q.region) leads) (fewer ps all.1)
      where
        side : (b : Bool) → AllByRecursion (λ y. p.region < y) (map (λ q. q.region) (without leads ps)) → AllByRecursion (λ y. p.region < y) (map (λ q. q.region) (cond (not b) (q ∷ without leads ps) (without leads ps)))
        side true rest = rest
        side false rest = (all.0, rest)

    by : (b : Bool) → AreRising (map (λ q. q.region) (without leads parts)) → AreRising (map (λ q. q.region) (cond (not b) (p ∷ without leads parts) (without leads parts)))
    by true rest = rest
    by false rest = (fewer parts up.0, rest)

-- ---- regions that are apart

pub fewer_apart : (regions : ℕ) (a b : List ℕ) → ((n : ℕ) → times n b ≤ times n a) → AreApart regions a → AreApart regions b
fewer_apart regions a b fewer apart = record {
  distinct = times_distinct b (λ n. let f = fewer n in let d = distinct_times a apart.distinct n in omega (arith, f, d));
  below = times_below regions b (λ n h. let f = fewer n in let d = below_times regions a apart.below n h in omega (arith, f, d));
}

outside_is : (a k n : ℕ) (p : ℕ → Bool) → a ≤ n → n < a + k → list_any (nat_eq n) (filter p (range_with_len a k)) ≡ p n
outside_is a zero n p low high = absurd (omega (arith, low, high))
outside_is a (suc k) n p low high = by (nat_eq n a) refl (λ below. outside_is (a + 1) k n p below (omega (arith, high)))
  where
    later : nat_eq n a ≡ false → a + 1 ≤ n
    later e = elim (cases_lt a n) [ inl h ↦ omega (arith, h) | inr h ↦ absurd (let same : n ≡ a = omega (arith, h, low) in true≢false (sym (eq-eqb n a same) ∙ e)) ]

    none : (b k : ℕ) → n < b → list_any (nat_eq n) (filter p (range_with_len b k)) ≡ false
    none b zero h = refl
    none b (suc k) h = side (p b) (none (b + 1) k (omega (arith, h)))
      where
        apart : (x y : ℕ) → x < y → nat_eq x y ≡ false
        apart x y l = grind (arith, l)

        side : (s : Bool) → list_any (nat_eq n) (filter p (range_with_len (b + 1) k)) ≡ false → list_any (nat_eq n) (cond s (b ∷ filter p (range_with_len (b + 1) k)) (filter p (range_with_len (b + 1) k))) ≡ false
        side true rest = ap (λ t. t || list_any (nat_eq n) (filter p (range_with_len (b + 1) k))) (apart n b h) ∙ rest
        side false rest = rest

    by : (b : Bool) → nat_eq n a ≡ b → (a + 1 ≤ n → list_any (nat_eq n) (filter p (range_with_len (a + 1) k)) ≡ p n) → list_any (nat_eq n) (cond (p a) (a ∷ filter p (range_with_len (a + 1) k)) (filter p (range_with_len (a + 1) k))) ≡ p n
    by true e rest = let is : n ≡ a = eqb-true n a e in side (p a) refl
      where
        side : (s : Bool) → p a ≡ s → list_any (nat_eq n) (cond s (a ∷ filter p (range_with_len (a + 1) k)) (filter p (range_with_len (a + 1) k))) ≡ p n
        side true f = ap (λ t. t || list_any (nat_eq n) (filter p (range_with_len (a + 1) k))) e ∙ sym (ap p (eqb-true n a e) ∙ f)
        side false f = none (a + 1) k (let is : n ≡ a = eqb-true n a e in omega (arith, is)) ∙ sym (ap p (eqb-true n a e) ∙ f)
    by false e rest = side (p a) (rest (later e))
      where
        side : (s : Bool) → list_any (nat_eq n) (filter p (range_with_len (a + 1) k)) ≡ p n → list_any (nat_eq n) (cond s (a ∷ filter p (range_with_len (a + 1) k)) (filter p (range_with_len (a + 1) k))) ≡ p n
        side true f = ap (λ t. t || list_any (nat_eq n) (filter p (range_with_len (a + 1) k))) e ∙ f
        side false f = f

outside_past : (a k n : ℕ) (p : ℕ → Bool) → a + k ≤ n → list_any (nat_eq n) (filter p (range_with_len a k)) ≡ false
outside_past a zero n p high = refl
outside_past a (suc k) n p high = side (p a) (outside_past (a + 1) k n p (omega (arith, high)))
  where
    apart : (x y : ℕ) → y < x → nat_eq x y ≡ false
    apart x y l = grind (arith, l)

    side : (s : Bool) → list_any (nat_eq n) (filter p (range_with_len (a + 1) k)) ≡ false → list_any (nat_eq n) (cond s (a ∷ filter p (range_with_len (a + 1) k)) (filter p (range_with_len (a + 1) k))) ≡ false
    side true rest = ap (λ t. t || list_any (nat_eq n) (filter p (range_with_len (a + 1) k))) (apart n a (omega (arith, high))) ∙ rest
    side false rest = rest

-- regions that were taken are free: they join those that were
pub free_more : (regions : ℕ) (old new gone : List ℕ) → regions ≤ 64 → AreApart regions old → ((n : ℕ) → times n old ≡ times n gone + times n new) → set_of (regions_outside regions old ++ gone) ≡ regions_outside regions new
unfolding regions_by regions_outside
free_more regions old new gone few apart same = alike_from (λ r. list_any (nat_eq r) (filter (λ r. not (list_any (nat_eq r) old)) (range_with_len 0 regions) ++ gone)) (λ r. not (list_any (nat_eq r) new)) 0 regions 64 few (λ r low high. inside r high) (λ r low. past r low)
  where
    past : (r : ℕ) → 0 + regions ≤ r → list_any (nat_eq r) (filter (λ r. not (list_any (nat_eq r) old)) (range_with_len 0 regions) ++ gone) ≡ false
    past r low =
        list_any-append (nat_eq r) (filter (λ r. not (list_any (nat_eq r) old)) (range_with_len 0 regions)) gone ∙ ap (λ b. b || list_any (nat_eq r) gone) (outside_past 0 regions r (λ r. not (list_any (nat_eq r) old)) low)
        ∙ times_absent r gone (let s = same r in let b = below_times regions old apart.below r (omega (arith, low)) in omega (arith, s, b))

    inside : (r : ℕ) → r < 0 + regions → list_any (nat_eq r) (filter (λ r. not (list_any (nat_eq r) old)) (range_with_len 0 regions) ++ gone) ≡ not (list_any (nat_eq r) new)
    inside r high =
        list_any-append (nat_eq r) (filter (λ r. not (list_any (nat_eq r) old)) (range_with_len 0 regions)) gone ∙ ap (λ b. b || list_any (nat_eq r) gone) (outside_is 0 regions r (λ r. not (list_any (nat_eq r) old)) (omega arith) high)
        ∙ by (list_any (nat_eq r) gone) (list_any (nat_eq r) new) refl refl
      where
        once : times r old ≤ 1
        once = distinct_times old apart.distinct r

        some : (xs : List ℕ) → list_any (nat_eq r) xs ≡ true → 1 ≤ times r xs
        some xs there = elim (cases_lt 0 (times r xs)) [ inl h ↦ omega (arith, h) | inr h ↦ absurd (true≢false (sym there ∙ times_absent r xs (omega (arith, h)))) ]

        joined : list_any (nat_eq r) old ≡ list_any (nat_eq r) (gone ++ new)
        joined = any_times r old (gone ++ new) (same r ∙ sym (times-append r gone new))

        by : (g n : Bool) → list_any (nat_eq r) gone ≡ g → list_any (nat_eq r) new ≡ n → (not (list_any (nat_eq r) old) || list_any (nat_eq r) gone) ≡ not (list_any (nat_eq r) new)
        by true true e f = absurd (let a = some gone e in let b = some new f in let s = same r in omega (arith, a, b, s, once))
        by true false e f = ap (λ b. not (list_any (nat_eq r) old) || b) e ∙ or_right (not (list_any (nat_eq r) old)) true refl ∙ sym (ap not f)
        by false true e f = ap (λ b. not (list_any (nat_eq r) old) || b) e ∙ ap (λ b. not b || false) (joined ∙ list_any-append (nat_eq r) gone new ∙ ap (λ b. b || list_any (nat_eq r) new) e ∙ f) ∙ sym (ap not f)
        by false false e f = ap (λ b. not (list_any (nat_eq r) old) || b) e ∙ ap (λ b. not b || false) (joined ∙ list_any-append (nat_eq r) gone new ∙ ap (λ b. b || list_any (nat_eq r) new) e ∙ f) ∙ sym (ap not f)

-- a set has each of its list's regions as often, where these are apart
pub set_times : (regions : ℕ) (xs : List ℕ) → regions ≤ 64 → AreApart regions xs → (n : ℕ) → times n (set_of xs) ≡ times n xs
unfolding regions_by times
set_times regions xs few apart n = by (list_any (nat_eq n) xs) refl
  where
    range_times : (a k : ℕ) → n < a → times n (filter (λ r. list_any (nat_eq r) xs) (range_with_len a k)) ≡ 0
    range_times a zero low = times-none n
    range_times a (suc k) low = side (list_any (nat_eq a) xs) (range_times (a + 1) k (omega (arith, low)))
      where
        side : (s : Bool) → times n (filter (λ r. list_any (nat_eq r) xs) (range_with_len (a + 1) k)) ≡ 0 → times n (cond s (a ∷ filter (λ r. list_any (nat_eq r) xs) (range_with_len (a + 1) k)) (filter (λ r. list_any (nat_eq r) xs) (range_with_len (a + 1) k))) ≡ 0
        side true rest = times-other n a (filter (λ r. list_any (nat_eq r) xs) (range_with_len (a + 1) k)) (λ e. absurd (omega (arith, low, e))) ∙ rest
        side false rest = rest

    set_there : list_any (nat_eq n) xs ≡ true → n < 64
    set_there e = let low = all_at (λ r. r < regions) n xs apart.below e in omega (arith, low, few)

    set_once : times n (filter (λ r. list_any (nat_eq r) xs) (range_with_len 0 64)) ≤ 1
    set_once = once 0 64
      where
        once : (a k : ℕ) → times n (filter (λ r. list_any (nat_eq r) xs) (range_with_len a k)) ≤ 1
        once a zero = let z = times-none n in omega (arith, z)
        once a (suc k) = side (list_any (nat_eq a) xs) (once (a + 1) k)
          where
            side : (s : Bool) → times n (filter (λ r. list_any (nat_eq r) xs) (range_with_len (a + 1) k)) ≤ 1 → times n (cond s (a ∷ filter (λ r. list_any (nat_eq r) xs) (range_with_len (a + 1) k)) (filter (λ r. list_any (nat_eq r) xs) (range_with_len (a + 1) k))) ≤ 1
            side true rest = here (nat_eq n a) refl
              where
                here : (b : Bool) → nat_eq n a ≡ b → cond {A = ℕ} b 1 0 + times n (filter (λ r. list_any (nat_eq r) xs) (range_with_len (a + 1) k)) ≤ 1
                here true e = let is : n ≡ a = eqb-true n a e in let z = range_times (a + 1) k (omega (arith, is)) in omega (arith, z)
                here false e = omega (arith, rest)
            side false rest = rest

    some : (ms : List ℕ) → list_any (nat_eq n) ms ≡ true → 1 ≤ times n ms
    some ms there = elim (cases_lt 0 (times n ms)) [ inl h ↦ omega (arith, h) | inr h ↦ absurd (true≢false (sym there ∙ times_absent n ms (omega (arith, h)))) ]

    by : (b : Bool) → list_any (nat_eq n) xs ≡ b → times n (filter (λ r. list_any (nat_eq r) xs) (range_with_len 0 64)) ≡ times n xs
    by true e =
        let is : list_any (nat_eq n) (filter (λ r. list_any (nat_eq r) xs) (range_with_len 0 64)) ≡ true = outside_is 0 64 n (λ r. list_any (nat_eq r) xs) (omega arith) (set_there e) ∙ e in
        let a = some (filter (λ r. list_any (nat_eq r) xs) (range_with_len 0 64)) is in
        let b = some xs e in
        let d = distinct_times xs apart.distinct n in
        omega (arith, a, b, d, set_once)
    by false e =
        elim (cases_lt n 64) [
          | inl low ↦ absent_times n (filter (λ r. list_any (nat_eq r) xs) (range_with_len 0 64)) (outside_is 0 64 n (λ r. list_any (nat_eq r) xs) (omega arith) low ∙ e) ∙ sym (absent_times n xs e)
          | inr past ↦ absent_times n (filter (λ r. list_any (nat_eq r) xs) (range_with_len 0 64)) (outside_past 0 64 n (λ r. list_any (nat_eq r) xs) (omega (arith, past))) ∙ sym (absent_times n xs e)
        ]
