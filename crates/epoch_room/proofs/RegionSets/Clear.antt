-- In a room in which nothing waits, is retired or is lost, and no merge is out, what is free is what is free in its image, and every sealed region leads a live part.
use Rattle.std.proofs.Common.{◌≡◌, ℕ, suc, ◌+◌, ◌<◌, ◌≤◌, ◌==◌, nat_lt, Bool, true, false, cond, not, ◌&&◌, ◌||◌, List, [], ◌∷◌, ◌++◌, length, map, None, Some, refl, sym, ap, subst, ◌∙◌, arith, append-nil, true≢false}
use Rattle.std.specs.Prelude.{count_by, filter, nat_eq, option_to_list}
use Rattle.std.specs.List.{AllByRecursion, list_any, range_with_len}
use Rattle.std.proofs.lemmas.Bool.{or_right}
use Rattle.std.proofs.lemmas.List.{length-map}
use Rattle.std.proofs.lemmas.List.Folds.{list_any-append}
use Rattle.std.proofs.lemmas.List.Sums.{sum_by-cons}
use Rattle.fine_model.specs.declared.Part.{Part}
use Rattle.fine_model.specs.Chain.{free_regions, is_free, regions_of}
use Rattle.fine_model.specs.Jobs.{job_left, job_regions}
use Rattle.fine_model.specs.Regions.{Image, HasHeader, continuations, is_sealed, region_of}
use Rattle.fine_model.specs.Trees.{is_distinct}
use Rattle.fine_model.proofs.Chain.Free.{free_law}
use Rattle.fine_model.proofs.Ordered.Nothing.{all_at}
use Rattle.fine_model.proofs.Ordered.Sets.{all_filter, all_pass}
use Rattle.fine_model.proofs.Ordered.Times.{distinct_times, times, times-append, times-none}
use Rattle.fine_model.proofs.Chain.Setting.{in_range, kept}
use Rattle.epoch_room.specs.Value.{RoomValue, all_regions, taken}
use Rattle.epoch_room.specs.Whole.{HoldsParts, IsWhole}
use Rattle.epoch_room.proofs.RegionSets.Freeing.{as_many, free_in_image, held_now, rising_distinct}
use Rattle.epoch_room.proofs.Merges.JobRegions.{outside_any}
use Rattle.epoch_room.proofs.RegionSets.Taken.{below_range, rising_filter, rising_range}

-- such a room, and what a read of its disk gives
pub record IsClear (value : RoomValue) (image : Image) : Type 0 where
  pub none_lost : value.room.lost ≡ []
  pub told : value.room.image ≡ Some image
  pub none_waits : value.room.waiting ≡ 0
  pub none_retired : value.room.retired ≡ []
  pub no_job : value.room.job ≡ None

-- ---- numbers of a range that pass a test

filter_once : (p : ℕ → Bool) (n k : ℕ) → times n (filter p (range_with_len 0 k)) ≤ 1
filter_once p n k = distinct_times (filter p (range_with_len 0 k)) (rising_distinct (filter p (range_with_len 0 k)) (rising_filter p (range_with_len 0 k) (rising_range 0 k).1)) n

filter_low : (p : ℕ → Bool) (n k : ℕ) → list_any (nat_eq n) (filter p (range_with_len 0 k)) ≡ true → n < k
filter_low p n k there = let l = all_at (λ r. r < 0 + k) n (filter p (range_with_len 0 k)) (all_filter (λ r. r < 0 + k) p (range_with_len 0 k) (below_range 0 k)) there in omega (arith, l)

filter_passes : (p : ℕ → Bool) (n k : ℕ) → list_any (nat_eq n) (filter p (range_with_len 0 k)) ≡ true → p n ≡ true
filter_passes p n k there = all_at (λ r. p r ≡ true) n (filter p (range_with_len 0 k)) (all_pass p (range_with_len 0 k)) there

filter_there : (p : ℕ → Bool) (n k : ℕ) → n < k → p n ≡ true → list_any (nat_eq n) (filter p (range_with_len 0 k)) ≡ true
filter_there p n k low passes = kept p (range_with_len 0 k) n (in_range 0 k n (omega arith) (omega (arith, low))) passes

-- as many regions pass a test as there are numbers of regions that do
count_places : (p : List ℕ → Bool) (f : ℕ → Bool) (image : Image) (a : ℕ) → ((i : ℕ) → i < length image → f (a + i) ≡ p (region_of image i)) → count_by p image ≡ length (filter f (range_with_len a (length image)))
count_places p f [] a same = refl
count_places p f (bytes ∷ image) a same =
    let first : f a ≡ p bytes = ap f (let e : a ≡ a + 0 = omega arith in e) ∙ same 0 (omega arith) in
    let rest = count_places p f image (a + 1) (λ i low. ap f (let e : a + 1 + i ≡ a + suc i = omega arith in e) ∙ same (suc i) (omega (arith, low))) in
    sum_by-cons (λ bytes. cond {A = ℕ} (p bytes) 1 0) bytes image ∙ by (f a) (p bytes) first rest
  where
    by : (s t : Bool) → s ≡ t → count_by p image ≡ length (filter f (range_with_len (a + 1) (length image)))
        → cond {A = ℕ} t 1 0 + count_by p image ≡ length (cond s (a ∷ filter f (range_with_len (a + 1) (length image))) (filter f (range_with_len (a + 1) (length image))))
    by true true e rest = omega (arith, rest)
    by false false e rest = omega (arith, rest)
    by true false e rest = absurd (true≢false e)
    by false true e rest = absurd (true≢false (sym e))

-- ---- leads

lead_any : (n : ℕ) (parts : List Part) → list_any (λ p. p.region == n) parts ≡ list_any (nat_eq n) (map (λ p. p.region) parts)
lead_any n [] = refl
lead_any n (p ∷ parts) = ap (λ b. b || list_any (λ q. q.region == n) parts) (turned p.region n) ∙ ap (λ b. nat_eq n p.region || b) (lead_any n parts)
  where
    turned : (a b : ℕ) → (a == b) ≡ nat_eq b a
    turned a b = grind arith

lead_region : (n : ℕ) (parts : List Part) → list_any (nat_eq n) (map (λ p. p.region) parts) ≡ true → list_any (nat_eq n) (all_regions parts) ≡ true
lead_region n [] there = there
lead_region n (p ∷ parts) there = list_any-append (nat_eq n) (regions_of p) (all_regions parts) ∙ by (nat_eq n p.region) refl there (λ h. lead_region n parts h)
  where
    by : (b : Bool) → nat_eq n p.region ≡ b → (b || list_any (nat_eq n) (map (λ q. q.region) parts)) ≡ true → (list_any (nat_eq n) (map (λ q. q.region) parts) ≡ true → list_any (nat_eq n) (all_regions parts) ≡ true)
        → ((nat_eq n p.region || list_any (nat_eq n) (continuations p.header)) || list_any (nat_eq n) (all_regions parts)) ≡ true
    by true e there rest = ap (λ b. (b || list_any (nat_eq n) (continuations p.header)) || list_any (nat_eq n) (all_regions parts)) e
    by false e there rest = or_right (nat_eq n p.region || list_any (nat_eq n) (continuations p.header)) (list_any (nat_eq n) (all_regions parts)) (rest there)

lead_times : (n : ℕ) (parts : List Part) → times n (map (λ p. p.region) parts) ≤ times n (all_regions parts)
lead_times n [] = omega (arith, times-none n)
lead_times n (p ∷ parts) =
    let a = times-append n (p.region ∷ []) (map (λ q. q.region) parts) in
    let b = times-append n (p.region ∷ []) (continuations p.header ++ all_regions parts) in
    let c = times-append n (continuations p.header) (all_regions parts) in
    let d = lead_times n parts in
    omega (arith, a, b, c, d)

-- a region that is free in an image is in no part
free_outside : (region_len : ℕ) (image : Image) (n : ℕ) (parts : List Part) → is_free image n ≡ true → AllByRecursion (λ p. HasHeader region_len image p.region p.header) parts → list_any (nat_eq n) (all_regions parts) ≡ false
free_outside region_len image n [] free headers = refl
free_outside region_len image n (p ∷ parts) free headers =
    list_any-append (nat_eq n) (regions_of p) (all_regions parts) ∙ ap (λ b. b || list_any (nat_eq n) (all_regions parts)) (free_law region_len image n p.region p.header free headers.0) ∙ free_outside region_len image n parts free headers.1

module _ (value : RoomValue) (image : Image) (whole : IsWhole value) (nothing : IsClear value image) where
  pub now : (length image ≡ value.disk.regions) × HoldsParts value.disk.region_len image value.room.parts value.room.retired
  now = held_now value whole nothing.none_lost image nothing.told

  pub same_len : value.room.region_len ≡ value.disk.region_len
  same_len = ap (λ r. r.region_len) whole.of_disk

  abbrev held : List ℕ
  held = all_regions (value.room.parts ++ value.room.retired)

  only_parts : taken value.room value.target ≡ held
  only_parts =
      ap (λ t. option_to_list t ++ (job_left value.room ++ (value.room.lost ++ held))) (whole.epoch.none nothing.none_waits).0
      ∙ ap (λ j. filter (λ r. not (list_any (nat_eq r) value.room.lost)) (job_regions j) ++ (value.room.lost ++ held)) nothing.no_job ∙ ap (λ l. l ++ held) nothing.none_lost

  held_once : (n : ℕ) → times n held ≤ 1
  held_once n = distinct_times held (subst (λ xs. is_distinct xs ≡ true) only_parts whole.apart.distinct) n

  held_live : held ≡ all_regions value.room.parts
  held_live = ap (λ ps. all_regions (value.room.parts ++ ps)) nothing.none_retired ∙ ap all_regions (append-nil value.room.parts)

  pub free_is : length (free_regions image) ≡ length value.room.free
  free_is =
      let low = free_in_image value whole nothing.none_lost image nothing.told in
      let high = as_many (free_regions image) value.room.free (λ n. filter_once (is_free image) n (length image)) there in
      omega (arith, low, high)
    where
      there : (n : ℕ) → list_any (nat_eq n) (free_regions image) ≡ true → list_any (nat_eq n) value.room.free ≡ true
      there n h =
          let low = filter_low (is_free image) n (length image) h in
          let none = free_outside value.disk.region_len image n (value.room.parts ++ value.room.retired) (filter_passes (is_free image) n (length image) h) now.1.headers in
          ap (list_any (nat_eq n)) whole.free ∙ outside_any value.disk.regions (taken value.room value.target) n
          ∙ ap (λ xs. not (list_any (nat_eq n) xs) && nat_lt n value.disk.regions) only_parts ∙ ap (λ b. not b && nat_lt n value.disk.regions) none ∙ below n value.disk.regions (subst (λ k. n < k) now.0 low)
        where
          below : (a b : ℕ) → a < b → nat_lt a b ≡ true
          below a b l = grind (arith, l)

  pub all_live : count_by is_sealed image ≡ length value.room.parts
  all_live =
      let p : ℕ → Bool = λ r. is_sealed (region_of image r) in
      let places : List ℕ = filter p (range_with_len 0 (length image)) in
      let leads : List ℕ = map (λ (q : Part). q.region) value.room.parts in
      let more = as_many places leads (λ n. filter_once p n (length image)) sealed_leads in
      let less = as_many leads places lead_once leads_sealed in
      let long = length-map value.room.parts (λ (q : Part). q.region) in
      let count = count_places is_sealed p image 0 (λ i low. ap p (let e : 0 + i ≡ i = omega arith in e)) in
      omega (arith, more, less, long, count)
    where
      lead_once : (n : ℕ) → times n (map (λ (q : Part). q.region) value.room.parts) ≤ 1
      lead_once n = let a = lead_times n value.room.parts in let b = held_once n in let c = ap (times n) held_live in omega (arith, a, b, c)

      leads_of : (n : ℕ) → n < length image → is_sealed (region_of image n) ≡ list_any (nat_eq n) (map (λ (q : Part). q.region) value.room.parts)
      leads_of n low = now.1.leads n low ∙ ap (λ ps. list_any (λ q. q.region == n) (value.room.parts ++ ps)) nothing.none_retired ∙ ap (list_any (λ q. q.region == n)) (append-nil value.room.parts) ∙ lead_any n value.room.parts

      sealed_leads : (n : ℕ) → list_any (nat_eq n) (filter (λ r. is_sealed (region_of image r)) (range_with_len 0 (length image))) ≡ true → list_any (nat_eq n) (map (λ (q : Part). q.region) value.room.parts) ≡ true
      sealed_leads n h = sym (leads_of n (filter_low (λ r. is_sealed (region_of image r)) n (length image) h)) ∙ filter_passes (λ r. is_sealed (region_of image r)) n (length image) h

      leads_sealed : (n : ℕ) → list_any (nat_eq n) (map (λ (q : Part). q.region) value.room.parts) ≡ true → list_any (nat_eq n) (filter (λ r. is_sealed (region_of image r)) (range_with_len 0 (length image))) ≡ true
      leads_sealed n h =
          let there = ap (list_any (nat_eq n)) held_live ∙ lead_region n value.room.parts h in
          let low = all_at (λ r. r < value.disk.regions) n held (subst (AllByRecursion (λ r. r < value.disk.regions)) only_parts whole.apart.below) there in
          let within : n < length image = subst (λ k. n < k) (sym now.0) low in
          filter_there (λ r. is_sealed (region_of image r)) n (length image) within (leads_of n within ∙ h)
