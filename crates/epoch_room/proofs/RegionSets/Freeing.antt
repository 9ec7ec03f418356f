-- What is free in a room is free in the image of its disk.
use Rattle.std.proofs.Common.{◌≡◌, ℕ, ◌+◌, ◌<◌, ◌≤◌, Bool, true, false, not, ◌&&◌, ◌||◌, List, [], ◌∷◌, ◌++◌, length, Some, None, refl, sym, ap, subst, ◌∙◌, arith, eq-eqb, length-append}
use Rattle.std.specs.Prelude.{Option, filter, nat_eq, option_map, option_to_list, IfSome}
use Rattle.std.specs.List.{AllByRecursion, list_any, range_with_len}
use Rattle.std.specs.Cmp.{IsEquivalence}
use Rattle.std.proofs.lemmas.Bool.{eqb-true, or_parts}
use Rattle.std.proofs.lemmas.List.Folds.{list_any-append}
use Rattle.std.proofs.lemmas.Map.Made.{length-le_from_is_member}
use Rattle.fine_model.specs.declared.Header.{Header}
use Rattle.fine_model.specs.declared.Job.{Job}
use Rattle.fine_model.specs.declared.law.RoomState.{RoomState}
use Rattle.fine_model.specs.Regions.{Image}
use Rattle.fine_model.specs.Chain.{is_free, free_regions}
use Rattle.fine_model.specs.Jobs.{job_left, job_regions, taken_by}
use Rattle.fine_model.specs.Trees.{is_distinct}
use Rattle.fine_model.proofs.Ordered.Nothing.{none_any, all_at}
use Rattle.fine_model.proofs.Ordered.Order.{all_map, filter_all}
use Rattle.fine_model.proofs.Chain.Setting.{in_range, kept}
use Rattle.fine_model.proofs.Ordered.Times.{times, times-append, distinct_times, times_distinct, absent_times}
use Rattle.log_disk.specs.Disk.{Told, IsToldOf}
use Rattle.log_disk.specs.Moments.{IsLeft}
use Rattle.epoch_room.specs.Fitting.{one_taken, taken_once}
use Rattle.epoch_room.specs.Value.{RoomValue, all_regions, taken}
use Rattle.epoch_room.specs.Whole.{AreRising, AreApart, HoldsParts, IsWhole}
use Rattle.epoch_room.proofs.RegionSets.Beside.{distinct_from}
use Rattle.epoch_room.proofs.OpenEpochs.Holding.{free_of}
use Rattle.epoch_room.proofs.RegionSets.Taken.{rising_outside, outside_there, outside_not, other_list, apart_back}

-- ---- how many regions are free

pub free_there : (image : Image) (r : ℕ) → r < length image → is_free image r ≡ true → list_any (nat_eq r) (free_regions image) ≡ true
free_there image r there free = kept (is_free image) (range_with_len 0 (length image)) r (in_range 0 (length image) r (omega arith) (omega (arith, there))) free

pub nat_alike : IsEquivalence nat_eq
nat_alike = record { refl = λ i. eq-eqb i i refl; symm = λ i j. turned i j; congr = λ i j k h. ap (λ n. nat_eq n k) (eqb-true i j h) }
  where
    turned : (i j : ℕ) → nat_eq i j ≡ nat_eq j i
    turned i j = grind arith

-- as many as are apart and are there
pub as_many : (xs ys : List ℕ) → ((n : ℕ) → times n xs ≤ 1) → ((n : ℕ) → list_any (nat_eq n) xs ≡ true → list_any (nat_eq n) ys ≡ true) → length xs ≤ length ys
as_many xs ys once among = length-le_from_is_member nat_alike xs ys (distinct_from xs (times_distinct xs once)) among

pub rising_distinct : (xs : List ℕ) → AreRising xs → is_distinct xs ≡ true
unfolding is_distinct
rising_distinct [] up = refl
rising_distinct (x ∷ xs) up =
    ap (λ b. not b && is_distinct xs) (none_any (nat_eq x) xs (all_map (λ y. x < y) (λ y. nat_eq x y ≡ false) (λ y h. apart x y h) xs up.0)) ∙ rising_distinct xs up.1
  where
    apart : (m n : ℕ) → m < n → nat_eq m n ≡ false
    apart m n h = grind (arith, h)

-- ---- what is free, and what a merge has taken

module _ (value : RoomValue) (whole : IsWhole value) (none_lost : value.room.lost ≡ []) where
  -- no region of a merge is lost
  pub job_regions_left : job_left value.room ≡ job_regions value.room.job
  job_regions_left = ap (λ lost. filter (λ r. not (list_any (nat_eq r) lost)) (job_regions value.room.job)) none_lost ∙ filter_all (λ r. true) (job_regions value.room.job) (yes (job_regions value.room.job))
    where
      yes : (xs : List ℕ) → AllByRecursion (λ r. true ≡ true) xs
      yes [] = tt
      yes (x ∷ xs) = (refl, yes xs)

  job_long : one_taken value.room.job ≤ length (job_left value.room)
  job_long = subst (λ rs. one_taken value.room.job ≤ length rs) (sym job_regions_left) (by value.room.job)
    where
      headed : (target : ℕ) (header : Option Header) → taken_once header ≤ length (taken_by target header)
      headed target None = omega arith
      headed target (Some header) = omega arith

      by : (job : Option Job) → one_taken job ≤ length (job_regions job)
      by None = omega arith
      by (Some job) = headed job.target job.header

  -- the regions of parts
  abbrev held : List ℕ
  held = all_regions (value.room.parts ++ value.room.retired)

  -- what is taken and no part's: the target, and what a merge has
  in_held : (r : ℕ) → list_any (nat_eq r) (taken value.room value.target) ≡ false → list_any (nat_eq r) held ≡ false
  in_held r h =
      let a = or_parts (list_any (nat_eq r) (option_to_list value.target)) _ (sym (list_any-append (nat_eq r) (option_to_list value.target) (job_left value.room ++ (value.room.lost ++ held))) ∙ h) in
      let b = or_parts (list_any (nat_eq r) (job_left value.room)) _ (sym (list_any-append (nat_eq r) (job_left value.room) (value.room.lost ++ held)) ∙ a.1) in
      (or_parts (list_any (nat_eq r) value.room.lost) _ (sym (list_any-append (nat_eq r) value.room.lost held) ∙ b.1)).1

  pub job_apart : (r : ℕ) → list_any (nat_eq r) (job_left value.room) ≡ true → (list_any (nat_eq r) held ≡ false) × (r < value.disk.regions)
  job_apart r there =
      let behind : AreApart value.disk.regions (job_left value.room ++ (value.room.lost ++ held)) = apart_back value.disk.regions (option_to_list value.target) _ whole.apart in (
        (or_parts (list_any (nat_eq r) value.room.lost) _ (sym (list_any-append (nat_eq r) value.room.lost held) ∙ other_list value.disk.regions (job_left value.room) (value.room.lost ++ held) r behind there)).1,
        all_at (λ n. n < value.disk.regions) r (job_left value.room ++ (value.room.lost ++ held)) behind.below (list_any-append (nat_eq r) (job_left value.room) (value.room.lost ++ held) ∙ ap (λ b. b || list_any (nat_eq r) (value.room.lost ++ held)) there),
      )

  abbrev spare : List ℕ
  spare = value.room.free ++ job_left value.room

  spare_once : (n : ℕ) → times n spare ≤ 1
  spare_once n = by (list_any (nat_eq n) value.room.free) refl
    where
      job_once : times n (job_left value.room) ≤ 1
      job_once =
          let d = distinct_times (taken value.room value.target) whole.apart.distinct n in
          let a = times-append n (option_to_list value.target) (job_left value.room ++ (value.room.lost ++ held)) in
          let b = times-append n (job_left value.room) (value.room.lost ++ held) in
          omega (arith, d, a, b)

      free_once : times n value.room.free ≤ 1
      free_once = distinct_times value.room.free (rising_distinct value.room.free (subst AreRising (sym whole.free) (rising_outside value.disk.regions (taken value.room value.target)))) n

      joined : times n spare ≡ times n value.room.free + times n (job_left value.room)
      joined = times-append n value.room.free (job_left value.room)

      by : (b : Bool) → list_any (nat_eq n) value.room.free ≡ b → times n spare ≤ 1
      by false e = let z = absent_times n value.room.free e in omega (arith, z, job_once, joined)
      by true e =
          let out = outside_not value.disk.regions (taken value.room value.target) n (subst (λ xs. list_any (nat_eq n) xs ≡ true) whole.free e) in
          let a = or_parts (list_any (nat_eq n) (option_to_list value.target)) _ (sym (list_any-append (nat_eq n) (option_to_list value.target) (job_left value.room ++ (value.room.lost ++ held))) ∙ out) in
          let b = or_parts (list_any (nat_eq n) (job_left value.room)) _ (sym (list_any-append (nat_eq n) (job_left value.room) (value.room.lost ++ held)) ∙ a.1) in
          let z = absent_times n (job_left value.room) b.0 in
          omega (arith, z, free_once, joined)

  spare_there : (n : ℕ) → list_any (nat_eq n) spare ≡ true → (list_any (nat_eq n) held ≡ false) × (n < value.disk.regions)
  spare_there n there = by (list_any (nat_eq n) value.room.free) refl
    where
      by : (b : Bool) → list_any (nat_eq n) value.room.free ≡ b → (list_any (nat_eq n) held ≡ false) × (n < value.disk.regions)
      by true e =
          let in_free = subst (λ xs. list_any (nat_eq n) xs ≡ true) whole.free e in
          (in_held n (outside_not value.disk.regions (taken value.room value.target) n in_free), outside_there value.disk.regions (taken value.room value.target) n in_free)
      by false e = job_apart n (ap (λ b. b || list_any (nat_eq n) (job_left value.room)) (sym e) ∙ sym (list_any-append (nat_eq n) value.room.free (job_left value.room)) ∙ there)

  told_at : (told : Option Told) (image : Image) → option_map (λ (t : Told). t.bytes) told ≡ Some image → IfSome told (IsToldOf value.disk) → IfSome told (IsLeft (λ i. HoldsParts value.disk.region_len i value.room.parts value.room.retired))
      → (length image ≡ value.disk.regions) × HoldsParts value.disk.region_len image value.room.parts value.room.retired
  told_at None image is sound left = absurd (let e : ◌≡◌ {A = Option Image} None (Some image) = is in cc)
  told_at (Some t) image is sound left =
      let e : t.bytes ≡ image = same is in (
        ap length (sym e) ∙ sound.regions,
        subst (λ i. HoldsParts value.disk.region_len i value.room.parts value.room.retired) e (left t.bytes sound.image),
      )
    where
      same : ◌≡◌ {A = Option Image} (Some t.bytes) (Some image) → t.bytes ≡ image
      same h = cc

  pub held_now : (image : Image) → value.room.image ≡ Some image → (length image ≡ value.disk.regions) × HoldsParts value.disk.region_len image value.room.parts value.room.retired
  held_now image is = told_at value.disk.told image (sym (ap (λ (r : RoomState). r.image) whole.of_disk) ∙ is) whole.sound.told (whole.told none_lost)

  pub free_in_image : (image : Image) → value.room.image ≡ Some image → length value.room.free + one_taken value.room.job ≤ length (free_regions image)
  free_in_image image is =
      let now = held_now image is in
      let most = as_many spare (free_regions image) spare_once
      (λ n there. let s = spare_there n there in let low : n < length image = subst (λ k. n < k) (sym now.0) s.1 in
      free_there image n low (free_of value.disk.region_len image value.room.parts value.room.retired n now.1 low s.0)) in
      let l = length-append value.room.free (job_left value.room) in
      let j = job_long in
      omega (arith, most, l, j)
