-- A room whose youngest parts were gathered, before their rows are sealed as one part.
use Rattle.std.proofs.Common.{◌≡◌, ◌≢◌, ℕ, ◌+◌, ◌*◌, ◌<◌, ◌≤◌, ◌||◌, true, false, IsTrue, List, [], ◌∷◌, ◌++◌, length, map, Some, None, refl, sym, ap, subst, ◌∙◌, arith, eq-eqb, length-append}
use Rattle.std.specs.Prelude.{IfSome, IsPermutation, Option, filter, nat_eq, not, option_map, option_to_list}
use Rattle.std.specs.List.{AllByRecursion, list_any}
use Rattle.std.proofs.lemmas.Bool.{le-leb}
use Rattle.fine_model.specs.declared.Part.{Part}
use Rattle.fine_model.specs.declared.Row.{Row}
use Rattle.fine_model.specs.declared.Mark.TheVariants as mark
use Rattle.fine_model.specs.Becomes.{IsStuck}
use Rattle.fine_model.specs.Boards.{set_of}
use Rattle.fine_model.specs.Causes.{NoneFit}
use Rattle.fine_model.specs.Chain.{chain_end, free_regions}
use Rattle.fine_model.specs.Jobs.{job_left, job_regions}
use Rattle.fine_model.specs.Merge.{encoded_len, is_ordered, nodes_in}
use Rattle.fine_model.specs.Regions.{Image, partition_bytes}
use Rattle.fine_model.specs.RowBytes.{FitsRow, rows_len}
use Rattle.fine_model.proofs.Ordered.Times.{distinct_times, times, times-append}
use Rattle.log_disk.specs.Disk.{Disk, IsUnseen, Told}
use Rattle.partition_index.specs.Parts.{LiesIn}
use Rattle.row_gathering.specs.Gathering.{AreGathered}
use Rattle.epoch_room.specs.Gathering.{gathered_part, range_over, retire_all}
use Rattle.epoch_room.specs.Value.{Kept, all_regions, regions_outside, taken, value_of}
use Rattle.epoch_room.specs.Whole.{AreApart, AreRising, FollowOn, IsWhole}
use Rattle.epoch_room.proofs.RegionSets.Beside.{regions_together}
use Rattle.epoch_room.proofs.Views.Boarding.{AreBeside, one_beside, unseen}
use Rattle.epoch_room.proofs.Counting.{both_few}
use Rattle.epoch_room.proofs.RegionSets.Freeing.{free_in_image}
use Rattle.epoch_room.proofs.Erasures.LedParts.{fewer_apart}
use Rattle.epoch_room.proofs.RegionSets.OneRegion.{set_one}
use Rattle.epoch_room.proofs.OpenEpochs.Partitions.{partition_long}
use Rattle.epoch_room.proofs.Merges.Retired.{regions_many, times_moved}
use Rattle.epoch_room.proofs.RegionSets.Taken.{SameTimes, apart_more, first_free, left_free, other_list}
use Rattle.epoch_room.proofs.Young.YoungImages.{IsYoung}
use Rattle.epoch_room.proofs.Young.YoungParts.{all_rising, end_young, follow_back, follow_ends, follow_young, young_moves}
use Rattle.epoch_room.proofs.Young.YoungRows.{some_fit}

-- a room whose youngest parts have these rows, which are spelled for its lowest free region
pub record CanGather (old entry : Disk) (kept : Kept) (before : List Part) (oldest : Part) (newer : List Part) (region : ℕ) (free : List ℕ) (rows : List Row) (bytes : List ℕ) : Type 0 where
  pub whole : IsWhole (value_of old entry kept)
  pub open_room : kept.is_shut ≡ false
  pub no_job : kept.job ≡ None
  pub split : kept.parts ≡ before ++ oldest ∷ newer
  pub several : newer ≢ []
  pub lowest : kept.free ≡ region ∷ free
  pub ordered : IsTrue (is_ordered rows)
  pub fit : AllByRecursion (FitsRow mark.Two) rows
  pub within : encoded_len rows ≤ old.region_len
  pub spelled : bytes ≡ partition_bytes old.region_len (range_over oldest newer) rows
  pub gathered : IfSome old.told (λ told. AreGathered old.region_len told.bytes (oldest ∷ newer) rows)

module _ (old entry : Disk) (kept : Kept) (before : List Part) (oldest : Part) (newer : List Part) (region : ℕ) (free : List ℕ) (rows : List Row) (bytes : List ℕ) (c : CanGather old entry kept before oldest newer region free rows bytes) where
  abbrev all_taken : List ℕ
  all_taken = taken (value_of old entry kept).room kept.target

  abbrev held : List ℕ
  held = all_regions (kept.parts ++ kept.retired)

  abbrev own : Part
  own = gathered_part region oldest newer rows

  abbrev run : List Part
  run = oldest ∷ newer

  pub none_lost : kept.lost ≡ []
  none_lost = c.whole.lost c.open_room

  -- ---- the region

  outside : region ∷ free ≡ regions_outside old.regions (taken (value_of old entry kept).room kept.target)
  outside = sym c.lowest ∙ c.whole.free

  pub there : region < old.regions
  there = (first_free old.regions region free (taken (value_of old entry kept).room kept.target) outside).there

  pub small : region < 64
  small = let m = c.whole.geometry.regions_high in omega (arith, m, there)

  pub own_apart : AreApart old.regions (region ∷ taken (value_of old entry kept).room kept.target)
  own_apart = apart_more old.regions region all_taken c.whole.apart there (first_free old.regions region free (taken (value_of old entry kept).room kept.target) outside).in_none

  pub left : free ≡ regions_outside old.regions (region ∷ taken (value_of old entry kept).room kept.target)
  left = left_free old.regions region free all_taken outside

  held_times : (n : ℕ) → times n (all_regions (kept.parts ++ kept.retired)) ≤ times n (taken (value_of old entry kept).room kept.target)
  held_times n =
      let d = times-append n (option_to_list kept.target) (job_left (value_of old entry kept).room ++ (kept.lost ++ held)) in
      let e = times-append n (job_left (value_of old entry kept).room) (kept.lost ++ held) in
      let f = times-append n kept.lost held in
      omega (arith, d, e, f)

  with_held : AreApart old.regions ((region ∷ []) ++ all_regions (kept.parts ++ kept.retired))
  with_held =
      fewer_apart old.regions (region ∷ all_taken) (region ∷ held)
      (λ n.
      let a = times-append n (region ∷ []) all_taken in
      let b = times-append n (region ∷ []) held in
      let h = held_times n in
      omega (arith, a, b, h)) own_apart

  pub not_held : list_any (nat_eq region) (all_regions (kept.parts ++ kept.retired)) ≡ false
  not_held = other_list old.regions (region ∷ []) held region with_held (ap (λ b. b || false) (eq-eqb region region refl))

  pub beside : AreBeside (region ∷ []) (kept.parts ++ kept.retired)
  beside = one_beside region (kept.parts ++ kept.retired) not_held

  pub no_eye : IsUnseen old region
  no_eye = unseen old (kept.parts ++ kept.retired) region c.whole.board.of_parts not_held

  -- ---- the bytes

  pub bytes_fit : 1 + length bytes ≤ old.region_len
  bytes_fit = omega (arith, ap length c.spelled, partition_long old.region_len (range_over oldest newer) rows, c.within)

  follows : FollowOn 1 (before ++ oldest ∷ newer)
  follows = subst (FollowOn 1) c.split c.whole.in_chain.follow

  pub young : IsYoung old.region_len oldest newer rows bytes
  young =
      let from = follow_back before (oldest ∷ newer) 1 (omega arith) follows in
      let ends = follow_ends oldest newer from.0 from.2 in
      record {
        several = c.several;
        small = c.whole.geometry.len_high;
        epochs = record { low = (let f = ends.0 in let l = from.1 in omega (arith, f, l)); order = (let f = ends.0 in let l = ends.1 in omega (arith, f, l)); high = ends.2 };
        ordered = c.ordered;
        fit = c.fit;
        within = c.within;
        spelled = c.spelled;
      }

  pub lies : LiesIn old.region_len (gathered_part region oldest newer rows).header
  lies = record {
    large = let l = c.whole.geometry.len_low in omega (arith, l);
    small = c.whole.geometry.len_high;
    listed = refl;
    counted = refl;
    lies = le-leb (41 + (rows_len rows + 14 * length (nodes_in rows))) old.region_len c.within;
  }

  -- such a room can take something
  pub not_stuck : IsStuck (value_of old entry kept).room → ⊥
  not_stuck s = by old.told s.told c.gathered
    where
      free_some : 1 ≤ length kept.free
      free_some = omega (arith, ap length c.lowest)

      by : (t : Option Told) → option_map (λ (t : Told). t.bytes) t ≡ Some s.image → IfSome t (λ told. AreGathered old.region_len told.bytes (oldest ∷ newer) rows) → ⊥
      by None is gathered = let e : ◌≡◌ {A = Option Image} None (Some s.image) = is in cc
      by (Some t) is gathered =
          let same : t.bytes ≡ s.image = some_is t.bytes s.image is in
          let f = free_in_image (value_of old entry kept) c.whole none_lost s.image s.told in
          some_fit old.region_len s.image before oldest newer rows (subst (λ (i : Image). AreGathered old.region_len i (oldest ∷ newer) rows) same gathered) c.several c.ordered c.within (length (free_regions s.image))
          (let some = free_some in omega (arith, f, some)) (subst (λ ps. NoneFit old.region_len s.image ps (length (free_regions s.image))) c.split s.no_merge)
        where
          some_is : (x y : Image) → ◌≡◌ {A = Option Image} (Some x) (Some y) → x ≡ y
          some_is x y e = cc

  -- ---- the parts

  pub same_end : chain_end (before ++ gathered_part region oldest newer rows ∷ []) ≡ chain_end kept.parts
  same_end = end_young before own [] ∙ sym (end_young before oldest newer) ∙ ap chain_end (sym c.split)

  pub follow_now : FollowOn 1 (before ++ gathered_part region oldest newer rows ∷ [])
  follow_now = follow_young before oldest newer own 1 refl refl follows

  pub moves_both : IsPermutation (gathered_part region oldest newer rows ∷ ((before ++ oldest ∷ newer) ++ kept.retired)) ((before ++ gathered_part region oldest newer rows ∷ []) ++ retire_all (oldest ∷ newer) kept.retired)
  moves_both = young_moves before run kept.retired own

  pub moves : IsPermutation (gathered_part region oldest newer rows ∷ (kept.parts ++ kept.retired)) ((before ++ gathered_part region oldest newer rows ∷ []) ++ retire_all (oldest ∷ newer) kept.retired)
  moves = subst (λ ps. IsPermutation (own ∷ (ps ++ kept.retired)) ((before ++ own ∷ []) ++ retire_all run kept.retired)) (sym c.split) moves_both

  held_once : (n : ℕ) → times n (all_regions (kept.parts ++ kept.retired)) ≤ 1
  held_once n = let d = distinct_times (taken (value_of old entry kept).room kept.target) c.whole.apart.distinct n in let h = held_times n in omega (arith, d, h)

  run_once : (n : ℕ) → times n (all_regions ((oldest ∷ newer) ++ kept.retired)) ≤ 1
  run_once n =
      let a = ap (times n) (regions_together kept.parts kept.retired) ∙ times-append n (all_regions kept.parts) (all_regions kept.retired) in
      let b = ap (λ ps. times n (all_regions ps)) c.split ∙ ap (times n) (regions_together before run) ∙ times-append n (all_regions before) (all_regions run) in
      let d = ap (times n) (regions_together run kept.retired) ∙ times-append n (all_regions run) (all_regions kept.retired) in
      let h = held_once n in
      omega (arith, a, b, d, h)

  pub rising_now : AreRising (map (λ p. p.region) (retire_all (oldest ∷ newer) kept.retired))
  rising_now = all_rising run kept.retired run_once c.whole.rising

  -- there is room for all of them among the retired ones
  pub retired_room : length (oldest ∷ newer) + length kept.retired ≤ 64
  retired_room =
      let f = both_few (value_of old entry kept) c.whole in
      let p = regions_many kept.parts in
      let r = regions_many kept.retired in
      let l = ap length c.split in
      let a = length-append before (oldest ∷ newer) in
      let g = c.whole.geometry.regions_high in
      omega (arith, f, p, r, l, a, g)

  -- the region is the new part's
  pub gathered_times : (new : Disk) → SameTimes (region ∷ taken (value_of old entry kept).room kept.target)
      (taken (value_of new entry (record kept { parts = before ++ gathered_part region oldest newer rows ∷ []; retired = retire_all (oldest ∷ newer) kept.retired; free = free })).room kept.target)
  gathered_times new n =
      let t : List ℕ = option_to_list kept.target in
      let now : List ℕ = all_regions ((before ++ own ∷ []) ++ retire_all run kept.retired) in
      let j : List ℕ = job_left (value_of old entry kept).room in
      let z = times-append n (region ∷ []) all_taken in
      let a = times-append n t (j ++ (kept.lost ++ held)) in
      let b = times-append n j (kept.lost ++ held) in
      let d = times-append n kept.lost held in
      let a' = times-append n t (j ++ (kept.lost ++ now)) in
      let b' = times-append n j (kept.lost ++ now) in
      let d' = times-append n kept.lost now in
      let m = times_moved n (own ∷ (kept.parts ++ kept.retired)) ((before ++ own ∷ []) ++ retire_all run kept.retired) moves in
      let p = times-append n (region ∷ []) held in
      omega (arith, z, a, b, d, a', b', d', m, p)

  -- it is lost
  pub lost_times : (new : Disk) → SameTimes (region ∷ taken (value_of old entry kept).room kept.target) (taken (value_of new entry (record kept { free = free; lost = region ∷ []; is_shut = true })).room kept.target)
  lost_times new n =
      let t : List ℕ = option_to_list kept.target in
      let left' : List ℕ = job_left (value_of new entry (record kept { free = free; lost = region ∷ []; is_shut = true })).room in
      let j : times n (job_left (value_of old entry kept).room) ≡ times n [] = ap (λ job. times n (filter (λ r. not (list_any (nat_eq r) kept.lost)) (job_regions job))) c.no_job in
      let j' : times n left' ≡ times n [] = ap (λ job. times n (filter (λ r. not (list_any (nat_eq r) (region ∷ []))) (job_regions job))) c.no_job in
      let z = times-append n (region ∷ []) all_taken in
      let a = times-append n t (job_left (value_of old entry kept).room ++ (kept.lost ++ held)) in
      let b = times-append n (job_left (value_of old entry kept).room) (kept.lost ++ held) in
      let e = ap (λ lost. times n (lost ++ held)) none_lost in
      let a' = times-append n t (left' ++ (region ∷ held)) in
      let b' = times-append n left' (region ∷ held) in
      let e' = times-append n (region ∷ []) held in
      omega (arith, j, j', z, a, b, e, a', b', e')

  pub lost_is : set_of (region ∷ []) ≡ region ∷ []
  lost_is = set_one region small
