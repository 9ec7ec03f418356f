-- What the live parts are made of behind a seal.
use Rattle.std.proofs.Common.{◌≡◌, ◌∙◌, ◌≢◌, ℕ, ◌+◌, ◌<◌, ◌≤◌, ◌||◌, false, IsTrue, List, [], ◌∷◌, ◌++◌, length, map, Option, Some, None, Ok, refl, sym, ap, subst, arith, append-nil, append_assoc}
use Rattle.std.specs.Prelude.{Contains, IfSome, nat_eq, option_map, option_to_list, unwrap_or}
use Rattle.std.specs.List.{AllByRecursion, list_any}
use Rattle.std.proofs.lemmas.Grind.{flat_map-append}
use Rattle.std.proofs.lemmas.List.{map-append}
use Rattle.std.proofs.lemmas.List.Elements.{All-contains, All-from_recursion, Contains-append_left, Contains-append_right}
use Rattle.log_disk.specs.Disk.{IsToldOf, Told, region_of}
use Rattle.fine_model.specs.declared.Mark.TheVariants as mark
use Rattle.fine_model.specs.declared.Part.{Part}
use Rattle.fine_model.specs.declared.Range.{Range}
use Rattle.fine_model.specs.declared.Row.{Row}
use Rattle.fine_model.specs.declared.law.RoomState.{RoomState}
use Rattle.fine_model.specs.Chain.{regions_of}
use Rattle.fine_model.specs.Jobs.{job_left}
use Rattle.fine_model.specs.Merge.{encoded_len, is_ordered}
use Rattle.fine_model.specs.Regions.{HasHeader, Image, IsSealed, partition_bytes}
use Rattle.fine_model.specs.VersionLaws.{HaveSameRows}
use Rattle.fine_model.proofs.Ordered.Times.{distinct_times, times, times-append, times-same}
use Rattle.log_partition.proofs.Sealed.{sealed_again}
use Rattle.damage_laws.specs.Made.{AreMadeOf, IsMadeOf, Made, Source, at_entry, one, since, sources}
use Rattle.damage_laws.specs.Places.{AreKeptOrGood}
use Rattle.damage_laws.proofs.Counted.{counted}
use Rattle.damage_laws.proofs.MergedFinds.{sealed_law}
use Rattle.epoch_room.specs.Gate.{KeepsBeside}
use Rattle.epoch_room.specs.Meaning.{HoldsEpoch, with_epoch}
use Rattle.epoch_room.specs.Steps.{SealsOr, next_part, sealed_state}
use Rattle.epoch_room.specs.Value.{RoomValue, all_regions, on, taken}
use Rattle.epoch_room.specs.Whole.{HoldsParts, IsWhole}
use Rattle.epoch_room.proofs.RegionSets.Beside.{regions_together}
use Rattle.epoch_room.proofs.RegionSets.Freeing.{held_now}
use Rattle.epoch_room.proofs.OpenEpochs.Partitions.{alike, partition_long}
use Rattle.epoch_room.proofs.OpenEpochs.Torn.{HasOpened, sealed_bytes}
use Rattle.room_steps.specs.Made.{AreCounted, MadeOn}
use Rattle.room_steps.proofs.JoinedMade.{all_good, all_still, seal_good}
use Rattle.room_steps.proofs.BesideMade.{BothRead, both_read, bytes_are, each_counted, images, in_parts, long_as, unchanged}

-- no live part has the target of the open epoch
pub target_apart : (value : RoomValue) → IsWhole value → (p : Part) → Contains value.room.parts p → AllByRecursion (λ r. list_any (nat_eq r) (option_to_list value.target) ≡ false) (regions_of p)
target_apart value whole p there = each_counted (λ r. list_any (nat_eq r) (option_to_list value.target) ≡ false) (regions_of p) (λ r low. by value.target refl r low)
  where
    other : (m n : ℕ) → m ≢ n → (nat_eq m n || false) ≡ false
    other m n h = grind (arith, h)

    by : (target : Option ℕ) → value.target ≡ target → (r : ℕ) → 1 ≤ times r (regions_of p) → list_any (nat_eq r) (option_to_list target) ≡ false
    by None is r low = refl
    by (Some t) is r low = other r t (λ same. twice (subst (λ n. 1 ≤ times n (regions_of p)) same low))
      where
        twice : 1 ≤ times t (regions_of p) → ⊥
        twice low =
            let live = value.room.parts in
            let held = all_regions (live ++ value.room.retired) in
            let d = distinct_times (taken value.room value.target) whole.apart.distinct t in
            let a = times-append t (option_to_list value.target) (job_left value.room ++ (value.room.lost ++ held)) in
            let b = times-append t (job_left value.room) (value.room.lost ++ held) in
            let c = times-append t value.room.lost held in
            let e = ap (times t) (regions_together live value.room.retired) ∙ times-append t (all_regions live) (all_regions value.room.retired) in
            let own = in_parts p live t there in
            let at = ap (λ o. times t (option_to_list o)) is ∙ times-same t [] in
            omega (arith, d, a, b, c, e, own, at, low)

-- ---- a seal

sealed_parts : (value : RoomValue) → (sealed_state value).parts ≡ value.room.parts ++ next_part value ∷ []
unfolding sealed_state
sealed_parts value = refl

sealed_rows : (value : RoomValue) → (sealed_state value).open_rows ≡ []
unfolding sealed_state
sealed_rows value = refl

sealed_open : (value : RoomValue) → (sealed_state value).is_shut ≡ value.room.is_shut
unfolding sealed_state
sealed_open value = refl

next_region : (value : RoomValue) → (next_part value).region ≡ unwrap_or value.target 0
unfolding next_part
next_region value = refl

abbrev range_of : RoomValue → Range
range_of value = record { first = value.room.sealed + 1; last = value.room.sealed + 1 }

next_range : (value : RoomValue) → (next_part value).header.range ≡ range_of value
unfolding next_part
next_range value = refl

module _ (old new : RoomValue) (was : IsWhole old) (whole : IsWhole new) (some : 1 ≤ old.room.waiting) (epoch : ℕ) (s : SealsOr old new (Ok epoch)) (read : KeepsBeside (option_to_list old.target) old.disk new.disk) (holds : HoldsEpoch old new) where
  opened : old.room.is_shut ≡ false
  opened = s.2.0

  state : new.room ≡ on (sealed_state old) new.disk
  state = s.2.1.room

  parts_now : new.room.parts ≡ old.room.parts ++ next_part old ∷ []
  parts_now = ap (λ (r : RoomState). r.parts) state ∙ sealed_parts old

  still_open : new.room.is_shut ≡ false
  still_open = ap (λ (r : RoomState). r.is_shut) state ∙ sealed_open old ∙ opened

  old_len : old.room.region_len ≡ old.disk.region_len
  old_len = ap (λ (r : RoomState). r.region_len) was.of_disk

  new_len : new.disk.region_len ≡ old.room.region_len
  new_len = s.2.1.region_len ∙ sym old_len

  abbrev sorted : List Row
  sorted = holds.sorted

  abbrev bytes : List ℕ
  bytes = partition_bytes old.room.region_len (range_of old) sorted

  abbrev at : ℕ
  at = unwrap_or old.target 0

  fits : encoded_len sorted ≤ old.room.region_len
  fits = let c = (alike old.room.open_rows sorted holds.is_arranged).same_cost in let k = was.epoch.costs in let w = was.epoch.within in omega (arith, c, k, w)

  there : at < old.disk.regions
  there = by old.target refl (was.epoch.some (was.lost opened) some)
    where
      by : (target : Option ℕ) → old.target ≡ target → (region : ℕ) × (old.target ≡ Some region) → unwrap_or target 0 < old.disk.regions
      by None none (region, is) = absurd (let e : ◌≡◌ {A = Option ℕ} None (Some region) = sym none ∙ is in cc)
      by (Some t) is some' = (subst (λ o. AllByRecursion (λ r. r < old.disk.regions) (option_to_list o ++ (job_left old.room ++ (old.room.lost ++ all_regions (old.room.parts ++ old.room.retired))))) is was.apart.below).0

  module _ (counts : AreCounted old.room.open_rows) (first last : Image) (is_first : old.room.image ≡ Some first) (is_last : new.room.image ≡ Some last) where
    is_held : (length last ≡ new.disk.regions) × HoldsParts new.disk.region_len last new.room.parts new.room.retired
    is_held = held_now new whole (whole.lost still_open) last is_last

    epoch_now : BothRead (λ a b. b.bytes ≡ with_epoch old sorted a.bytes) old.disk.told new.disk.told first last
    epoch_now = both_read _ old.disk.told new.disk.told first last holds.bytes (images old was first is_first) (images new whole last is_last)

    -- sorted, each node has the rows that it had
    same_rows : HaveSameRows old.room.open_rows sorted × IsTrue (is_ordered sorted)
    same_rows = counted old.room.open_rows sorted counts holds.is_arranged.permuted holds.is_arranged.sorted

    written : HasOpened at bytes first last
    written =
        subst (HasOpened at bytes first) (sym (sym epoch_now.last_is ∙ epoch_now.related ∙ ap (with_epoch old sorted) epoch_now.first_is))
        (sealed_bytes at bytes first (let l = long_as old was first is_first in let t = there in omega (arith, l, t)) long)
      where
        lengths : (t : Option Told) → old.disk.told ≡ t → IfSome t (IsToldOf old.disk) → option_map (λ (t : Told). t.bytes) t ≡ Some first → length (region_of first at) ≡ old.disk.region_len
        lengths None is told e = absurd (let x = e in cc)
        lengths (Some t) is told e = ap (λ i. length (region_of i at)) (sym (bytes_are t first e)) ∙ told.lengths at there

        long : 1 + length bytes ≤ length (region_of first at)
        long =
            let l = lengths old.disk.told refl was.sound.told (images old was first is_first) in
            let p = partition_long old.room.region_len (range_of old) sorted in
            let f = fits in let e = old_len in omega (arith, l, p, f, e)

    is_sealed : IsSealed old.room.region_len last at (range_of old) sorted
    is_sealed =
        sealed_again old.room.region_len (range_of old) sorted last at written.rest (let e = old_len in let h = was.geometry.len_high in omega (arith, e, h))
        (record { low = omega arith; order = omega arith; high = was.epoch.epoch some }) ((alike old.room.open_rows sorted holds.is_arranged).fit mark.Two was.epoch.fits) same_rows.1 fits written.spelled

    has_header : HasHeader old.room.region_len last (next_part old).region (next_part old).header
    has_header =
        subst (λ n. HasHeader n last (next_part old).region (next_part old).header) new_len
        (All-contains (λ (q : Part). HasHeader new.disk.region_len last q.region q.header) (new.room.parts ++ new.room.retired) (next_part old) (All-from_recursion _ (new.room.parts ++ new.room.retired) is_held.1.headers)
        (Contains-append_left new.room.parts new.room.retired (next_part old) (subst (λ ps. Contains ps (next_part old)) (sym parts_now) (Contains-append_right old.room.parts (next_part old ∷ []) (next_part old) (0, omega arith, refl)))))

    own_sealed : IsSealed old.room.region_len last (next_part old).region (next_part old).header.range sorted
    own_sealed =
        subst (λ r. IsSealed old.room.region_len last (next_part old).region r sorted) (sym (next_range old)) (subst (λ n. IsSealed old.room.region_len last n (range_of old) sorted) (sym (next_region old)) is_sealed)

    own_made : (entry : Image) → IsMadeOf old.room.region_len entry last (one (since old.room.open_rows)) (next_part old)
    own_made entry =
        sealed_law old.room.region_len entry last (next_part old) old.room.open_rows sorted has_header own_sealed same_rows.0

    more_made : (entry : Image) (parts : List Part) (sealed : List (List Row)) → AreMadeOf old.room.region_len entry first parts sealed old.room.parts → AreMadeOf old.room.region_len entry last parts (sealed ++ old.room.open_rows ∷ []) new.room.parts
    more_made entry parts sealed am = record {
      made = am.made ++ own ∷ [];
      are = parts_now ∙ ap (λ ps. ps ++ next_part old ∷ []) am.are ∙ sym (map-append (λ (m : Made × Part). m.1) am.made (own ∷ []));
      of_all = flat_map-append Of am.made (own ∷ []) ∙ ap (λ xs. xs ++ since old.room.open_rows ∷ []) am.of_all ∙ append_assoc (map at_entry parts) (map since sealed) (since old.room.open_rows ∷ [])
          ∙ ap (λ xs. map at_entry parts ++ xs) (sym (map-append since sealed (old.room.open_rows ∷ [])));
      each = both am.made (all_still old.room.region_len entry first last am.made (λ p here. unchanged old new was whole opened s.2.1.regions (option_to_list old.target) (target_apart old was) read first last is_first is_last p (subst (λ ps. Contains ps p) (sym am.are) here)) am.each);
    }
      where
        own : Made × Part
        own = (one (since old.room.open_rows), next_part old)

        Of : Made × Part → List Source
        Of m = sources m.0

        both : (xs : List (Made × Part)) → AllByRecursion (λ m. IsMadeOf old.room.region_len entry last m.0 m.1) xs → AllByRecursion (λ m. IsMadeOf old.room.region_len entry last m.0 m.1) (xs ++ own ∷ [])
        both [] all = (own_made entry, tt)
        both (x ∷ xs) all = (all.0, both xs all.1)

  pub seal_made : MadeOn old new
  seal_made = record {
    more = old.room.open_rows ∷ [];
    rows = ap (λ xs. (old.room.open_rows ++ []) ++ xs) (ap (λ (r : RoomState). r.open_rows) state ∙ sealed_rows old) ∙ append-nil (old.room.open_rows ++ []) ∙ append-nil old.room.open_rows;
    lives = λ counts. record {
      makes = λ entry first last parts sealed is_first is_last made. more_made counts first last is_first is_last entry parts sealed made;
      good = λ entry first last parts is_first is_last good.
          subst (AreKeptOrGood old.room.region_len entry last parts) (sym parts_now)
          (seal_good old.room.region_len entry last parts old.room.parts (next_part old) (record { header = has_header counts first last is_first is_last; rows = sorted; sealed = own_sealed counts first last is_first is_last })
          (all_good old.room.region_len entry first last parts old.room.parts (unchanged old new was whole opened s.2.1.regions (option_to_list old.target) (target_apart old was) read first last is_first is_last) good));
    };
  }
