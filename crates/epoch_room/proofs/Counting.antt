-- A room in numbers.
use Rattle.std.proofs.Common.{ℕ, ◌+◌, ◌^◌, ◌<◌, ◌≤◌, ◌==◌, List, [], ◌∷◌, ◌++◌, length, sym, ap, subst, arith, length-append}
use Rattle.std.specs.Prelude.{fold, option_to_list, IsTrue}
use Rattle.std.specs.List.{AllByRecursion}
use Rattle.fine_model.specs.declared.Mark.{Mark}
use Rattle.fine_model.specs.declared.Mark.TheVariants as mark
use Rattle.fine_model.specs.declared.Part.{Part}
use Rattle.fine_model.specs.RowBytes.{greatest}
use Rattle.fine_model.specs.Jobs.{job_left}
use Rattle.fine_model.proofs.Ordered.Order.{all_map}
use Rattle.fine_model.proofs.Ordered.Zip.{all_left, all_right}
use Rattle.partition_index.specs.Parts.{LiesIn, is_counted}
use Rattle.epoch_room.specs.Value.{RoomValue, all_regions, taken}
use Rattle.epoch_room.specs.Whole.{HasRegions, FollowOn, IsWhole}
use Rattle.epoch_room.proofs.RegionSets.Beside.{regions_together, few_apart}

end_most : (parts : List Part) (next e : ℕ) → e ≤ greatest → FollowOn next parts → fold (λ (e : ℕ) (p : Part). p.header.range.last) e parts ≤ greatest
end_most [] next e h follow = h
end_most (p ∷ parts) next e h follow = end_most parts (p.header.range.last + 1) p.header.range.last follow.2 follow.3

-- where a header lies, there are 1 to 8 regions
pub regions_of_header : (region_len : ℕ) (p : Part) → LiesIn region_len p.header → HasRegions p
regions_of_header region_len p lies =
    let both = by p.header.mark p.header.regions lies.counted in record { low = both.0; high = both.1; more = lies.listed }
  where
    one : (n : ℕ) → IsTrue (n == 1) → (1 ≤ n) × (n ≤ 8)
    one n h = (grind (arith, h), grind (arith, h))

    by : (m : Mark) (n : ℕ) → IsTrue (is_counted m n) → (1 ≤ n) × (n ≤ 8)
    by mark.One n h = one n h
    by mark.Two n h = one n h
    by mark.Three n h = (grind (arith, h), grind (arith, h))

module _ (value : RoomValue) (whole : IsWhole value) where
  pub sealed_most : value.room.sealed ≤ greatest
  sealed_most = subst (λ n. n ≤ greatest) (sym whole.ends) (end_most value.room.parts 1 0 (omega arith) whole.in_chain.follow)

  both_have : AllByRecursion HasRegions (value.room.parts ++ value.room.retired)
  both_have = all_map (λ (p : Part). LiesIn value.disk.region_len p.header) HasRegions (regions_of_header value.disk.region_len) (value.room.parts ++ value.room.retired) whole.lie

  pub live_have : AllByRecursion HasRegions value.room.parts
  live_have = all_left HasRegions value.room.parts value.room.retired both_have

  pub retired_have : AllByRecursion HasRegions value.room.retired
  retired_have = all_right HasRegions value.room.parts value.room.retired both_have

  -- all regions of parts are taken, and none twice
  pub both_few : length (all_regions value.room.parts) + length (all_regions value.room.retired) ≤ value.disk.regions
  both_few =
      omega (
        arith,
        few_apart value.disk.regions (taken value.room value.target) whole.apart,
        length-append (option_to_list value.target) (job_left value.room ++ (value.room.lost ++ all_regions (value.room.parts ++ value.room.retired))),
        length-append (job_left value.room) (value.room.lost ++ all_regions (value.room.parts ++ value.room.retired)),
        length-append value.room.lost (all_regions (value.room.parts ++ value.room.retired)),
        ap length (regions_together value.room.parts value.room.retired),
        length-append (all_regions value.room.parts) (all_regions value.room.retired),
      )

  pub live_few : length (all_regions value.room.parts) < 2 ^ 32
  live_few = omega (arith, both_few, whole.geometry.regions_high)

  pub retired_few : length (all_regions value.room.retired) < 2 ^ 32
  retired_few = omega (arith, both_few, whole.geometry.regions_high)
