-- What a crash leaves of a disk in memory, by the bytes that were picked for the unsynced ranges.
use Rattle.std.specs.Prelude.{◌≡◌, ℕ, ◌+◌, zero, suc, Bool, ◌&&◌, nat_le, nat_lt, nat_eq, List, length, map, Some, slice_index, slice_index_or, if◌then◌else◌}
use Rattle.std.specs.List.{list_any, range_with_len}
use Rattle.log_disk.specs.Disk.{Image, region_of, Span, Moment, Told, Disk, new_disk, told_anew}

-- a byte of a region lies in a range
abbrev pub covers : ℕ → ℕ → Span → Bool
covers region at span = nat_eq span.region region && nat_le span.from at && nat_lt at span.end

-- a byte of a region lies in an unsynced range
unfoldable pub is_pending : List Span → ℕ → ℕ → Bool
is_pending spans region at = list_any (covers region at) spans

-- how many bytes of a region below an offset do
unfoldable pub pending_in : List Span → ℕ → ℕ → ℕ
pending_in spans region zero = 0
pending_in spans region (suc at) = pending_in spans region at + (if is_pending spans region at then 1 else 0)

-- the byte of a region at an offset, which was there, after the pending ones took their picks
unfoldable pub picked_byte : List Span → ℕ → ℕ → List ℕ → ℕ → ℕ
picked_byte spans region was picks at =
    if is_pending spans region at then slice_index_or picks (pending_in spans region at) was else was

-- how many bytes of all regions below one do
unfoldable pub pending_below : Moment → ℕ → ℕ
pending_below moment zero = 0
pending_below moment (suc region) =
    pending_below moment region + pending_in moment.unsynced region (length (region_of moment.synced region))

-- The byte at a place: pending bytes are counted by region and offset, and the one of number j is the pick of that number
-- where there is one; each other byte is what the last sync left.
unfoldable pub crash_byte : Moment → List ℕ → ℕ → ℕ → ℕ
crash_byte moment picks region at =
    if is_pending moment.unsynced region at then slice_index_or picks (pending_below moment region + pending_in moment.unsynced region at) (slice_index (region_of moment.synced region) at)
    else slice_index (region_of moment.synced region) at

unfoldable pub crash_region : Moment → List ℕ → ℕ → List ℕ
crash_region moment picks region = map (crash_byte moment picks region) (range_with_len 0 (length (region_of moment.synced region)))

unfoldable pub crash_image : Moment → List ℕ → Image
crash_image moment picks = map (crash_region moment picks) (range_with_len 0 (length moment.synced))

-- A disk as it comes back after a crash: a new one with what the crash left. The disk before told its bytes.
pub record IsCrashOf (old : Disk) (picks : List ℕ) (new : Disk) : Type 0 where
  pub was : Told
  pub told : old.told ≡ Some was
  pub now : new ≡ new_disk old.regions old.region_len (Some (told_anew (crash_image was.present picks)))
