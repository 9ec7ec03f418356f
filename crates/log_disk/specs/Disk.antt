-- A disk as contracts see it: its regions, what a read gives, the moments that it was in, its open eyes and its counts.
use Rattle.std.specs.Prelude.{◌≡◌, ◌≢◌, ◌⊎◌, ℕ, ◌+◌, ◌<◌, ◌≤◌, min, List, [], ◌∷◌, ◌++◌, length, take, drop, map, slice_get, slice_set, slice_range, slice_index, Option, Some, None, unwrap_or, All, Any, Contains, filter, ◌==◌, nat_eq, not, IfSome, replicate}
use Rattle.std.specs.List.{AllByRecursion, IsDistinct}

-- the bytes of all regions
abbrev pub Image : Type 0
Image = List (List ℕ)

-- the bytes of a region
abbrev pub region_of : Image → ℕ → List ℕ
region_of image region = unwrap_or (slice_get image region) []

-- a range of bytes in a region, up to but without its end
pub record Span : Type 0 where
  pub region : ℕ
  pub from : ℕ
  pub end : ℕ

-- a byte of a region lies in a range
abbrev pub IsInSpan : ℕ → ℕ → Span → Type 0
IsInSpan region at span = (span.region ≡ region) × (span.from ≤ at) × (at < span.end)

-- A moment of the disk: what the last sync left, and the ranges whose writes no sync has confirmed since, the oldest first.
pub record Moment : Type 0 where
  pub synced : Image
  pub unsynced : List Span

-- A crash at a moment may leave this image: any bytes in the unsynced ranges, and what the last sync left everywhere else.
pub record IsImageAt (moment : Moment) (image : Image) : Type 0 where
  pub regions : length image ≡ length moment.synced
  pub lengths : (region : ℕ) → length (region_of image region) ≡ length (region_of moment.synced region)
  pub elsewhere : (region at : ℕ) → (Any (IsInSpan region at) moment.unsynced → ⊥)
      → slice_index (region_of image region) at ≡ slice_index (region_of moment.synced region) at

-- what a disk tells: the bytes that a read gives, all moments so far, and the last of them, which is now
pub record Told : Type 0 where
  pub bytes : Image
  pub past : List Moment
  pub present : Moment

-- an eye that is open on some regions, by its number
pub record OpenEye : Type 0 where
  pub number : ℕ
  pub regions : List ℕ

-- a disk; `told` is there where it tells its bytes
pub record Disk : Type 0 where
  pub regions : ℕ
  pub region_len : ℕ
  pub told : Option Told
  -- the regions that were written since the last sync, once for each write
  pub unsynced : List ℕ
  pub eyes : List OpenEye
  -- the numbers that were given to eyes so far
  pub given : List ℕ
  -- how often a call of the disk, or of an eye of it that was closed, has failed, and how often a call of the disk itself has
  pub faults : ℕ
  pub own_faults : ℕ

-- an eye; `told` has the bytes of its disk as it was opened, where it tells them
pub record Eye : Type 0 where
  pub number : ℕ
  pub regions : List ℕ
  pub region_len : ℕ
  pub told : Option Image
  pub faults : ℕ
  -- how many bytes its reads asked for
  pub taken : ℕ

-- the clock of what a disk tells: how many moments there were before now
abbrev pub clock_of : Told → ℕ
clock_of told = length told.past

-- an image that a crash may leave now, and one that a crash might have left at some moment from a clock value on
abbrev pub IsImageNow : Told → Image → Type 0
IsImageNow told image = IsImageAt told.present image

-- an image that a crash might have left at some moment from a clock value on
abbrev pub IsImageSince : ℕ → Told → Image → Type 0
IsImageSince clock told image = Any (λ moment. IsImageAt moment image) (drop clock (told.past ++ told.present ∷ []))

-- the greatest number of 64 bits, at which counters stand still
abbrev pub last_count : ℕ
last_count = 18446744073709551615

-- a counter has risen; at its last value it counts as risen
abbrev pub HasRisen : ℕ → ℕ → Type 0
HasRisen before now = min (before + 1) last_count ≤ now

-- the region with the bytes at a place
abbrev pub with_bytes : Image → ℕ → ℕ → List ℕ → Image
with_bytes image region at bytes =
    slice_set image region (take at (region_of image region) ++ bytes ++ drop (at + length bytes) (region_of image region))

-- the same outside of a range
pub record SameOutside (region from end : ℕ) (old new : Image) : Type 0 where
  pub regions : length new ≡ length old
  pub lengths : (r : ℕ) → length (region_of new r) ≡ length (region_of old r)
  pub others : (r : ℕ) → r ≢ region → region_of new r ≡ region_of old r
  pub before : take from (region_of new region) ≡ take from (region_of old region)
  pub after : drop end (region_of new region) ≡ drop end (region_of old region)

-- so many bytes of a region from a place on
abbrev pub span_of : ℕ → ℕ → ℕ → Span
span_of region at len = record { region = region; from = at; end = at + len }

-- time goes on to a moment
abbrev pub HasGoneOn : Told → Told → Moment → Type 0
HasGoneOn old new moment = (new.past ≡ old.past ++ old.present ∷ []) × (new.present ≡ moment)

-- a moment with one more range that no sync has confirmed
abbrev pub unsynced_too : Moment → Span → Moment
unsynced_too moment span = record { synced = moment.synced; unsynced = moment.unsynced ++ span ∷ [] }

-- P relates what two states of a disk tell; a disk tells before and after, or neither
abbrev pub BothTold : (Told → Told → Type 0) → Option Told → Option Told → Type 0
BothTold P None None = Unit {0}
BothTold P (Some a) (Some b) = P a b
BothTold P None (Some b) = ⊥
BothTold P (Some a) None = ⊥

-- two states of a disk that differ in nothing but what they tell, the unsynced regions and the counts
pub record SameBeside (old new : Disk) : Type 0 where
  pub regions : new.regions ≡ old.regions
  pub region_len : new.region_len ≡ old.region_len
  pub eyes : new.eyes ≡ old.eyes
  pub given : new.given ≡ old.given

-- the counts of a call of the disk: they rise where it failed, and else stay
pub record CountsOwn (failed : Type 0) (old new : Disk) : Type 0 where
  pub faults : failed → HasRisen old.faults new.faults
  pub own_faults : failed → HasRisen old.own_faults new.own_faults
  pub no_lower : (old.faults ≤ new.faults) × (old.own_faults ≤ new.own_faults)
  pub else_same : (failed → ⊥) → (new.faults ≡ old.faults) × (new.own_faults ≡ old.own_faults)

-- a range lies in a region of the disk
abbrev pub IsWithin : Disk → ℕ → ℕ → ℕ → Type 0
IsWithin disk region at len = (region < disk.regions) × (at + len ≤ disk.region_len)

-- no open eye sees a region
abbrev pub IsUnseen : Disk → ℕ → Type 0
IsUnseen disk region = All (λ eye. Contains eye.regions region → ⊥) disk.eyes

-- What holds of what a disk tells at every moment: it has its regions, what a read gives is an image that a crash may
-- leave now, and its unsynced ranges lie in the unsynced regions.
pub record IsToldOf (disk : Disk) (told : Told) : Type 0 where
  pub regions : length told.bytes ≡ disk.regions
  pub lengths : (region : ℕ) → region < disk.regions → length (region_of told.bytes region) ≡ disk.region_len
  pub image : IsImageNow told told.bytes
  pub unsynced : map (λ span. span.region) told.present.unsynced ≡ disk.unsynced

-- no two open eyes have one number, and each has one that was given
pub record AreNumbered (eyes : List OpenEye) (numbers : List ℕ) : Type 0 where
  pub apart : IsDistinct nat_eq (map (λ eye. eye.number) eyes)
  pub given : AllByRecursion (λ eye. Contains numbers eye.number) eyes

-- what holds of a disk at every moment
pub record IsSound (disk : Disk) : Type 0 where
  pub told : IfSome disk.told (IsToldOf disk)
  pub eyes : AreNumbered disk.eyes disk.given

-- a new disk: all bytes are 0 and on it, no eye was opened, and nothing has failed
abbrev pub zeros : ℕ → ℕ → Image
zeros regions region_len = replicate regions (replicate region_len 0)

-- a disk that tells nothing but these bytes, all of them synced
abbrev pub told_anew : Image → Told
told_anew image = record { bytes = image; past = []; present = record { synced = image; unsynced = [] } }

-- a disk of so many regions with nothing unsynced, no eye and no fault
abbrev pub new_disk : ℕ → ℕ → Option Told → Disk
new_disk regions region_len told = record { regions = regions; region_len = region_len; told = told; unsynced = []; eyes = []; given = []; faults = 0; own_faults = 0 }

-- what a read does: nothing but count its failure
pub record Reads (region at : ℕ) (out : List ℕ) (failed : Type 0) (old new : Disk) : Type 0 where
  pub told : new.told ≡ old.told
  pub unsynced : new.unsynced ≡ old.unsynced
  pub beside : SameBeside old new
  pub counts : CountsOwn failed old new
  pub bytes : (failed → ⊥) → IfSome old.told (λ told. out ≡ slice_range (region_of told.bytes region) at (at + length out))

-- a write that was begun: its range is unsynced from its start on, and time goes on
pub record Writes (region at : ℕ) (bytes : List ℕ) (failed : Type 0) (old new : Disk) : Type 0 where
  pub unsynced : new.unsynced ≡ old.unsynced ++ region ∷ []
  pub beside : SameBeside old new
  pub counts : CountsOwn failed old new
  pub time : BothTold (λ a b. HasGoneOn a b (unsynced_too a.present (span_of region at (length bytes)))) old.told new.told
  pub outside : BothTold (λ a b. SameOutside region at (at + length bytes) a.bytes b.bytes) old.told new.told
  pub written : (failed → ⊥) → BothTold (λ a b. b.bytes ≡ with_bytes a.bytes region at bytes) old.told new.told

-- a sync that succeeded: nothing is unsynced, and time goes on where something was
abbrev pub HasSynced : Disk → Told → Told → Type 0
HasSynced old a b = ((old.unsynced ≡ []) × (b ≡ a))
    ⊎ ((old.unsynced ≢ []) × (b.bytes ≡ a.bytes) × HasGoneOn a b (record { synced = a.bytes; unsynced = [] }))

-- a sync that succeeded leaves nothing unsynced
pub record Syncs (old new : Disk) : Type 0 where
  pub unsynced : new.unsynced ≡ []
  pub beside : SameBeside old new
  pub counts : (new.faults ≡ old.faults) × (new.own_faults ≡ old.own_faults)
  pub time : BothTold (HasSynced old) old.told new.told

-- a call that failed and changed nothing else
pub record OnlyFails (old new : Disk) : Type 0 where
  pub told : new.told ≡ old.told
  pub unsynced : new.unsynced ≡ old.unsynced
  pub beside : SameBeside old new
  pub counts : CountsOwn (Unit {0}) old new

-- an eye tells the bytes of its disk, where the disk tells them
abbrev pub BothSee : Option Told → Option Image → Type 0
BothSee None None = Unit {0}
BothSee (Some told) (Some image) = image ≡ told.bytes
BothSee None (Some image) = ⊥
BothSee (Some told) None = ⊥

-- an eye that was opened, with a number that was not given before
pub record Opens (regions : List ℕ) (eye : Eye) (old new : Disk) : Type 0 where
  pub is_new : Contains old.given eye.number → ⊥
  pub given : new.given ≡ old.given ++ eye.number ∷ []
  pub fresh : (eye.faults ≡ 0) × (eye.taken ≡ 0)
  pub of_regions : (eye.regions ≡ regions) × (eye.region_len ≡ old.region_len)
  pub listed : new.eyes ≡ old.eyes ++ record { number = eye.number; regions = regions } ∷ []
  pub sees : BothSee old.told eye.told
  pub told : new.told ≡ old.told
  pub others : (new.regions ≡ old.regions) × (new.region_len ≡ old.region_len) × (new.unsynced ≡ old.unsynced) × (new.faults ≡ old.faults) × (new.own_faults ≡ old.own_faults)

-- an eye that was closed: its count goes to the disk's, and not to the disk's own
pub record Closes (eye : Eye) (old new : Disk) : Type 0 where
  pub listed : new.eyes ≡ filter (λ e. not (e.number == eye.number)) old.eyes
  pub told : new.told ≡ old.told
  pub others : (new.regions ≡ old.regions) × (new.region_len ≡ old.region_len) × (new.unsynced ≡ old.unsynced) × (new.own_faults ≡ old.own_faults)
  pub given : new.given ≡ old.given
  pub faults : new.faults ≡ min (old.faults + eye.faults) last_count
  pub no_lower : old.faults ≤ new.faults

-- what a read through an eye does, whether it fails or not: it takes as many bytes as it was asked for
pub record Looks (region at : ℕ) (out : List ℕ) (failed : Type 0) (old new : Eye) : Type 0 where
  pub same : (new.number ≡ old.number) × (new.regions ≡ old.regions) × (new.region_len ≡ old.region_len) × (new.told ≡ old.told)
  pub taken : new.taken ≡ min (old.taken + length out) last_count
  pub rises : failed → HasRisen old.faults new.faults
  pub no_lower : old.faults ≤ new.faults
  pub else_same : (failed → ⊥) → new.faults ≡ old.faults
  pub bytes : (failed → ⊥) → IfSome old.told (λ image. out ≡ slice_range (region_of image region) at (at + length out))
