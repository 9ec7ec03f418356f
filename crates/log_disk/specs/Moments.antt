-- What a run of calls leaves, at each moment of it.
use Rattle.std.specs.Prelude.{ℕ, ◌≡◌, ◌≤◌, ◌⊎◌, [], ◌∷◌, ◌++◌, Option, Contains, All, List, Some, None}
use Rattle.log_disk.specs.Disk.{Image, region_of, Moment, Told, Disk, Eye, BothTold, clock_of, IsImageNow, IsImageSince}

-- A crash at any moment since old leaves an image that has P.
pub record LeavesOnly (P : Image → Type 0) (old new : Told) : Type 0 where
  pub later : clock_of old ≤ clock_of new
  pub each : (image : Image) → IsImageSince (clock_of old) new image → P image
  -- for a run that began earlier
  pub before : (clock : ℕ) (image : Image) → clock ≤ clock_of old → IsImageSince clock new image → IsImageSince clock old image ⊎ P image

-- the same of two states of a disk, where it tells its bytes
abbrev pub Leaves : (Image → Type 0) → Disk → Disk → Type 0
Leaves P old new = BothTold (LeavesOnly P) old.told new.told

-- each image that a crash may leave now has P
abbrev pub IsLeft : (Image → Type 0) → Told → Type 0
IsLeft P told = (image : Image) → IsImageNow told image → P image

-- an eye has the bytes that its disk has in the regions of the eye, where both tell them
abbrev pub SameSeen : List ℕ → Option Told → Option Image → Type 0
SameSeen regions (Some told) (Some image) = All (λ r. region_of image r ≡ region_of told.bytes r) regions
SameSeen regions None None = Unit {0}
SameSeen regions (Some told) None = ⊥
SameSeen regions None (Some image) = ⊥

-- an eye is open on a disk, whose regions hold what the eye shows
pub record IsOpenOn (eye : Eye) (disk : Disk) : Type 0 where
  pub listed : Contains disk.eyes (record { number = eye.number; regions = eye.regions })
  pub seen : SameSeen eye.regions disk.told eye.told

-- From old to new, the images since each clock value that old has reached grow by no others than those now.
pub record Grows (old new : Told) : Type 0 where
  pub later : clock_of old ≤ clock_of new
  pub since : (clock : ℕ) (image : Image) → clock ≤ clock_of old → IsImageSince clock new image → IsImageSince clock old image ⊎ IsImageNow new image
  pub kept : (clock : ℕ) (image : Image) → clock ≤ clock_of old → IsImageSince clock old image → IsImageSince clock new image

-- the same of two states of a disk, where it tells its bytes
abbrev pub GrowsOn : Disk → Disk → Type 0
GrowsOn old new = BothTold Grows old.told new.told

-- The moments of one state are the first ones of a later one.
pub record Continues (old new : Told) : Type 0 where
  pub more : List Moment
  pub moments : new.past ++ new.present ∷ [] ≡ (old.past ++ old.present ∷ []) ++ more

-- the same of two states of a disk, where it tells its bytes
abbrev pub ContinuesOn : Disk → Disk → Type 0
ContinuesOn old new = BothTold Continues old.told new.told
