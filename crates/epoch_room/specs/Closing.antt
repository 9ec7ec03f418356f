-- What closing gates does to a disk, and to the images that a crash may leave.
use Rattle.std.specs.Prelude.{◌≡◌, ℕ, ◌<◌, ◌≤◌, nat_eq, false, List, [], ◌∷◌, ◌++◌, length, take, drop, Result, OnOk, IsErrOf}
use Rattle.std.specs.List.{AllByRecursion, list_any}
use Rattle.log_disk.specs.Disk.{Image, Told, Disk, BothTold, CountsOwn, IsImageNow, IsSound, SameBeside, region_of}
use Rattle.log_disk.specs.Moments.{ContinuesOn, LeavesOnly}
use Rattle.log_disk.specs.declared.refusal.DiskRefusal.{DiskRefusal}
use Rattle.log_disk.specs.declared.refusal.DiskRefusal.TheVariants as refusal

abbrev pub closed_gate : List ℕ
closed_gate = 0 ∷ []

-- two images of which the gates of these regions alone may differ
pub record DiffersAtGates (regions : List ℕ) (old new : Image) : Type 0 where
  pub as_many : length new ≡ length old
  pub others : (r : ℕ) → list_any (nat_eq r) regions ≡ false → region_of new r ≡ region_of old r
  pub lengths : (r : ℕ) → length (region_of new r) ≡ length (region_of old r)
  pub behind : (r : ℕ) → drop 1 (region_of new r) ≡ drop 1 (region_of old r)

-- an image of before, but for the gates of any of these regions, where any byte stands
pub record IsAtGates (regions : List ℕ) (before : Told) (image : Image) : Type 0 where
  pub was : Image
  pub is_was : IsImageNow before was
  pub differs : DiffersAtGates regions was image

abbrev pub LeavesClosing : List ℕ → Disk → Disk → Type 0
LeavesClosing regions old new = BothTold (λ a b. LeavesOnly (IsAtGates regions a) a b) old.told new.told

-- a read gives the same but for the gates of these regions
abbrev pub ReadsButGates : List ℕ → Disk → Disk → Type 0
ReadsButGates regions old new = BothTold (λ a b. DiffersAtGates regions a.bytes b.bytes) old.told new.told

-- a read gives a closed gate in each of these regions
abbrev pub ReadsClosed : List ℕ → Disk → Disk → Type 0
ReadsClosed regions old new = BothTold (λ a b. AllByRecursion (λ r. take 1 (region_of b.bytes r) ≡ closed_gate) regions) old.told new.told

-- nothing but the gates of these regions was touched, in any order
pub record TouchesGates (regions : List ℕ) (old new : Disk) : Type 0 where
  pub beside : SameBeside old new
  pub sound : IsSound new
  pub time : ContinuesOn old new
  pub read : ReadsButGates regions old new
  pub leaves : LeavesClosing regions old new

-- The gates of the first regions were begun. Without a failure they are closed; where one wanted memory, those before it are.
pub record BeginsGates (leads : List ℕ) (begun : ℕ) (result : Result (Unit {0}) DiskRefusal) (old new : Disk) : Type 0 where
  pub few : begun ≤ length leads
  pub touches : TouchesGates (take begun leads) old new
  pub counts : CountsOwn (IsErrOf result refusal.Failed) old new
  pub all : OnOk result (begun ≡ length leads)
  pub some : IsErrOf result refusal.Failed → 1 ≤ begun
  pub more : IsErrOf result refusal.NoMemory → begun < length leads
  pub closed : (IsErrOf result refusal.Failed → ⊥) → ReadsClosed (take begun leads) old new
  pub none : begun ≡ 0 → new ≡ old

-- the gates that were begun are unsynced, and nothing else is that was not before
pub record WritesGates (leads : List ℕ) (begun : ℕ) (result : Result (Unit {0}) DiskRefusal) (old new : Disk) : Type 0 where
  pub gates : BeginsGates leads begun result old new
  pub unsynced : new.unsynced ≡ old.unsynced ++ take begun leads

-- and then they are durable, if nothing failed
pub record ClosesGates (leads : List ℕ) (begun : ℕ) (result : Result (Unit {0}) DiskRefusal) (old new : Disk) : Type 0 where
  pub gates : BeginsGates leads begun result old new
  pub synced : (IsErrOf result refusal.Failed → ⊥) → 1 ≤ begun → new.unsynced ≡ []
  pub unsynced : IsErrOf result refusal.Failed → new.unsynced ≡ old.unsynced ++ take begun leads
