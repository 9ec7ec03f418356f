-- What writing bytes of a part's body does to a disk.
use Rattle.std.specs.Prelude.{◌≡◌, ℕ, zero, suc, ◌+◌, ◌<◌, ◌≤◌, List, [], ◌∷◌, length, take, All, IsErr, IsErrOf, IsTrue, OnOk, Result}
use Rattle.std.specs.List.{AllByRecursion}
use Rattle.fine_model.specs.declared.Header.{Header}
use Rattle.fine_model.specs.declared.Part.{Part}
use Rattle.fine_model.specs.Trees.{is_distinct}
use Rattle.fine_model.specs.Regions.{body_in, place_of}
use Rattle.fine_model.specs.Chain.{regions_of}
use Rattle.log_disk.specs.Disk.{Disk, BothTold, IsSound, IsUnseen}
use Rattle.log_disk.specs.declared.refusal.DiskRefusal.{DiskRefusal}
use Rattle.log_disk.specs.declared.refusal.DiskRefusal.TheVariants as refusal
use Rattle.partition_index.specs.Parts.{LiesIn}
use Rattle.partition_index.specs.Placing.{HasBody}
use Rattle.epoch_room.specs.Gate.{LeavesBehind, ReadsBehind, TouchesOnly}

-- the regions of a part are of a disk, each once, and no open eye names one of them
pub record HasPlace (disk : Disk) (p : Part) : Type 0 where
  pub sound : IsSound disk
  pub lies : LiesIn disk.region_len p.header
  pub apart : IsTrue (is_distinct (regions_of p))
  pub there : AllByRecursion (λ r. r < disk.regions) (regions_of p)
  pub unseen : All (IsUnseen disk) (regions_of p)

-- The regions of the first and of the last of some bytes of a body from an offset on; none without bytes. Bytes that are fewer than a
-- region's lie in no other region.
abbrev pub lying_in : ℕ → ℕ → Header → ℕ → ℕ → List ℕ
lying_in region_len lead header at zero = []
lying_in region_len lead header at (suc n) = (place_of region_len lead header at).region ∷ (place_of region_len lead header (at + n)).region ∷ []

-- the body of a part stays up to an offset
abbrev pub KeepsFront : Part → ℕ → Disk → Disk → Type 0
KeepsFront p at old new = BothTold (λ a b. take at (body_in b.bytes p.region p.header) ≡ take at (body_in a.bytes p.region p.header)) old.told new.told

-- Whatever it answers, it touches no region but these, and a crash at any moment leaves what it could leave before, torn behind the gates
-- of these regions. Without bytes nothing is refused. The bytes before the offset stay where memory ran out; then some of the bytes may be
-- written.
pub record WritesBody (regions : List ℕ) (p : Part) (at : ℕ) (bytes : List ℕ) (result : Result (Unit {0}) DiskRefusal) (old new : Disk) : Type 0 where
  pub touches : TouchesOnly regions (IsErrOf result refusal.Failed) old new
  pub open touches use *
  pub read : ReadsBehind regions old new
  pub leaves : LeavesBehind regions old new
  pub done : OnOk result (BothTold (λ a b. HasBody p at bytes a.bytes b.bytes) old.told new.told)
  pub some : IsErr result → 1 ≤ length bytes
  pub kept : IsErrOf result refusal.NoMemory → KeepsFront p at old new
