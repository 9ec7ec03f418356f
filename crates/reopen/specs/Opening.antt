-- What opening a log answers.
use Rattle.std.specs.Prelude.{◌≡◌, ℕ, ◌≤◌, ◌==◌, not, List, [], ◌∷◌, ◌++◌, filter, length, Option, Some, None, IfSome, Result, Ok, Err}
use Rattle.std.specs.List.{list_any}
use Rattle.log_disk.specs.Disk.{Disk}
use Rattle.fine_model.specs.declared.Header.{Header}
use Rattle.fine_model.specs.declared.Part.{Part}
use Rattle.fine_model.specs.declared.Damage.{Damage}
use Rattle.fine_model.specs.declared.Damage.TheVariants as damage
use Rattle.fine_model.specs.RowBytes.{greatest}
use Rattle.fine_model.specs.Regions.{Image, region_of, header_in}
use Rattle.fine_model.specs.Chain.{parts_from, chain}
use Rattle.epoch_room.specs.Value.{RoomValue, made}
use Rattle.reopen.specs.declared.fault.OpenFault.{OpenFault}
use Rattle.reopen.specs.declared.fault.OpenFault.TheVariants as fault
use Rattle.reopen.specs.declared.chain.Chain.{Chain}

-- the damage that a fault tells
abbrev pub damage_of : OpenFault → Option Damage
damage_of (fault.BadRegion region at) = Some (damage.Region region at)
damage_of (fault.Gap after region) = Some (damage.Gap after region)
damage_of (fault.Overlap region other) = Some (damage.Overlap region other)
damage_of fault.Disk = None
damage_of fault.NoMemory = None

-- a fault tells the damage that was answered
abbrev pub Tells : {A : Type 0} → Result A Damage → OpenFault → Type 0
Tells answer fault = (what : Damage) × (damage_of fault ≡ Some what) × (answer ≡ Err what)

-- a fault tells damage
abbrev pub IsDamage : OpenFault → Type 0
IsDamage fault.Disk = ⊥
IsDamage fault.NoMemory = ⊥
IsDamage _ = Unit {0}

-- a part's last epoch is within the format's bounds
abbrev pub EndsInTime : Part → Type 0
EndsInTime p = p.header.range.last ≤ greatest

-- the parts whose lead is not that of a part of a chain
unfoldable pub beside : List Part → List Part → List Part
beside parts sealed = filter (λ p. not (list_any (λ q. q.region == p.region) parts)) sealed

-- A region's header, as it was read: what some bytes answer to, which are the region's where the disk tells them.
pub record SeesHeader (disk : Disk) (region : ℕ) (answer : Result (Option Header) ℕ) : Type 0 where
  pub seen : List ℕ
  pub answers : header_in disk.region_len disk.regions region seen ≡ answer
  pub told : IfSome disk.told (λ told. seen ≡ region_of told.bytes region)

-- a fault that tells damage tells a region's bad header
abbrev pub IsBadHeader : Disk → ℕ → OpenFault → Type 0
IsBadHeader disk region (fault.BadRegion bad at) = (bad ≡ region) × SeesHeader disk region (Err at)
IsBadHeader disk region fault.Disk = Unit {0}
IsBadHeader disk region fault.NoMemory = ⊥
IsBadHeader disk region _ = ⊥

-- parts, and the one that a region leads behind them
abbrev pub with_part : List Part → ℕ → Option Header → List Part
with_part parts region None = parts
with_part parts region (Some header) = parts ++ record { region = region; header = header } ∷ []

-- The regions of a disk, as far as their headers were seen: an image, which is the disk's where it tells its bytes.
pub record IsSeen (disk : Disk) (image : Image) : Type 0 where
  pub regions : length image ≡ disk.regions
  pub told : IfSome disk.told (λ told. image ≡ told.bytes)

-- these are the sealed parts of a disk, in ascending order of their leads
pub record SeesParts (disk : Disk) (parts : List Part) : Type 0 where
  pub image : Image
  pub is_seen : IsSeen disk image
  pub are_parts : parts_from disk.region_len disk.regions 0 image ≡ Ok parts

-- these are the chain of a disk and its other sealed parts
pub record SeesChain (disk : Disk) (found : Chain) : Type 0 where
  pub image : Image
  pub is_seen : IsSeen disk image
  pub is_chain : chain disk.region_len image ≡ Ok found.parts
  pub sealed : List Part
  pub are_sealed : parts_from disk.region_len disk.regions 0 image ≡ Ok sealed
  pub retired : found.retired ≡ beside found.parts sealed

-- a fault tells the damage of a disk's chain
pub record FindsDamage (disk : Disk) (fault : OpenFault) : Type 0 where
  pub image : Image
  pub is_seen : IsSeen disk image
  pub tells : Tells (chain disk.region_len image) fault

-- a fault that tells damage tells that of the chain; the others say nothing of it
abbrev pub TellsDamage : Disk → OpenFault → Type 0
TellsDamage disk fault = IsDamage fault → FindsDamage disk fault

-- the room of a disk's chain
pub record OpensRoom (disk : Disk) (room : RoomValue) : Type 0 where
  pub found : Chain
  pub sees : SeesChain disk found
  pub is_made : room ≡ made disk found.parts found.retired
