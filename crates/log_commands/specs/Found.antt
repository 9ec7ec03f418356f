-- What finding the chain of a log answers, as a command tells it.
use Rattle.std.specs.Prelude.{◌≡◌, ◌⊎◌, List, Result, Ok, Err}
use Rattle.log_disk.specs.Disk.{Disk, OnlyFails}
use Rattle.fine_model.specs.declared.Damage.{Damage}
use Rattle.fine_model.specs.declared.Damage.TheVariants as damage
use Rattle.fine_model.specs.declared.Part.{Part}
use Rattle.fine_model.specs.declared.RunFault.{RunFault}
use Rattle.fine_model.specs.declared.RunFault.TheVariants as run_fault
use Rattle.fine_model.specs.Chain.{chain}
use Rattle.fine_model.specs.Regions.{Image}
use Rattle.reopen.specs.Opening.{IsSeen}
use Rattle.reopen.specs.declared.fault.OpenFault.{OpenFault}
use Rattle.reopen.specs.declared.fault.OpenFault.TheVariants as fault

-- This is the chain of a log, or its first damage: of the bytes that the disk tells, or else of what was read of it.
pub record SeesLog (disk : Disk) (answer : Result (List Part) Damage) : Type 0 where
  pub image : Image
  pub is_seen : IsSeen disk image
  pub is : chain disk.region_len image ≡ answer

-- the disk is as it was, but for the counts of a call that failed
abbrev pub IsUntouched : Disk → Disk → Type 0
IsUntouched old new = (new ≡ old) ⊎ OnlyFails old new

-- the fault that a command tells, of a log that was not opened
abbrev pub open_fault : OpenFault → RunFault
open_fault fault.Disk = run_fault.Disk
open_fault fault.NoMemory = run_fault.Memory
open_fault (fault.BadRegion region at) = run_fault.Damaged (damage.Region region at)
open_fault (fault.Gap after region) = run_fault.Damaged (damage.Gap after region)
open_fault (fault.Overlap region other) = run_fault.Damaged (damage.Overlap region other)

-- What reading the headers alone leaves, by what was found: the disk is as it was, but for the counts of a call that failed.
abbrev pub FindsChain : Disk → Disk → Result (List Part) RunFault → Type 0
FindsChain old new (Ok parts) = (new ≡ old) × SeesLog old (Ok parts)
FindsChain old new (Err run_fault.Memory) = new ≡ old
FindsChain old new (Err run_fault.Disk) = OnlyFails old new
FindsChain old new (Err (run_fault.Damaged what)) = (new ≡ old) × SeesLog old (Err what)
