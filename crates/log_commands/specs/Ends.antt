-- How a command that prints one text ends, and its theorems where the disk tells its bytes and the output what was written.
use Rattle.std.specs.Prelude.{◌≡◌, ◌⊎◌, ℕ, List, [], ◌++◌, Option, Some, Result, Ok, Err}
use Rattle.log_disk.specs.Disk.{Disk, Told, IsImageSince, clock_of}
use Rattle.fine_model.specs.declared.Part.{Part}
use Rattle.fine_model.specs.declared.Row.{Row}
use Rattle.fine_model.specs.declared.RunFault.{RunFault}
use Rattle.fine_model.specs.declared.RunFault.TheVariants as run_fault
use Rattle.fine_model.specs.Chain.{Shows}
use Rattle.fine_model.specs.Commands.{MergeDamagedTheorem, MergeTheorem, RangesTheorem}
use Rattle.fine_model.specs.Report.{fault_line, ranges}
use Rattle.run_laws.specs.Law.{return_of, start_of}
use Rattle.script_text.specs.Streams.{Puts}

-- the text of what was found: its own, or the line of a fault
abbrev pub text_by : {A : Type 0} → (A → List ℕ) → Result A RunFault → List ℕ
text_by text (Ok found) = text found
text_by text (Err fault) = fault_line fault

abbrev pub text_of : Result (List Part) RunFault → List ℕ
text_of found = text_by ranges found

abbrev pub fault_status : RunFault → ℕ
fault_status run_fault.Memory = 1
fault_status run_fault.Disk = 6
fault_status (run_fault.Damaged what) = 7

-- the status of what was found, where its text was written
abbrev pub status_of : {A : Type 0} → Result A RunFault → ℕ
status_of (Ok found) = 0
status_of (Err fault) = fault_status fault

-- How a command ended, by what it is to have found a chain or a fault: the whole text was written and the status is that of what was found, or the output
-- failed, a first part of the text was written, and the status is 5.
pub record Ends (IsFound : Result (List Part) RunFault → Type 0) (status : ℕ) (was now : Option (List ℕ)) : Type 0 where
  pub found : Result (List Part) RunFault
  pub is_found : IsFound found
  pub status_is : (status ≡ 5) ⊎ (status ≡ status_of found)
  pub printed : Puts (text_of found) (status ≡ 5) was now

-- The theorem of `ranges`, on every log that the disk told at entry. Of the output the counts of faults before and after are known; those of a source matter
-- to no status, and are any.
pub record RangesWell (output : ℕ × ℕ) (old new : Disk) (status : ℕ) (was now : Option (List ℕ)) : Type 0 where
  pub holds : (source : ℕ × ℕ) (first : List ℕ) (before : Told) → was ≡ Some first → old.told ≡ Some before
      → (after : Told) × (new.told ≡ Some after) × (written : List ℕ) × (now ≡ Some (first ++ written))
      × RangesTheorem old.region_len before.bytes (return_of old new source output before after) (new.told ≡ old.told) status written

-- The theorem of `merge` on every log that the disk told at entry, in the grammar or not.
pub record MergesAnyWell (output : ℕ × ℕ) (old new : Disk) (status : ℕ) (was now : Option (List ℕ)) : Type 0 where
  pub holds : (source : ℕ × ℕ) (first : List ℕ) (before : Told) → was ≡ Some first → old.told ≡ Some before
      → (after : Told) × (new.told ≡ Some after) × (written : List ℕ) × (now ≡ Some (first ++ written))
      × MergeDamagedTheorem old.region_len before.bytes (return_of old new source output before after) (new.told ≡ old.told) status written

-- The theorem of `merge`, on every log that the disk told at entry and that shows rows, sound or not.
pub record MergesWell (output : ℕ × ℕ) (old new : Disk) (status : ℕ) (was now : Option (List ℕ)) : Type 0 where
  pub holds : (source : ℕ × ℕ) (first : List ℕ) (before : Told) (e : ℕ) (rows : List Row) → was ≡ Some first → old.told ≡ Some before → Shows old.region_len before.bytes e rows
      → (after : Told) × (new.told ≡ Some after) × (written : List ℕ) × (now ≡ Some (first ++ written))
      × MergeTheorem (start_of [] old e rows) (IsImageSince (clock_of before) after) (return_of old new source output before after) status written
