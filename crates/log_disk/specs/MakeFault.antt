-- Why no disk was made of a file, by what the file at the path was asked and what it told.
use Rattle.std.specs.Prelude.{◌≡◌, ◌≢◌, ◌⊎◌, ℕ, List, Some, true, false, IfSome, string_bytes}
use Rattle.log_disk.specs.declared.file.MakeFault.{MakeFault}
use Rattle.log_disk.specs.declared.file.MakeFault.TheVariants as fault
use Rattle.log_disk.specs.declared.file.handle.FileAsk.TheVariants as ask
use Rattle.log_disk.specs.declared.file.handle.FileNotes.{FileNotes}

-- Under its lock, and asked for no change, the file told last that it has a length which is neither 0 nor the whole.
pub record IsOfOtherLength (path : List ℕ) (whole found : ℕ) (notes : FileNotes) : Type 0 where
  pub at_path : string_bytes notes.path.value ≡ path
  pub locked : notes.locked.value ≡ true
  pub told : notes.found.value ≡ Some found
  pub last : notes.last.value ≡ record { ask = ask.Len; failed = false }
  pub unchanged : notes.changed.value ≡ false
  pub neither : (found ≢ 0) × (found ≢ whole)

-- The last call on the file failed, and the file told no length but 0 or the whole. If it was asked to change, then under its lock,
-- and when it had told that it is empty.
pub record HasFailed (path : List ℕ) (whole : ℕ) (notes : FileNotes) : Type 0 where
  pub at_path : string_bytes notes.path.value ≡ path
  pub failed : notes.last.value.failed ≡ true
  pub fits : IfSome notes.found.value (λ found. (found ≡ 0) ⊎ (found ≡ whole))
  pub only_filled : notes.changed.value ≡ true → (notes.locked.value ≡ true) × (notes.found.value ≡ Some 0)

abbrev pub IsWhy : List ℕ → ℕ → MakeFault → Type 0
IsWhy path whole (fault.Failed notes) = HasFailed path whole notes.value
IsWhy path whole (fault.WrongLength found notes) = IsOfOtherLength path whole found notes.value
IsWhy path whole fault.NoMemory = Unit {0}
