-- A disk in a file, and an eye on it, as contracts see them: what any disk and any eye have, the path by which the file was
-- opened, and what is known of the file. A disk also has the files that came back from eyes.
use Rattle.std.specs.Prelude.{◌≡◌, ◌+◌, ◌≤◌, ℕ, Bool, List, Option, map, string_bytes, vec_len, vec_capacity}
use Rattle.log_disk.specs.declared.file.handle.FileCall.{FileCall}
use Rattle.log_disk.specs.declared.file.handle.FileNotes.{FileNotes}
use Rattle.log_disk.specs.declared.file.kept.EyeFile.{EyeFile}
use Rattle.log_disk.specs.declared.file.kept.KeptFiles.{KeptFiles}
use Rattle.log_disk.specs.Disk.{Disk, Eye}

-- what is known of a file: whether its lock is held, its length as it was told last, and as it was told or set last, if it was,
-- whether it was asked to change, and what it was asked last
pub record FileState : Type 0 where
  pub locked : Bool
  pub found : Option ℕ
  pub len : Option ℕ
  pub changed : Bool
  pub last : FileCall

abbrev pub file_of : FileNotes → FileState
file_of notes = record { locked = notes.locked.value; found = notes.found.value; len = notes.len.value; changed = notes.changed.value; last = notes.last.value }

-- what is known of the files that came back from eyes, the last one last
abbrev pub kept_in : KeptFiles → List FileState
kept_in kept = map (λ file. file_of file.file.notes) kept.files.items

-- a file was opened for an eye by this path
abbrev pub IsAtPath : List ℕ → EyeFile → Type 0
IsAtPath path file = (string_bytes file.path ≡ path) × (string_bytes file.file.notes.path.value ≡ path)

-- there are places for so many files more
abbrev pub HasPlaces : ℕ → KeptFiles → Type 0
HasPlaces out kept = out + vec_len kept.files ≤ vec_capacity kept.files

pub record DiskAtPath : Type 0 where
  pub path : List ℕ
  pub file : FileState
  -- the files that came back from eyes, the last one last
  pub kept : List FileState
  pub disk : Disk

pub record EyeAtPath : Type 0 where
  pub path : List ℕ
  pub file : FileState
  pub eye : Eye
