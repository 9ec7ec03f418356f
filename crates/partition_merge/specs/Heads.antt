-- Entries of a part's index that are read through a window, and their spans.
use Rattle.std.specs.Prelude.{ℕ, ◌+◌, ◌≤◌, IsErrOf, OnOk, Option, None, Some, Result}
use Rattle.log_disk.specs.Disk.{Eye}
use Rattle.fine_model.specs.declared.FetchFault.{FetchFault}
use Rattle.fine_model.specs.declared.FetchFault.TheVariants as fetch_fault
use Rattle.fine_model.specs.declared.Part.{Part}
use Rattle.fine_model.specs.Regions.{body_len}
use Rattle.fine_model.specs.Seek.{entry_place}
use Rattle.node_fetch.specs.Fetched.{HasBadEntry}
use Rattle.partition_index.specs.Parts.{CountsFaults, SameEye}
use Rattle.partition_merge.specs.declared.through.NumberedEntry.{NumberedEntry}
use Rattle.partition_merge.specs.Windows.{HoldsWindow, WindowValue, index_left}

-- the end of the span of an entry, by the one behind it, if there is one
abbrev pub end_before : Part → Option NumberedEntry → ℕ
end_before part None = part.header.area
end_before part (Some behind) = behind.entry.offset

-- What reading an entry of a part's index through a window does to the eye and the window, and what a fault tells. A window that began no later than the entry begins no later than the `next` one then,
-- and no more is taken than lay behind it.
pub record ReadsIndex {A : Type 0} (old new : Eye) (part : Part) (number next region_len : ℕ) (before after : WindowValue) (result : Result A FetchFault) : Type 0 where
  pub same : SameEye old new
  pub counts : CountsFaults (IsErrOf result fetch_fault.Failed) old new
  pub holds : HoldsWindow old.told part (body_len part.header) after
  pub good_row : (region at : ℕ) → IsErrOf result (fetch_fault.BadRow region at) → ⊥
  pub bad_index : (region at : ℕ) → IsErrOf result (fetch_fault.BadIndex region at) → HasBadEntry old.told region_len part (record { region = region; at = at })
  pub order : before.from ≤ entry_place part.header number → OnOk result (after.from ≤ entry_place part.header next)
  pub ahead : before.from ≤ entry_place part.header number → OnOk result (new.taken + index_left part after ≤ old.taken + index_left part before)
  pub taken : before.from ≤ entry_place part.header number → new.taken ≤ old.taken + index_left part before
