-- A log without a chain shows nothing.
use Rattle.std.proofs.Common.{◌≡◌, ℕ, List, sym, ◌∙◌, Some, Result, Ok, Err}
use Rattle.log_disk.specs.Disk.{Disk, Told}
use Rattle.fine_model.specs.declared.Damage.{Damage}
use Rattle.fine_model.specs.declared.Part.{Part}
use Rattle.fine_model.specs.declared.Row.{Row}
use Rattle.fine_model.specs.Chain.{Shows}
use Rattle.log_commands.specs.Found.{SeesLog}
use Rattle.log_commands.proofs.Ranges.{told_chain}
use Rattle.fine_top.specs.Opened.{IsUnsoundLog}

pub shows_none : (disk : Disk) (what : Damage) (before : Told) (e : ℕ) (rows : List Row) → SeesLog disk (Err what) → disk.told ≡ Some before → Shows disk.region_len before.bytes e rows → ⊥
shows_none disk what before e rows none is shows = let x : ◌≡◌ {A = Result (List Part) Damage} (Err what) (Ok shows.parts) = sym (told_chain disk (Err what) before is none) ∙ shows.is_chain in cc

pub unsound : (disk : Disk) (what : Damage) → SeesLog disk (Err what) → IsUnsoundLog disk
unsound disk what none before is e rows shows sound = shows_none disk what before e rows none is shows
