-- An eye on ten regions, and parts that it sees.
use Rattle.std.specs.Prelude.{ℕ, List, [], ◌∷◌, None}
use Rattle.std.specs.List.{AllByRecursion}
use Rattle.log_disk.specs.Disk.{Eye}
use Rattle.fine_model.specs.declared.Part.{Part}
use Rattle.partition_index.specs.Parts.{IsSeen}

-- it tells no bytes
abbrev pub ten_regions : ℕ → ℕ → Eye
ten_regions faults taken = record { number = 0; regions = 0 ∷ 1 ∷ 2 ∷ 3 ∷ 4 ∷ 5 ∷ 6 ∷ 7 ∷ 8 ∷ 9 ∷ []; region_len = 16384; told = None; faults = faults; taken = taken }

-- whatever it counts
abbrev pub AreSeen : List Part → Type 0
AreSeen parts = (faults taken : ℕ) → AllByRecursion (IsSeen (ten_regions faults taken)) parts
