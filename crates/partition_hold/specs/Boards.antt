-- What the buffers of a board hold.
use Rattle.std.specs.Prelude.{List, map, Option, option_map}
use Rattle.log_disk.specs.Disk.{Eye}
use Rattle.fine_model.specs.declared.law.OpenedEye.{OpenedEye}
use Rattle.fine_model.specs.Boards.{Buffer}
use Rattle.partition_hold.specs.declared.board.Held.{Held}

-- the eye that a buffer holds, of which `state` says what contracts see
abbrev pub held_of : {E : Type 0} → (E → Eye) → Held E → OpenedEye
held_of state held = record { number = held.eye; regions = held.regions; told = (state held.seen.value).told }

abbrev pub buffers_of : {E : Type 0} → (E → Eye) → List (Option (Held E)) → List Buffer
buffers_of state buffers = map (option_map (held_of state)) buffers
