-- What the open epoch keeps.
use Rattle.std.specs.Prelude.{◌≡◌, ◌≤◌, List, flat_map, vec_len, vec_capacity}
use Rattle.std.specs.List.{AllByRecursion}
use Rattle.fine_model.specs.declared.Row.{Row}
use Rattle.fine_model.specs.declared.Mark.TheVariants as mark
use Rattle.fine_model.specs.RowBytes.{greatest, rows_bytes, FitsRow}
use Rattle.fine_model.specs.Merge.{cost}
use Rattle.epoch_room.specs.Epoch.{Open}
use Rattle.epoch_room.specs.declared.epoch.OpenEpoch.TheInside.{Inside}

-- the rows of the logs that were appended
abbrev pub rows_in : Inside → List Row
rows_in epoch = flat_map (λ kept. kept.value) epoch.logs.items

abbrev pub open_of : Inside → Open
open_of epoch = record { rows = rows_in epoch; waiting = epoch.waiting; used = epoch.used; most = epoch.most }

-- The bytes are those of the rows, which take no more than was counted; there is room for as many bytes as may be appended, and
-- for as many entries as there are places.
pub record IsGathered (epoch : Inside) : Type 0 where
  pub bytes : epoch.bytes.items ≡ rows_bytes (rows_in epoch)
  pub fit : AllByRecursion (FitsRow mark.Two) (rows_in epoch)
  pub costs : cost (rows_in epoch) ≤ epoch.used
  pub within : epoch.used ≤ epoch.most
  pub entries : epoch.waiting ≡ vec_len epoch.logs
  pub room : epoch.most ≤ vec_capacity epoch.bytes
  pub places : greatest ≤ vec_capacity epoch.logs
