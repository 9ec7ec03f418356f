-- The bytes of the entries of rows are the bytes of their index.
use Rattle.std.proofs.Common.{◌≡◌, List, [], ◌∷◌, ◌++◌, map, refl, ap}
use Rattle.std.specs.Prelude.{flat_map}
use Rattle.fine_model.specs.declared.NodeId.{NodeId}
use Rattle.fine_model.specs.declared.Row.{Row}
use Rattle.fine_model.specs.Merge.{nodes_in}
use Rattle.fine_model.specs.Regions.{entry_bytes, index_bytes}
use Rattle.partition_index.specs.Entries.{bytes_of, entry_for}
use Rattle.partition_index.specs.Index.{entries_of}

bytes_each : (rows : List Row) (ids : List NodeId) → flat_map bytes_of (map (entry_for rows) ids) ≡ flat_map (entry_bytes rows) ids
unfolding bytes_of entry_bytes
bytes_each rows [] = refl
bytes_each rows (id ∷ ids) = ap (λ xs. entry_bytes rows id ++ xs) (bytes_each rows ids)

pub index_is : (rows : List Row) → flat_map bytes_of (entries_of rows) ≡ index_bytes rows
unfolding entries_of index_bytes
index_is rows = bytes_each rows (nodes_in rows)
