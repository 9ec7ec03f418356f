-- What a private log keeps.
use Rattle.std.specs.Prelude.{◌≡◌, ℕ, ◌*◌, ◌≤◌, List, [], ◌∷◌, length}
use Rattle.std.specs.List.Sorted.{IsStrictlySortedBy}
use Rattle.std.specs.BTreeSet.{insert_key}
use Rattle.fine_model.specs.declared.NodeId.{NodeId}
use Rattle.fine_model.specs.declared.Row.{Row}
use Rattle.fine_model.specs.RowBytes.{rows_bytes, row_front}
use Rattle.fine_model.specs.Merge.{node_cmp, nodes_in}
use Rattle.private_log.specs.declared.PrivateLog.TheInside.{Inside}

-- the rows that were pushed
abbrev pub rows_in : Inside → List Row
rows_in log = log.rows.items

-- the nodes that are noted once a row of a node stands behind others: those of two rows or more
abbrev pub noted : List NodeId → List Row → NodeId → List NodeId
noted keys [] node = keys
noted keys (first ∷ []) node = insert_key node_cmp (insert_key node_cmp [] first.node) node
noted keys (first ∷ second ∷ rows) node = insert_key node_cmp keys node

-- Of two rows or more the nodes that they name are noted, in order. Each row has 19 bytes or more, so what the rows cost is below 2 ^ 64.
abbrev pub AreNoted : List NodeId → List Row → ℕ → Type 0
AreNoted keys [] long = keys ≡ []
AreNoted keys (row ∷ []) long = (keys ≡ []) × (row_front ≤ long)
AreNoted keys (first ∷ second ∷ rows) long = (keys ≡ nodes_in (first ∷ second ∷ rows)) × (row_front * length keys ≤ long)

-- how many nodes rows name, by those that are noted
abbrev pub many_nodes : List NodeId → List Row → ℕ
many_nodes keys [] = 0
many_nodes keys (row ∷ []) = 1
many_nodes keys (first ∷ second ∷ rows) = length keys

-- the bytes are those of the rows
pub record IsKept (log : Inside) : Type 0 where
  pub bytes : log.bytes.items ≡ rows_bytes (rows_in log)
  pub nodes : AreNoted log.nodes.keys (rows_in log) (length log.bytes.items)
  pub order : IsStrictlySortedBy node_cmp log.nodes.keys
