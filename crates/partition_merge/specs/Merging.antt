-- Merging rows node by node.
use Rattle.std.specs.Prelude.{◌≡◌, ◌≢◌, ℕ, ◌+◌, Bool, true, List, [], ◌∷◌, ◌++◌, Option, Some, None, if◌then◌else◌}
use Rattle.std.specs.List.{AllByRecursion}
use Rattle.fine_model.specs.declared.NodeId.{NodeId}
use Rattle.fine_model.specs.declared.Node.TheVariants as node
use Rattle.fine_model.specs.declared.Row.{Row}
use Rattle.fine_model.specs.Nodes.{base, replay, content, is_node}
use Rattle.fine_model.specs.Merge.{is_node_below, is_row_below, image_of, merged_into}
use Rattle.fine_model.specs.RowBytes.{FitsRec}

-- rows whose bodies are within the format's bounds
abbrev pub FitRows : List Row → Type 0
FitRows rows = AllByRecursion (λ row. FitsRec row.rec) rows

-- the node of the first row
abbrev pub node_at_head : List Row → Option NodeId
node_at_head [] = None
node_at_head (row ∷ rows) = Some row.node

-- the lower of two nodes, where there is one
abbrev pub lower : Option NodeId → Option NodeId → Option NodeId
lower None b = b
lower (Some a) None = Some a
lower (Some a) (Some b) = if is_node_below b a then Some b else Some a

-- the lower one of the nodes with which two lists begin
abbrev pub first_node : List Row → List Row → Option NodeId
first_node older newer = lower (node_at_head older) (node_at_head newer)

-- how many rows of a node rows begin with
abbrev pub run_len : NodeId → List Row → ℕ
run_len id [] = 0
run_len id (row ∷ rows) = if is_node id row.node then 1 + run_len id rows else 0

-- the first of rows, if there is one, is above a row
abbrev pub begins_above : Row → List Row → Bool
begins_above row [] = true
begins_above row (next ∷ rows) = is_row_below row next

-- the node with which rows end
abbrev pub last_node : List Row → Option NodeId
last_node [] = None
last_node (row ∷ []) = Some row.node
last_node (row ∷ next ∷ rows) = last_node (next ∷ rows)

-- the first of rows is of a higher node than the last row before them, as far as there are both
abbrev pub follows : Option NodeId → List Row → Bool
follows None rows = true
follows (Some id) [] = true
follows (Some id) (row ∷ rows) = is_node_below id row.node

-- what the rows of one node are merged into
unfoldable pub merged_of : NodeId → List Row → List Row
merged_of id own = merged_into id own (replay (base id) own).1 (image_of (replay (base id) own).0)

-- one row where there is one, and else these
abbrev pub one_or : Option Row → List Row → List Row
one_or None rows = rows
one_or (Some row) rows = row ∷ []

-- Rows in place of two lists change no node that is not left broken, whatever rows stand before and after them.
pub record StandsFor (older newer rows : List Row) : Type 0 where
  pub same : (before after : List Row) (id : NodeId) → AllByRecursion (λ row. row.version ≢ 0) before
      → (content (before ++ ((older ++ newer) ++ after)) id).0 ≢ node.Broken
      → content (before ++ (rows ++ after)) id ≡ content (before ++ ((older ++ newer) ++ after)) id
