-- What the laws of bounds say. Each is the contract of a function of its name.
use Rattle.std.specs.Prelude.{◌≡◌, List, ◌++◌, Ok, IfSome}
use Rattle.std.specs.List.{AllByRecursion}
use Rattle.fine_model.specs.Types.{NodeId, Row, Node, Call, Mark}
use Rattle.fine_model.specs.Types.mark
use Rattle.fine_model.specs.RowBytes.{FitsRec, FitsRow}
use Rattle.fine_model.specs.Nodes.{content}
use Rattle.fine_model.specs.Merge.{image_of, merged}
use Rattle.fine_model.specs.Pushed.{all_pushed}
use Rattle.fine_model.specs.Trees.{IsSound}
use Rattle.fine_model.specs.History.{Commit, IsLegal, all_rows}
use Rattle.fine_model.specs.Bounds.{FitsCall}

-- a node whose image has a spelling; a broken one has no image, and is within bounds
abbrev pub FitsNode : Node → Type 0
FitsNode n = IfSome (image_of n) FitsRec

-- rows within bounds leave each node within bounds
abbrev pub NodeFits : Type 0
NodeFits = (mark : Mark) (rows : List Row) (id : NodeId) → AllByRecursion (FitsRow mark) rows → FitsNode (content rows id).0

-- on such rows, where they are sound, calls within bounds push rows within bounds
abbrev pub PushedFits : Type 0
PushedFits = (rows new : List Row) (calls : List Call) → AllByRecursion FitsCall calls → IsSound rows → AllByRecursion (FitsRow mark.Two) rows → all_pushed rows calls ≡ Ok new
    → AllByRecursion (FitsRow mark.Two) new

-- and so are all rows of a legal history of such calls
abbrev pub LegalFits : Type 0
LegalFits = (first : List Row) (history : List Commit) → AllByRecursion (λ c. AllByRecursion FitsCall c.entry.calls) history → IsSound first → AllByRecursion (FitsRow mark.Two) first → IsLegal first history
    → AllByRecursion (FitsRow mark.Two) (all_rows history)

-- and merged rows are within bounds as the rows are from which they were merged
abbrev pub MergedFits : Type 0
MergedFits = (mark : Mark) (older newer : List Row) → AllByRecursion (FitsRow mark) (older ++ newer) → AllByRecursion (FitsRow mark) (merged older newer)
