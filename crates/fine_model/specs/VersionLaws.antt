-- What the laws of versions and of arranged rows say. Each is the contract of a function of its name.
use Rattle.std.specs.Prelude.{◌≡◌, ◌+◌, Bool, IsTrue, List, [], ◌∷◌, ◌++◌, Ok, IsPermutation, IsSortedBy}
use Rattle.std.specs.List.{AllByRecursion}
use Rattle.std.specs.List.Sorted.{IsStableBy}
use Rattle.std.specs.Cmp.{IsStrictWeakOrder}
use Rattle.fine_model.specs.Types.{NodeId, Row, Call, Mark}
use Rattle.fine_model.specs.RowBytes.{rows_len, FitsRow}
use Rattle.fine_model.specs.Nodes.{rows_of, content, Agrees}
use Rattle.fine_model.specs.Merge.{is_node_below, is_row_below, is_ordered, nodes_in, cost}
use Rattle.fine_model.specs.Pushed.{all_pushed}
use Rattle.fine_model.specs.Trees.{IsSound}
use Rattle.fine_model.specs.History.{Commit, IsLegal, all_rows}
use Rattle.fine_model.specs.Laws.{AreSmall}

-- ---- versions

-- each row has the version that follows on what the rows before it leave in its node
abbrev pub VersionsFollow : List Row → List Row → Type 0
VersionsFollow before [] = Unit {0}
VersionsFollow before (row ∷ rows) = (row.version ≡ (content before row.node).1 + 1) × VersionsFollow (before ++ row ∷ []) rows

-- the versions of pushed rows follow, and those of all rows of a legal history
abbrev pub PushedVersions : Type 0
PushedVersions = (rows new : List Row) (calls : List Call) → AreSmall rows → IsSound rows → all_pushed rows calls ≡ Ok new → VersionsFollow rows new

-- and so do those of all rows of a legal history
abbrev pub LegalVersions : Type 0
LegalVersions = (first : List Row) (history : List Commit) → AreSmall first → IsSound first → IsLegal first history → VersionsFollow first (all_rows history)

-- rows follow where their first ones follow, and the others on top of these
abbrev pub FollowBoth : Type 0
FollowBoth = (before a b : List Row) → VersionsFollow before a → VersionsFollow (before ++ a) b → VersionsFollow before (a ++ b)

abbrev pub FollowParts : Type 0
FollowParts = (before a b : List Row) → VersionsFollow before (a ++ b) → VersionsFollow before a × VersionsFollow (before ++ a) b

-- ---- rows arranged by node

-- a row's node stands before another's
abbrev pub is_lower : Row → Row → Bool
is_lower a b = is_node_below a.node b.node

-- each node has the same rows in both, in the same order
pub record HaveSameRows (rows sorted : List Row) : Type 0 where
  pub of_each : (id : NodeId) → rows_of id sorted ≡ rows_of id rows

-- a stable sort by node leaves each node its rows
abbrev pub StableLaw : Type 0
StableLaw = (rows sorted : List Row) → IsStableBy is_lower rows sorted → HaveSameRows rows sorted

-- rows whose versions follow, sorted by node and version in any way, have the same rows of each node
abbrev pub UnstableLaw : Type 0
UnstableLaw = (before rows sorted : List Row) → VersionsFollow before rows → IsPermutation rows sorted → IsSortedBy is_row_below sorted → HaveSameRows rows sorted

-- the order of nodes and the order of rows are orders as a sort wants them
pub record AreOrders : Type 0 where
  pub lower : IsStrictWeakOrder is_lower
  pub row_below : IsStrictWeakOrder is_row_below

-- rows in the order of node and version are in the order of nodes
abbrev pub LowerLaw : Type 0
LowerLaw = (rows : List Row) → IsSortedBy is_row_below rows → IsSortedBy is_lower rows

-- rows whose versions follow, arranged by node, are in the order of a partition
abbrev pub OrderedLaw : Type 0
OrderedLaw = (before rows sorted : List Row) → VersionsFollow before rows → HaveSameRows rows sorted → IsSortedBy is_lower sorted → IsTrue (is_ordered sorted)

-- arranged rows leave in each node what the rows leave
abbrev pub ArrangedContent : Type 0
ArrangedContent = (before rows sorted : List Row) → HaveSameRows rows sorted → (id : NodeId) → content (before ++ sorted) id ≡ content (before ++ rows) id

abbrev pub ArrangedAgrees : Type 0
ArrangedAgrees = (live log rows sorted : List Row) → HaveSameRows rows sorted → Agrees live log → Agrees (live ++ sorted) (log ++ rows)

-- what the order of rows does not change
pub record CostAlike (rows sorted : List Row) : Type 0 where
  pub same_len : rows_len sorted ≡ rows_len rows
  pub same_nodes : nodes_in sorted ≡ nodes_in rows
  pub same_cost : cost sorted ≡ cost rows
  pub fit : (mark : Mark) → AllByRecursion (FitsRow mark) rows → AllByRecursion (FitsRow mark) sorted

abbrev pub PermutedLaw : Type 0
PermutedLaw = (rows sorted : List Row) → IsPermutation rows sorted → CostAlike rows sorted
