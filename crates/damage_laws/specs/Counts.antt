-- Rows of which the versions of each node go up by one. The law is the contract of a function.
use Rattle.std.specs.Prelude.{◌≡◌, ℕ, ◌+◌, IsTrue, List, [], ◌∷◌, IsPermutation, IsSortedBy}
use Rattle.fine_model.specs.declared.NodeId.{NodeId}
use Rattle.fine_model.specs.declared.Row.{Row}
use Rattle.fine_model.specs.Merge.{is_ordered, is_row_below}
use Rattle.fine_model.specs.Nodes.{rows_of}
use Rattle.fine_model.specs.VersionLaws.{HaveSameRows}

-- rows with versions that go up by one, from behind one on
abbrev pub CountFrom : ℕ → List Row → Type 0
CountFrom version [] = Unit {0}
CountFrom version (row ∷ rows) = (row.version ≡ version + 1) × CountFrom row.version rows

-- Sorted by node and version, no two of such rows are alike, and each node has the rows that it had, in their order: they may stand as a partition.
abbrev pub CountedLaw : Type 0
CountedLaw =
    (rows sorted : List Row) → ((id : NodeId) → (version : ℕ) × CountFrom version (rows_of id rows)) → IsPermutation rows sorted → IsSortedBy is_row_below sorted
    → HaveSameRows rows sorted × IsTrue (is_ordered sorted)
