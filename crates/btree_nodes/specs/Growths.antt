-- What setting a pair pushes, as the crate has it.
use Rattle.std.specs.Prelude.{◌≡◌, ℕ, ◌+◌, nat_lt, Bool, ◌||◌, if◌then◌else◌, List, [], ◌∷◌, length, Some, Result, Ok, Err}
use Rattle.fine_model.specs.declared.Node.{Node}
use Rattle.fine_model.specs.declared.Node.TheVariants as node
use Rattle.fine_model.specs.declared.Rec.{Rec}
use Rattle.fine_model.specs.declared.Row.{Row}
use Rattle.fine_model.specs.declared.Why.TheVariants as why
use Rattle.fine_model.specs.Map.{Pair, has}
use Rattle.fine_model.specs.Pushed.{Growth as Grown, Push as Pushed, row_of, within_limits}
use Rattle.fine_model.specs.RowBytes.{most_in_node}
use Rattle.btree_nodes.specs.declared.growth.Growth.{Growth}
use Rattle.btree_nodes.specs.declared.insertion.Push.{Push}
use Rattle.btree_nodes.specs.declared.tree.Path.{Path}
use Rattle.btree_nodes.specs.Trees.{first_over}
use Rattle.btree_nodes.specs.declared.fault.TreeFault.{TreeFault}
use Rattle.btree_nodes.specs.declared.fault.TreeFault.TheVariants.{BucketFull, Number}

abbrev pub grown_of : Growth → Grown
grown_of g = record { rows = g.rows; next = g.next; split = g.split }

-- a leaf with these pairs has room for a key
abbrev pub has_room : List Pair → List ℕ → Bool
has_room pairs key = has pairs key || nat_lt (length pairs) most_in_node

-- the rows of a split: the new node's image, the cut of the old one, and what is set in one of both
abbrev pub split_rows : ℕ → ℕ → ℕ → ℕ → Rec → Rec → Rec → Bool → List Row
split_rows bucket number version next image cut set left =
    row_of bucket next 1 image ∷ row_of bucket number (version + 1) cut
    ∷ (if left then row_of bucket number (version + 2) set else row_of bucket next 2 set) ∷ []

-- a node is no inner one
abbrev pub IsNoInner : Node → Type 0
IsNoInner (node.Inner seps kids) = ⊥
IsNoInner _ = Unit {0}

abbrev pub pushed_of : Push → Pushed
pushed_of p = record { rows = p.rows; next = p.next; depth = p.depth }

-- what the limits say of rows to be pushed: which of them would be passed, and what the head said before, or the first row that does
abbrev pub Limits : Push → Path → Result (Unit {0}) TreeFault → Type 0
Limits p path (Ok u) = within_limits (pushed_of p) ≡ Ok p.rows
Limits p path (Err (BucketFull next depth)) = (within_limits (pushed_of p) ≡ Err why.Bucket) × (next ≡ path.next) × (depth ≡ path.depth)
Limits p path (Err (Number id)) = (within_limits (pushed_of p) ≡ Err why.Number) × (first_over p.rows ≡ Some id)
Limits p path (Err _) = ⊥
