-- Nodes within bounds, and the rows that need no memory.
use Rattle.std.specs.Prelude.{◌≡◌, ◌↔◌, ℕ, ◌<◌, ◌≤◌, Bool, true, false, IsTrue, if◌then◌else◌}
use Rattle.fine_model.specs.declared.Node.{Node}
use Rattle.fine_model.specs.declared.Node.TheVariants as node
use Rattle.fine_model.specs.declared.NodeId.{NodeId}
use Rattle.fine_model.specs.declared.Rec.{Rec}
use Rattle.fine_model.specs.declared.Rec.TheVariants as rec
pub use Rattle.fine_model.specs.BoundLaws.{FitsNode}
use Rattle.fine_model.specs.RowBytes.{greatest, buckets, node_numbers}

-- what keeps nothing of the row but numbers
abbrev pub takes_no_memory : Rec → Bool
takes_no_memory (rec.HeadImage root next depth) = true
takes_no_memory (rec.Del key) = true
takes_no_memory (rec.CutLeaf key) = true
takes_no_memory (rec.CutInner key) = true
takes_no_memory _ = false

-- a change leaves this node, and where it is not whole a broken one
abbrev pub whole_or_broken : Bool → Node → Node
whole_or_broken whole n = if whole then n else node.Broken

abbrev pub is_head : Node → Bool
is_head (node.Head root next depth) = true
is_head _ = false

-- a node and a version that an image of this content may have
pub record MayHave (id : NodeId) (version : ℕ) (content : Node) : Type 0 where
  pub bucket : id.bucket < buckets
  pub number : id.number < node_numbers
  -- node 0 is the head, and only it
  pub head : (id.number ≡ 0) ↔ IsTrue (is_head content)
  pub version_low : 1 ≤ version
  pub version_high : version ≤ greatest
