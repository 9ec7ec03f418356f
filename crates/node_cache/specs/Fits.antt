-- That a node is within the format's bounds is one fact: two proofs of it are equal.
use Rattle.std.specs.Prelude.{ℕ, List}
use Rattle.std.specs.List.{AllByRecursion-prop}
use Rattle.std.specs.Coded.{×_prop, Unit-prop, le_prop}
use mathlib.Core.Bool.{Bool-set}
use native.Mathlib.Nat.{ℕ_set}
use Rattle.fine_model.specs.declared.Node.{Node}
use Rattle.fine_model.specs.declared.Node.TheVariants as node
use Rattle.fine_model.specs.declared.Rec.TheVariants as rec
use Rattle.fine_model.specs.BoundLaws.{FitsNode}
use Rattle.fine_model.specs.Map.{Pair}
use Rattle.fine_model.specs.RowBytes.{FitsKey, FitsPair, FitsChild, FitsRec}

pub FitsKey-prop : (key : List ℕ) → IsProp (FitsKey key)
FitsKey-prop key = ×_prop le_prop le_prop

pub FitsPair-prop : (pair : Pair) → IsProp (FitsPair pair)
FitsPair-prop pair = ×_prop (FitsKey-prop pair.0) (×_prop le_prop le_prop)

pub FitsChild-prop : (child : ℕ) → IsProp (FitsChild child)
FitsChild-prop child = ×_prop le_prop le_prop

FitsHead-prop : (root next depth : ℕ) → IsProp (FitsRec (rec.HeadImage root next depth))
FitsHead-prop root next depth = λ a b i. (FitsChild-prop root a.0 b.0 i, le_prop a.1 b.1 i, le_prop a.2 b.2 i, le_prop a.3 b.3 i, le_prop a.4 b.4 i)

FitsLeaf-prop : (pairs : List Pair) → IsProp (FitsRec (rec.LeafImage pairs))
FitsLeaf-prop pairs = λ a b i. (le_prop a.0 b.0 i, AllByRecursion-prop FitsPair FitsPair-prop pairs a.1 b.1 i, Bool-set _ _ a.2 b.2 i)

FitsInner-prop : (seps : List (List ℕ)) (kids : List ℕ) → IsProp (FitsRec (rec.InnerImage seps kids))
FitsInner-prop seps kids = λ a b i. (
  le_prop a.0 b.0 i,
  ℕ_set _ _ a.1 b.1 i,
  AllByRecursion-prop FitsChild FitsChild-prop kids a.2 b.2 i,
  AllByRecursion-prop FitsKey FitsKey-prop seps a.3 b.3 i,
  Bool-set _ _ a.4 b.4 i,
)

pub FitsNode-prop : (n : Node) → IsProp (FitsNode n)
FitsNode-prop (node.Head root next depth) = FitsHead-prop root next depth
FitsNode-prop (node.Leaf pairs) = FitsLeaf-prop pairs
FitsNode-prop (node.Inner seps kids) = FitsInner-prop seps kids
FitsNode-prop node.Broken = Unit-prop
