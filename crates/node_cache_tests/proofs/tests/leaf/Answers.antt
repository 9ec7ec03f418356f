use Rattle.std.proofs.Common.{arith, refl, sym, subst}
use Rattle.fine_model.specs.BoundLaws.{FitsNode}
use Rattle.fine_model.specs.declared.Node.TheVariants as node
use Rattle.node_cache_tests.proofs.tests.leaf.Goals as goal

pub invariant_of-result : goal.invariant_of-result
invariant_of-result c = record {
  fits = subst (λ pairs. FitsNode (node.Leaf pairs)) (sym c.new.ensures) (omega arith, tt, refl);
  in_range = c.requires;
}
