use Rattle.partition_hold.proofs.ViewLemmas.{eye_again}
use Rattle.partition_hold.proofs.view.View.next_node.Goals as goal

pub invariant_of-self : goal.invariant_of-self
invariant_of-self g c = eye_again _ (g.E.LogEye.state c.next_node.new.eye) c.next_node.ensures.eye.same c.self.invariant
