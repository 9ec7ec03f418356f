use Rattle.partition_hold.proofs.ViewLemmas.{eye_again}
use Rattle.partition_hold.proofs.view.View.next_block.Goals as goal

pub invariant_of-self : goal.invariant_of-self
invariant_of-self g c = eye_again _ (g.E.LogEye.state c.next.new.eye) c.next.ensures.eye c.self.invariant
