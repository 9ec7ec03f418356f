use Rattle.partition_hold.proofs.ViewLemmas.{eye_again}
use Rattle.partition_hold.proofs.view.View.measure.Goals as goal

pub invariant_of-self : goal.invariant_of-self
invariant_of-self g c = eye_again _ (g.E.LogEye.state c.measure.new.eye) c.measure.ensures.same c.self.invariant
