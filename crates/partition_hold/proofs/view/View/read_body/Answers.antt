use Rattle.partition_hold.proofs.ViewLemmas.{eye_again}
use Rattle.partition_hold.proofs.view.View.read_body.Goals as goal

pub invariant_of-self : goal.invariant_of-self
invariant_of-self g c = eye_again _ (g.E.LogEye.state c.read_body.new.eye) c.read_body.ensures.same c.self.invariant
