use Rattle.std.proofs.Common.{◌≡◌, arith, ap, ◌∙◌}
use Rattle.std.proofs.lemmas.Grind.{common_steps}
use Rattle.private_log.specs.Kept.{rows_in, many_nodes}
use Rattle.private_log.proofs.Pushing.{cost_kept}
use Rattle.private_log.proofs.PrivateLog.cost.Goals as goal

pub returns : goal.returns
returns c =
    let e = (cost_kept c.self.inside c.self.invariant).0 in
    let n : c.many_nodes-nodes.result ≡ many_nodes c.self.inside.nodes.keys (rows_in c.self.inside) = c.many_nodes-nodes.ensures ∙ ap (many_nodes c.self.inside.nodes.keys) c.as_slice.ensures.value in
    grind (arith, common_steps, e, n)
