use Rattle.std.proofs.Common.{ap, ◌∙◌, ◌++◌, ◌∷◌, []}
use Rattle.private_log.specs.Kept.{noted}
use Rattle.private_log.proofs.Pushing.{kept_more}
use Rattle.private_log.proofs.PrivateLog.keep.Goals as goal

pub invariant_of-self-in-Ok : goal.invariant_of-self-in-Ok
invariant_of-self-in-Ok c =
    kept_more c.self.inside _ c.args.row c.self.invariant c.in_ok-write_row.ensures.ok
    (c.in-Ok.ensures.ok ∙ ap (λ rows. noted c.self.inside.nodes.keys rows c.args.row.node) (c.as_slice.ensures.value ∙ c.in_ok-reserve.ensures.items)) c.note.ensures.order
    (c.push_reserved.ensures.items ∙ ap (λ rows. rows ++ c.args.row ∷ []) c.in_ok-reserve.ensures.items)
