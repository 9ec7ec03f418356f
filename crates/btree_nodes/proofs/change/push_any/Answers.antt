use Rattle.std.proofs.Common.{[], ◌∷◌, sym, subst, ◌∙◌}
use Rattle.btree_nodes.specs.Changes.{Pushes}
use Rattle.btree_nodes.proofs.OwnKeys.{own_still}
use Rattle.btree_nodes.proofs.Pushed.{pushes_held}
use Rattle.btree_nodes.proofs.change.push_any.Goals as goal

pub note_again-requires : goal.note_again-requires
note_again-requires c =
    own_still c.stays_own-are_own.result c.hold_place.new.bucket c.change_cached.new.bucket c.args.row (c.requires.of_bucket ∙ sym c.hold_place.ensures.saves.bucket) (c.in_ok-change_cached.ensures).pushes c.stays_own-are_own.ensures.change c.stays_own-are_own.ensures.own

pub returns-clause-pushes : goal.returns-clause-pushes
returns-clause-pushes c =
    subst (λ b. Pushes c.args.bucket.now b (c.args.row ∷ [])) (sym c.note_again.ensures)
    (pushes_held c.args.bucket.now c.hold_place.new.bucket c.change_cached.new.bucket c.args.row c.requires.of_bucket c.requires.ready (c.in_ok-hold_place.ensures).held (c.in_ok-change_cached.ensures).pushes)
