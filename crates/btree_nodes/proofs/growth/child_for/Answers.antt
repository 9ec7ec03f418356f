use Rattle.std.proofs.Common.{◌<◌, ℕ, length, slice_index, sym, ap, subst, ◌∙◌}
use Rattle.fine_model.specs.Pushed.{child_for}
use Rattle.btree_nodes.proofs.Steps.{place_within, index_at}
use Rattle.btree_nodes.proofs.growth.child_for.Goals as goal

pub at-requires : goal.at-requires
at-requires c =
    subst (λ (p : ℕ). p < length c.in-Some.kids.now) (sym c.place_among.ensures) (place_within c.args.key.now c.in-Some.seps.now c.in-Some.kids.now (c.in-Some.ensures).fits)

pub returns-in-Some : goal.returns-in-Some
returns-in-Some c =
    index_at c.in-Some.kids.now c.place_among.result c.at.result.now c.at.ensures ∙ ap (slice_index c.in-Some.kids.now) c.place_among.ensures ∙ ap (child_for c.args.key.now) (sym (c.in-Some.ensures).is)
