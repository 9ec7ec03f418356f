use Rattle.std.proofs.Common.{ap, sym, ◌∙◌}
use lib.ListN.{get_elem?}
use Rattle.atomic_table.specs.Table.{Me}
use Rattle.fine_places.specs.declared.model.View.{View}
use Rattle.fine_places.specs.History.{room}
use Rattle.fine_places.proofs.Lists.{none_held}
use Rattle.fine_boxes_tests.proofs.places.a_place_has_one_holder.Goals as goal

pub split-second-requires-clause-empty : goal.split-second-requires-clause-empty
unfolding room
split-second-requires-clause-empty g c = λ k h. none_held 257 k (sym (ap (λ (m : Me _ (View _ _ _)). get_elem? m.0.places.held k) c.in_ok-places.ensures.seat) ∙ h)
