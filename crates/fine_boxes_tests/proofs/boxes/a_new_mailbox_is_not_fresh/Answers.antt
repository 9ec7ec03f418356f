use Rattle.std.proofs.Common.{◌∙◌, ap, refl}
use Rattle.atomic_table.specs.Table.{Me}
use Rattle.fine_boxes.specs.declared.model.Reads.{Reads}
use Rattle.fine_places.specs.declared.model.View.{View}
use Rattle.fine_boxes.specs.Boxes.{note_of}
use Rattle.fine_boxes_tests.specs.Trial.{state_in}
use Rattle.fine_boxes_tests.proofs.boxes.a_new_mailbox_is_not_fresh.Goals as goal

pub look-fresh-requires-clause-own : goal.look-fresh-requires-clause-own
look-fresh-requires-clause-own g c = (
  note_of (state_in 0),
  (ap (λ (y : Reads _). y.notes) c.published-number.ensures.read.beside ∙ ap (λ (m : Me _ (View _ _ (Reads _))). m.0.beside.notes) c.in_ok-places.ensures.seat, refl),
  refl,
)
