use Rattle.std.proofs.Common.{◌≡◌, ◌∙◌, ◌∷◌, [], Bool, true, None, if◌then◌else◌, ap, refl}
use Rattle.fine_boxes.specs.declared.model.Reads.{Reads}
use Rattle.fine_boxes.specs.Boxes.{note_of, slot}
use Rattle.fine_boxes.specs.Telling.{looking}
use Rattle.fine_boxes_tests.specs.Trial.{state_in, TrialMe}
use Rattle.fine_boxes_tests.proofs.boxes.a_seat_finds_what_was_posted.Goals as goal

pub look-requires-clause-own : goal.look-requires-clause-own
look-requires-clause-own g c = (
  note_of (state_in 0),
  (ap (λ (y : Reads _). y.notes) c.published-number.ensures.read.beside ∙ c.turn-posted.ensures.notes ∙ ap (λ (m : TrialMe). m.0.beside.notes) c.in_ok-places.ensures.seat, refl),
  refl,
)

pub refresh-front-requires-clause-may : goal.refresh-front-requires-clause-may
refresh-front-requires-clause-may g c =
    let notes = ap (λ (y : Reads _). y.notes) c.published-number.ensures.read.beside ∙ c.turn-posted.ensures.notes ∙ ap (λ (m : TrialMe). m.0.beside.notes) c.in_ok-places.ensures.seat in
    let yes : c.look.result ≡ true = c.if-not-look.false in
    let l = c.look.ensures.looked (note_of (state_in 0)) notes in record {
      note = looking (note_of (state_in 0)) true;
      own = (ap (λ (y : Reads _). y.notes) l.beside ∙ ap (λ (b : Bool). looking (note_of (state_in 0)) b ∷ []) yes, refl);
      count = 0;
      is_front = refl;
      at = refl;
      found = refl;
      out = refl;
      hand = c.look.ensures.hand (note_of (state_in 0)) notes ∙ ap (λ (b : Bool). if b then (slot 0 0, None) ∷ [] else []) yes;
    }
