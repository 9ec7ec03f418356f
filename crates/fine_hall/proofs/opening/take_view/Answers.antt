use Rattle.std.proofs.Common.{◌∷◌, ◌++◌, [], sym, ap, ◌∙◌, append_assoc, Some, None}
use Rattle.fine_places.proofs.Lists.{some_same}
use Rattle.fine_hall.specs.declared.law.Load.TheVariants as load
use Rattle.fine_hall.proofs.Laying.{last_same, no_slot}
use Rattle.fine_hall.proofs.opening.take_view.Goals as goal

pub take_last-last-requires : goal.take_last-last-requires
take_last-last-requires g c = let r = c.requires in (r.0 ++ None ∷ Some (load.View r.1) ∷ [], None, r.2 ∙ sym (append_assoc r.0 (None ∷ Some (load.View r.1) ∷ []) (None ∷ [])))

pub take_last-slot-requires : goal.take_last-slot-requires
take_last-slot-requires g c = let r = c.requires in
    let one = last_same c.take_last-last.new.items.items (r.0 ++ None ∷ Some (load.View r.1) ∷ []) c.take_last-last.result None (sym c.take_last-last.ensures ∙ (r.2 ∙ sym (append_assoc r.0 (None ∷ Some (load.View r.1) ∷ []) (None ∷ [])))) in
    (r.0 ++ None ∷ [], Some (load.View r.1), one.0 ∙ sym (append_assoc r.0 (None ∷ []) (Some (load.View r.1) ∷ [])))

pub take_last-first-requires : goal.take_last-first-requires
take_last-first-requires g c = let r = c.requires in
    let one = last_same c.take_last-last.new.items.items (r.0 ++ None ∷ Some (load.View r.1) ∷ []) c.take_last-last.result None (sym c.take_last-last.ensures ∙ (r.2 ∙ sym (append_assoc r.0 (None ∷ Some (load.View r.1) ∷ []) (None ∷ [])))) in
    let two = last_same c.take_last-slot.new.items.items (r.0 ++ None ∷ []) c.take_last-slot.result (Some (load.View r.1)) (sym c.take_last-slot.ensures ∙ (one.0 ∙ sym (append_assoc r.0 (None ∷ []) (Some (load.View r.1) ∷ [])))) in
    (r.0, None, two.0)

pub unreachable-requires : goal.unreachable-requires
unreachable-requires g c = let r = c.requires in
    let one = last_same c.take_last-last.new.items.items (r.0 ++ None ∷ Some (load.View r.1) ∷ []) c.take_last-last.result None (sym c.take_last-last.ensures ∙ (r.2 ∙ sym (append_assoc r.0 (None ∷ Some (load.View r.1) ∷ []) (None ∷ [])))) in
    let two = last_same c.take_last-slot.new.items.items (r.0 ++ None ∷ []) c.take_last-slot.result (Some (load.View r.1)) (sym c.take_last-slot.ensures ∙ (one.0 ∙ sym (append_assoc r.0 (None ∷ []) (Some (load.View r.1) ∷ [])))) in
    no_slot _ (sym c.in_default.is ∙ two.1)

pub unreachable-requires-in_default-load : goal.unreachable-requires-in_default-load
unreachable-requires-in_default-load g c = let r = c.requires in
    let one = last_same c.take_last-last.new.items.items (r.0 ++ None ∷ Some (load.View r.1) ∷ []) c.take_last-last.result None (sym c.take_last-last.ensures ∙ (r.2 ∙ sym (append_assoc r.0 (None ∷ Some (load.View r.1) ∷ []) (None ∷ [])))) in
    let two = last_same c.take_last-slot.new.items.items (r.0 ++ None ∷ []) c.take_last-slot.result (Some (load.View r.1)) (sym c.take_last-slot.ensures ∙ (one.0 ∙ sym (append_assoc r.0 (None ∷ []) (Some (load.View r.1) ∷ [])))) in
    c.in_default-load.not-View r.1 (some_same _ _ (sym c.in-Some.is ∙ two.1))

pub returns : goal.returns
returns g c = let r = c.requires in
    let one = last_same c.take_last-last.new.items.items (r.0 ++ None ∷ Some (load.View r.1) ∷ []) c.take_last-last.result None (sym c.take_last-last.ensures ∙ (r.2 ∙ sym (append_assoc r.0 (None ∷ Some (load.View r.1) ∷ []) (None ∷ [])))) in
    let two = last_same c.take_last-slot.new.items.items (r.0 ++ None ∷ []) c.take_last-slot.result (Some (load.View r.1)) (sym c.take_last-slot.ensures ∙ (one.0 ∙ sym (append_assoc r.0 (None ∷ []) (Some (load.View r.1) ∷ [])))) in
    let three = last_same c.take_last-first.new.items.items r.0 c.take_last-first.result None (sym c.take_last-first.ensures ∙ two.0) in
    r.2 ∙ (ap (λ l. l ++ None ∷ Some (load.View r.1) ∷ None ∷ []) (sym three.0) ∙ ap (λ s. c.take_last-first.new.items.items ++ None ∷ s ∷ None ∷ []) (sym two.1 ∙ (c.in-Some.is ∙ ap Some c.in-View.is)))
