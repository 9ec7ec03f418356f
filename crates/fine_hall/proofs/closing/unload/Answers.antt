use Rattle.std.proofs.Common.{sym, ap, ◌∙◌}
use mathlib.Core.Option.{some, some-injective}
use lib.ListN.{get_elem?}
use Rattle.std.specs.Slots.{slots_filled, slots_len}
use Rattle.fine_hall.proofs.Gathering.{one_taken, taken_as}
use Rattle.fine_hall.proofs.closing.unload.Goals as goal

pub take_views-requires-clause-taken : goal.take_views-requires-clause-taken
take_views-requires-clause-taken g c = let o = c.take-slot.ensures.others in
    taken_as _ _ _ _ 257 o.1 o.2 (one_taken (slots_filled c.drop_slots.new.closed.slots) (slots_len c.drop_slots.new.closed.slots) 256 c.drop_slots.ensures.taken)

pub room_in-requires : goal.room_in-requires
room_in-requires g c =
    let r = c.requires.room in
    let had = r.1 in
    (r.0, (had.0, had.1, had.2, some-injective _ _ (sym c.take-slot.ensures.value ∙ (ap (λ l. get_elem? l 256) c.drop_slots.ensures.same.0 ∙ had.3))))

pub returns-clause-room : goal.returns-clause-room
returns-clause-room g c =
    let i = c.room_in.ensures in
    (i.0, i.1, i.2, ap (λ l. get_elem? l 256) (sym c.drop_slots.ensures.same.0) ∙ (c.take-slot.ensures.value ∙ ap some i.3))
