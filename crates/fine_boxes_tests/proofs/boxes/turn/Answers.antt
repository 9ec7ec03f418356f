use Rattle.std.proofs.Common.{◌∙◌, ◌≤◌, ap, refl, subst, sym}
use Rattle.fine_places.specs.declared.model.Known.{Known}
use Rattle.fine_places.specs.History.{room}
use Rattle.fine_places.specs.Telling.{at_room}
use Rattle.fine_boxes_tests.specs.Trial.{state_in}
use Rattle.fine_boxes_tests.proofs.Trying.{after_take, after_read, may_post, back_within, after_post, may_publish, after_publish, may_give}
use Rattle.fine_boxes_tests.proofs.boxes.turn.Goals as goal

pub returns-then-number-gt5-clause-notes : goal.returns-then-number-gt5-clause-notes
returns-then-number-gt5-clause-notes c = (after_read _ _ _ _ _ (after_take c.args.seat.now.me _ _ _ c.requires.rests c.in-Ok.ensures.took c.in-Err.is) c.published-number.ensures.read).notes

pub post-posted-requires-clause-held : goal.post-posted-requires-clause-held
post-posted-requires-clause-held c = (after_read _ _ _ _ _ (after_take c.args.seat.now.me _ _ _ c.requires.rests c.in-Ok.ensures.took c.in-Err.is) c.published-number.ensures.read).held

pub post-posted-requires-clause-may : goal.post-posted-requires-clause-may
post-posted-requires-clause-may c = may_post c.args.seat.now.me _ _ _ _ c.requires.rests c.in-Ok.ensures.took c.in-Err.is
    (after_read _ _ _ _ _ (after_take c.args.seat.now.me _ _ _ c.requires.rests c.in-Ok.ensures.took c.in-Err.is) c.published-number.ensures.read)

pub publish-requires-clause-held : goal.publish-requires-clause-held
publish-requires-clause-held c = let k = after_read _ _ _ _ _ (after_take c.args.seat.now.me _ _ _ c.requires.rests c.in-Ok.ensures.took c.in-Err.is) c.published-number.ensures.read in
    let p = c.post-posted.ensures.posted _ (state_in c.in-Err.back) k.turn refl in (after_post c.in-Err.back p.0 _ _ _ k p.3).held

pub publish-requires-clause-later : goal.publish-requires-clause-later
publish-requires-clause-later c = let k = after_read _ _ _ _ _ (after_take c.args.seat.now.me _ _ _ c.requires.rests c.in-Ok.ensures.took c.in-Err.is) c.published-number.ensures.read in
    let p = c.post-posted.ensures.posted _ (state_in c.in-Err.back) k.turn refl in
    subst (λ n. n ≤ 5) (sym (ap (λ (z : Known _ _). z.published) (p.3.places ∙ c.published-number.ensures.read.places))) c.if-number-gt5.false

pub publish-requires-clause-may : goal.publish-requires-clause-may
publish-requires-clause-may c = let k = after_read _ _ _ _ _ (after_take c.args.seat.now.me _ _ _ c.requires.rests c.in-Ok.ensures.took c.in-Err.is) c.published-number.ensures.read in
    let p = c.post-posted.ensures.posted _ (state_in c.in-Err.back) k.turn refl in
    let q = after_post c.in-Err.back p.0 _ _ _ k p.3 in may_publish c.in-Err.back p.0 _ _ q

pub give-requires-clause-table : goal.give-requires-clause-table
give-requires-clause-table c = let k = after_read _ _ _ _ _ (after_take c.args.seat.now.me _ _ _ c.requires.rests c.in-Ok.ensures.took c.in-Err.is) c.published-number.ensures.read in
    let p = c.post-posted.ensures.posted _ (state_in c.in-Err.back) k.turn refl in
    let q = after_post c.in-Err.back p.0 _ _ _ k p.3 in
    (c.publish.ensures.table.0 ∙ (c.post-posted.ensures.table.0 ∙ (c.published-number.ensures.table.0 ∙ (c.in-Ok.ensures.table.0 ∙ c.requires.table.0))), c.requires.table.1, (after_publish _ _ _ _ 5 q c.publish.ensures.written).about)

pub give-requires-clause-still : goal.give-requires-clause-still
give-requires-clause-still c = let k = after_read _ _ _ _ _ (after_take c.args.seat.now.me _ _ _ c.requires.rests c.in-Ok.ensures.took c.in-Err.is) c.published-number.ensures.read in
    let p = c.post-posted.ensures.posted _ (state_in c.in-Err.back) k.turn refl in
    let q = after_post c.in-Err.back p.0 _ _ _ k p.3 in
    ((after_publish _ _ _ _ 5 q c.publish.ensures.written).still, c.publish.ensures.hand)

pub give-requires-clause-held : goal.give-requires-clause-held
unfolding room
give-requires-clause-held c = let k = after_read _ _ _ _ _ (after_take c.args.seat.now.me _ _ _ c.requires.rests c.in-Ok.ensures.took c.in-Err.is) c.published-number.ensures.read in
    let p = c.post-posted.ensures.posted _ (state_in c.in-Err.back) k.turn refl in
    let q = after_post c.in-Err.back p.0 _ _ _ k p.3 in
    (after_publish _ _ _ _ 5 q c.publish.ensures.written).held

pub give-requires-clause-gives : goal.give-requires-clause-gives
unfolding room
give-requires-clause-gives c = let k = after_read _ _ _ _ _ (after_take c.args.seat.now.me _ _ _ c.requires.rests c.in-Ok.ensures.took c.in-Err.is) c.published-number.ensures.read in
    let p = c.post-posted.ensures.posted _ (state_in c.in-Err.back) k.turn refl in
    let q = after_post c.in-Err.back p.0 _ _ _ k p.3 in
    let m = back_within c.args.seat.now.me _ _ _ c.requires.rests c.in-Ok.ensures.took c.in-Err.is in
    may_give c.in-Err.back p.0 _ _ _ _ _ m p.3 p.1 p.2 _ (after_publish _ _ _ _ 5 q c.publish.ensures.written)

pub returns-clause-notes : goal.returns-clause-notes
unfolding at_room room
returns-clause-notes c = let k = after_read _ _ _ _ _ (after_take c.args.seat.now.me _ _ _ c.requires.rests c.in-Ok.ensures.took c.in-Err.is) c.published-number.ensures.read in
    let p = c.post-posted.ensures.posted _ (state_in c.in-Err.back) k.turn refl in
    let q = after_post c.in-Err.back p.0 _ _ _ k p.3 in
    ap (λ z. z.0.beside.notes) c.give.ensures.gave ∙ (after_publish _ _ _ _ 5 q c.publish.ensures.written).notes
