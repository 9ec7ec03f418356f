use Rattle.std.proofs.Common.{◌≡◌, ◌+◌, ◌-◌, ◌<◌, ◌≤◌, ◌++◌, ◌∷◌, ℕ, List, suc, [], length, map, ap, sym, subst, ◌∙◌, arith, length-append}
use Rattle.std.proofs.lemmas.List.{map-append}
use lib.ListN.{get_elem?}
use Rattle.fine_places.specs.History as places
use Rattle.fine_places.proofs.Lists.{none_held}
use Rattle.fine_hall.specs.Halls.{begun_by}
use Rattle.fine_hall.proofs.Handing.{Beginner, keeps_rest, takes_first, last_one, right_note, left_notes, one_note, first_pass, fresh_pass, hands, front_at, longer_by, sized_for}
use Rattle.fine_hall.proofs.Laying.{none_of}
use Rattle.fine_hall.proofs.opening.hand_out.Goals as goal

pub split-other-requires-clause-numbers : goal.split-other-requires-clause-numbers
split-other-requires-clause-numbers g c =
    let i = c.loop-fronts.invariant in
    let same = i.same_len.0 in
    let len = c.len.ensures in
    let more = c.loop-fronts-test.true in
    let n : ℕ = length c.loop-fronts.fronts.items - 2 in
    let up : length c.loop-fronts.fronts.items ≡ suc (suc n) = omega arith in
    (n, (subst (λ m. Beginner (begun_by g.R.RoomLaw.state g.R.RoomLaw.origin g.V.ViewLaw.state c.args.places.now.key) m c.loop-fronts.seat.me.0.places) up i.left).shares)

pub split-other-requires-clause-empty : goal.split-other-requires-clause-empty
split-other-requires-clause-empty g c = λ k h. none_held (suc places.room) k (ap (λ l. get_elem? l k) (sym c.loop-fronts.invariant.left.held) ∙ h)

pub loop-fronts-preserved : goal.loop-fronts-preserved
loop-fronts-preserved g c =
    let i = c.loop-fronts.invariant in
    let seats = c.requires.seats in
    let sized = sized_for _ _ c.args.places.now.table_id seats c.requires.table.2 in
    let before = c.pop.new.self.items in
    let popped = c.in-Some.ensures in
    let s = c.split-other.ensures in
    let made = c.seated.ensures in
    let up = longer_by c.loop-fronts.fronts.items before c.in-Some.front popped.items in
    let left : Beginner (begun_by g.R.RoomLaw.state g.R.RoomLaw.origin g.V.ViewLaw.state c.args.places.now.key) (suc (length before)) c.loop-fronts.seat.me.0.places = subst (λ m. Beginner (begun_by g.R.RoomLaw.state g.R.RoomLaw.origin g.V.ViewLaw.state c.args.places.now.key) m c.loop-fronts.seat.me.0.places) up i.left in
    let notes = i.notes ∙ ap (λ l. Rattle.fine_boxes.specs.Boxes.first_notes l) (ap (map g.V.ViewLaw.state) popped.items ∙ map-append g.V.ViewLaw.state before (c.in-Some.front ∷ [])) in
    let fronts = i.front.1 ∙ ap (λ (l : List g.row.V.Denot). l ++ i.front.0) popped.items in
    let counted = i.counted in
    let all = seats.2 in
    let number = made.rest.0 ∙ (c.len-number.ensures ∙ (sym i.same_len.0 ∙ up)) in
    let pos : 0 < suc (length before) = omega arith in
    let high : suc (length before) ≤ (begun_by g.R.RoomLaw.state g.R.RoomLaw.origin g.V.ViewLaw.state c.args.places.now.key).seats = omega (arith, up, counted, all) in
    let single = takes_first (begun_by g.R.RoomLaw.state g.R.RoomLaw.origin g.V.ViewLaw.state c.args.places.now.key) (length before) c.loop-fronts.seat.me.0.places c.split-other.result.me.0.places (ap (λ m. m.0.places) s.other) left in
    let note = right_note c.loop-fronts.seat.me.0.beside c.split-other.result.me.0.beside (map g.V.ViewLaw.state before) (g.V.ViewLaw.state c.in-Some.front) notes (ap (λ m. m.0.beside) s.other) in
    let fresh = c.requires.fronts (length before) c.in-Some.front (front_at c.args.fronts.items before c.in-Some.front i.front.0 fronts) in
    let is_pass = first_pass g.V.ViewLaw.state c.args.places.now.table_id (begun_by g.R.RoomLaw.state g.R.RoomLaw.origin g.V.ViewLaw.state c.args.places.now.key) sized.0 c.requires.places sized.1 (suc (length before)) pos high c.seated.result c.split-other.result.me.0 c.in-Some.front (made.badge.0 ∙ (s.table.2 ∙ i.table)) made.badge.1 number made.rest.1 made.rest.2 single note fresh in
    let is_fresh = fresh_pass g.V.ViewLaw.state c.args.places.now.table_id (begun_by g.R.RoomLaw.state g.R.RoomLaw.origin g.V.ViewLaw.state c.args.places.now.key) sized.0 c.requires.places sized.1 (suc (length before)) pos high c.seated.result c.split-other.result.me.0 c.in-Some.front (made.badge.0 ∙ (s.table.2 ∙ i.table)) made.badge.1 number made.rest.1 made.rest.2 single note fresh in
    let push = c.push_reserved.ensures in
    let long = ap length push.items ∙ length-append c.loop-fronts.passes.items (c.seated.result ∷ []) in
    let plen = push.len in
    let flen = popped.len in
    let same = i.same_len in
    let same0 = same.0 in
    let same1 = same.1 in
    let cap = push.capacity in
    let room = i.room in
    let more = c.loop-fronts-test.true in
    let len = c.len.ensures in
    record {
      table = s.table.0 ∙ i.table;
      still = ap (λ m. m.1) s.this ∙ i.still;
      left = keeps_rest (begun_by g.R.RoomLaw.state g.R.RoomLaw.origin g.V.ViewLaw.state c.args.places.now.key) (length before) c.loop-fronts.seat.me.0.places c.split-other.new.seat.me.0.places (ap (λ m. m.0.places) s.this) left;
      notes = left_notes c.loop-fronts.seat.me.0.beside c.split-other.new.seat.me.0.beside (map g.V.ViewLaw.state before) (g.V.ViewLaw.state c.in-Some.front) notes (ap (λ m. m.0.beside) s.this);
      positive = omega arith;
      same_len = ((omega arith), (omega arith));
      counted = omega arith;
      room = omega arith;
      front = (c.in-Some.front ∷ i.front.0, fronts ∙ Rattle.std.proofs.Common.append_assoc before (c.in-Some.front ∷ []) i.front.0);
      handed = hands g.V.ViewLaw.state c.args.places.now.table_id (begun_by g.R.RoomLaw.state g.R.RoomLaw.origin g.V.ViewLaw.state c.args.places.now.key) sized.0 c.requires.places sized.1 c.args.fronts.items before c.in-Some.front i.front.0 c.loop-fronts.passes.items c.push_reserved.new.self.items c.seated.result push.items fronts (omega (arith, up, counted, all)) is_pass is_fresh i.handed;
    }

pub returns-clause-passes : goal.returns-clause-passes
returns-clause-passes g c =
    let i = c.loop-fronts.invariant in
    let seats = c.requires.seats in
    let sized = sized_for _ _ c.args.places.now.table_id seats c.requires.table.2 in
    let before = c.pop-2.new.self.items in
    let popped = c.in-Some-pop.ensures in
    let made = c.seated-2.ensures in
    let up = longer_by c.loop-fronts.fronts.items before c.in-Some-pop.front popped.items in
    let last = c.loop-fronts-test.false in
    let len = c.len.ensures in
    let same0 = i.same_len.0 in
    let positive = i.positive in
    let none : length before ≡ 0 = omega arith in
    let gone : before ≡ [] = none_of before none in
    let left : Beginner (begun_by g.R.RoomLaw.state g.R.RoomLaw.origin g.V.ViewLaw.state c.args.places.now.key) 1 c.loop-fronts.seat.me.0.places = subst (λ m. Beginner (begun_by g.R.RoomLaw.state g.R.RoomLaw.origin g.V.ViewLaw.state c.args.places.now.key) m c.loop-fronts.seat.me.0.places) (up ∙ ap suc none) i.left in
    let notes = i.notes ∙ ap (λ l. Rattle.fine_boxes.specs.Boxes.first_notes (map g.V.ViewLaw.state l)) (popped.items ∙ ap (λ (l : List g.row.V.Denot). l ++ c.in-Some-pop.front ∷ []) gone) in
    let fronts = i.front.1 ∙ ap (λ (l : List g.row.V.Denot). l ++ i.front.0) popped.items in
    let counted = i.counted in
    let all = seats.2 in
    let pos : 0 < suc (length before) = omega arith in
    let high : suc (length before) ≤ (begun_by g.R.RoomLaw.state g.R.RoomLaw.origin g.V.ViewLaw.state c.args.places.now.key).seats = omega (arith, up, counted, all) in
    let single = subst (λ m. Rattle.fine_hall.proofs.Handing.Single (begun_by g.R.RoomLaw.state g.R.RoomLaw.origin g.V.ViewLaw.state c.args.places.now.key) (suc m) c.loop-fronts.seat.me.0.places) (sym none) (last_one (begun_by g.R.RoomLaw.state g.R.RoomLaw.origin g.V.ViewLaw.state c.args.places.now.key) c.loop-fronts.seat.me.0.places left) in
    let note = one_note c.loop-fronts.seat.me.0.beside (g.V.ViewLaw.state c.in-Some-pop.front) notes in
    let fresh = c.requires.fronts (length before) c.in-Some-pop.front (front_at c.args.fronts.items before c.in-Some-pop.front i.front.0 fronts) in
    let number = made.rest.0 ∙ ap suc (sym none) in
    let is_pass = first_pass g.V.ViewLaw.state c.args.places.now.table_id (begun_by g.R.RoomLaw.state g.R.RoomLaw.origin g.V.ViewLaw.state c.args.places.now.key) sized.0 c.requires.places sized.1 (suc (length before)) pos high c.seated-2.result c.loop-fronts.seat.me.0 c.in-Some-pop.front (made.badge.0 ∙ i.table) made.badge.1 number made.rest.1 made.rest.2 single note fresh in
    let is_fresh = fresh_pass g.V.ViewLaw.state c.args.places.now.table_id (begun_by g.R.RoomLaw.state g.R.RoomLaw.origin g.V.ViewLaw.state c.args.places.now.key) sized.0 c.requires.places sized.1 (suc (length before)) pos high c.seated-2.result c.loop-fronts.seat.me.0 c.in-Some-pop.front (made.badge.0 ∙ i.table) made.badge.1 number made.rest.1 made.rest.2 single note fresh in
    hands g.V.ViewLaw.state c.args.places.now.table_id (begun_by g.R.RoomLaw.state g.R.RoomLaw.origin g.V.ViewLaw.state c.args.places.now.key) sized.0 c.requires.places sized.1 c.args.fronts.items before c.in-Some-pop.front i.front.0 c.loop-fronts.passes.items c.push_reserved-2.new.self.items c.seated-2.result c.push_reserved-2.ensures.items fronts (omega (arith, up, counted, all)) is_pass is_fresh i.handed
