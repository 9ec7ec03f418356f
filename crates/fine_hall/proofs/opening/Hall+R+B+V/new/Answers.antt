use Rattle.std.proofs.Common.{◌≡◌, ◌*◌, ◌≤◌, ◌++◌, suc, length, Vec, ap, sym, subst, ◌∙◌, refl, arith}
use Rattle.std.proofs.lemmas.Grind.{common_steps}
use Rattle.fine_hall.specs.Opening.{laid_places, laid_views}
use Rattle.fine_hall.specs.Halls.{begun_by, IsFreshView}
use Rattle.fine_hall.proofs.Laying.{parts_same, long_views, laid_same}
use Rattle.fine_boxes.proofs.Opening.{boxes_open}
use Rattle.fine_hall.proofs.Entering.{start_lies, start_opens, same_beginning, few_seats, enough, all_free, has_boxes}
use Rattle.fine_hall.proofs.Handing.{fresh_turns}
use Rattle.fine_hall.proofs.opening.Hall+R+B+V.new.Goals as goal

pub open-requires-clause-counts : goal.open-requires-clause-counts
open-requires-clause-counts g c =
    let n : c.len-seats.result ≡ length c.args.fronts.items = c.len-seats.ensures ∙ (grind (arith, common_steps)) in
    let slots = c.fill_places-slots.ensures.slots ∙ ap (λ l. laid_places c.args.room c.args.buckets.items ++ l) c.fill_views-slots.ensures.slots in
    let o = start_opens g.R.RoomLaw.state g.R.RoomLaw.origin g.R.RoomLaw.stands_for g.B.BucketLaw.bucket g.B.BucketLaw.cached g.B.BucketLaw.is_settled g.V.ViewLaw.state c.args.room c.args.buckets.items c.args.fronts.items c.args.middles.items c.requires.seats c.requires.buckets c.requires.fresh c.fill_places-slots.result.0.items slots c.len-seats.result c.of.result.value c.of-2.result.value.items n c.of.ensures (ap (λ (v : Vec g.row.V.Denot _). v.items) c.of-2.ensures) c.first_words-words.result c.first_words-words.ensures.long c.first_words-words.ensures.places c.first_words-words.ensures.boxes in
    let deep = o.deep in
    (enough c.len-seats.result c.first_words-words.result c.first_words-words.ensures.long (subst (λ m. m ≤ 18) (sym n) c.requires.seats.1), omega (arith, deep))

pub open-requires-clause-seats : goal.open-requires-clause-seats
open-requires-clause-seats g c =
    let n : c.len-seats.result ≡ length c.args.fronts.items = c.len-seats.ensures ∙ (grind (arith, common_steps)) in
    few_seats c.len-seats.result (subst (λ m. 1 ≤ m) (sym n) c.requires.seats.0) (subst (λ m. m ≤ 18) (sym n) c.requires.seats.1)

pub open-requires-clause-legal : goal.open-requires-clause-legal
open-requires-clause-legal g c = fresh_turns _ (ap (λ r. (g.R.RoomLaw.state r).places) c.of.ensures ∙ c.requires.fresh.places)

pub open-requires-clause-free : goal.open-requires-clause-free
open-requires-clause-free g c = all_free c.len-seats.result c.first_words-words.result c.first_words-words.ensures.places

pub open-requires-clause-stands : goal.open-requires-clause-stands
open-requires-clause-stands g c =
    let n : c.len-seats.result ≡ length c.args.fronts.items = c.len-seats.ensures ∙ (grind (arith, common_steps)) in
    let slots = c.fill_places-slots.ensures.slots ∙ ap (λ l. laid_places c.args.room c.args.buckets.items ++ l) c.fill_views-slots.ensures.slots in
    start_lies g.R.RoomLaw.state g.R.RoomLaw.origin g.R.RoomLaw.stands_for g.B.BucketLaw.bucket g.B.BucketLaw.cached g.B.BucketLaw.is_settled g.V.ViewLaw.state c.args.room c.args.buckets.items c.args.fronts.items c.args.middles.items c.requires.seats c.requires.buckets c.requires.fresh c.fill_places-slots.result.0.items slots c.len-seats.result c.of.result.value c.of-2.result.value.items n c.of.ensures (ap (λ (v : Vec g.row.V.Denot _). v.items) c.of-2.ensures)

pub open-requires-clause-beside : goal.open-requires-clause-beside
open-requires-clause-beside g c =
    let n : c.len-seats.result ≡ length c.args.fronts.items = c.len-seats.ensures ∙ (grind (arith, common_steps)) in
    let slots = c.fill_places-slots.ensures.slots ∙ ap (λ l. laid_places c.args.room c.args.buckets.items ++ l) c.fill_views-slots.ensures.slots in
    let o = start_opens g.R.RoomLaw.state g.R.RoomLaw.origin g.R.RoomLaw.stands_for g.B.BucketLaw.bucket g.B.BucketLaw.cached g.B.BucketLaw.is_settled g.V.ViewLaw.state c.args.room c.args.buckets.items c.args.fronts.items c.args.middles.items c.requires.seats c.requires.buckets c.requires.fresh c.fill_places-slots.result.0.items slots c.len-seats.result c.of.result.value c.of-2.result.value.items n c.of.ensures (ap (λ (v : Vec g.row.V.Denot _). v.items) c.of-2.ensures) c.first_words-words.result c.first_words-words.ensures.long c.first_words-words.ensures.places c.first_words-words.ensures.boxes in
    boxes_open _ _ _ _ _ _ _ _ _ _ _ _ _ o _ _ refl

pub hand_out-passes-requires-clause-fronts : goal.hand_out-passes-requires-clause-fronts
hand_out-passes-requires-clause-fronts g c =
    let n : c.len-seats.result ≡ length c.args.fronts.items = c.len-seats.ensures ∙ (grind (arith, common_steps)) in
    let is = same_beginning g.R.RoomLaw.state g.R.RoomLaw.origin g.V.ViewLaw.state c.len-seats.result (length c.args.fronts.items) c.of.result.value c.args.room c.of-2.result.value.items c.args.fronts.items n c.of.ensures (ap (λ (v : Vec g.row.V.Denot _). v.items) c.of-2.ensures) in
    λ _ _ i v at. subst (λ y. IsFreshView y (suc i) 0 (g.V.ViewLaw.state v)) (sym (ap (begun_by g.R.RoomLaw.state g.R.RoomLaw.origin g.V.ViewLaw.state) c.in-Ok-open.ensures.table.2 ∙ is)) (c.requires.fresh.each_front i v at)

pub hand_out-passes-requires-clause-table : goal.hand_out-passes-requires-clause-table
hand_out-passes-requires-clause-table g c =
    let n : c.len-seats.result ≡ length c.args.fronts.items = c.len-seats.ensures ∙ (grind (arith, common_steps)) in
    let slots = c.fill_places-slots.ensures.slots ∙ ap (λ l. laid_places c.args.room c.args.buckets.items ++ l) c.fill_views-slots.ensures.slots in
    let o = start_opens g.R.RoomLaw.state g.R.RoomLaw.origin g.R.RoomLaw.stands_for g.B.BucketLaw.bucket g.B.BucketLaw.cached g.B.BucketLaw.is_settled g.V.ViewLaw.state c.args.room c.args.buckets.items c.args.fronts.items c.args.middles.items c.requires.seats c.requires.buckets c.requires.fresh c.fill_places-slots.result.0.items slots c.len-seats.result c.of.result.value c.of-2.result.value.items n c.of.ensures (ap (λ (v : Vec g.row.V.Denot _). v.items) c.of-2.ensures) c.first_words-words.result c.first_words-words.ensures.long c.first_words-words.ensures.places c.first_words-words.ensures.boxes in
    λ _ _. (c.in-Ok-open.ensures.table.1, c.in-Ok-open.ensures.table.0, has_boxes c.len-seats.result (length c.args.fronts.items) c.in-Ok-open.table.shared.table_id c.first_words-words.result _ n (subst (λ m. m ≤ 18) (sym n) c.requires.seats.1) c.first_words-words.ensures.long c.in-Ok-open.ensures.counts.0 c.in-Ok-open.ensures.counts.1 o.deep)

pub empty_places-room-requires-clause-slots : goal.empty_places-room-requires-clause-slots
empty_places-room-requires-clause-slots g c =
    let n : c.len-seats.result ≡ length c.args.fronts.items = c.len-seats.ensures ∙ (grind (arith, common_steps)) in
    let slots = c.fill_places-slots.ensures.slots ∙ ap (λ l. laid_places c.args.room c.args.buckets.items ++ l) c.fill_views-slots.ensures.slots in
    let back = c.in-Err.ensures.refused ∙ slots in
    let len = c.empty_views-slots.ensures.count ∙ (n ∙ sym c.requires.seats.2) in
    let t = parts_same c.empty_views-slots.result.0.items (laid_places c.args.room c.args.buckets.items) (laid_views c.empty_views-slots.result.1.items) (laid_views c.args.middles.items) (sym c.empty_views-slots.ensures.slots ∙ back) (long_views _ _ c.empty_views-slots.result.1.items ∙ (ap (λ k. 3 * k) len ∙ sym (long_views _ _ c.args.middles.items))) in
    let cap = c.fill_places-slots.ensures.emptied.1 in
    (c.args.room, c.args.buckets.items, t.0, (grind (arith, common_steps)))

pub returns-clause-back : goal.returns-clause-back
returns-clause-back g c =
    let n : c.len-seats.result ≡ length c.args.fronts.items = c.len-seats.ensures ∙ (grind (arith, common_steps)) in
    let slots = c.fill_places-slots.ensures.slots ∙ ap (λ l. laid_places c.args.room c.args.buckets.items ++ l) c.fill_views-slots.ensures.slots in
    let back = c.in-Err.ensures.refused ∙ slots in
    let len = c.empty_views-slots.ensures.count ∙ (n ∙ sym c.requires.seats.2) in
    let t = laid_same c.args.room c.empty_places-room.result.0 c.args.buckets.items c.empty_places-room.result.1.items c.args.middles.items c.empty_views-slots.result.1.items
    (sym back ∙ (c.empty_views-slots.ensures.slots ∙ ap (λ l. l ++ laid_views c.empty_views-slots.result.1.items) c.empty_places-room.ensures)) (sym len) in
    (t.0, t.1, refl, t.2)
