use Rattle.std.proofs.Common.{◌≡◌, ◌∙◌, ◌<◌, ◌∷◌, [], ◌-◌, List, Option, Some, None, true, sym, ap, subst}
use Rattle.std.specs.Prelude.{ℕ}
use Rattle.atomic_table.specs.Table.{rest}
use Rattle.fine_places.proofs.Lists.{same_head, some_same}
use Rattle.fine_boxes.specs.declared.model.BoxNote.{BoxNote}
use Rattle.fine_boxes.specs.declared.model.Reads.{Reads}
use Rattle.fine_boxes.specs.Boxes.{slot}
use Rattle.fine_boxes.specs.Telling.{refreshing}
use Rattle.fine_boxes.specs.Lists.{first_same}
use Rattle.fine_boxes.proofs.Allowing.{swap_allowed, land_allowed}
use Rattle.fine_boxes.proofs.Exchanging.{swap_tells, refreshed_whole}
use Rattle.fine_boxes.proofs.Numbers.{half_is, word_within, next_number}
use Rattle.fine_boxes.proofs.steps.refresh.Goals as goal

pub swap-found-requires : goal.swap-found-requires
swap-found-requires g c = let o = c.requires.may in let x = c.exchange-empty.ensures in let w = c.mailbox.ensures.word in (
  x.0 ∙ c.requires.table.0,
  subst (λ n. n < c.args.places.now.table_id.words) (sym w) (word_within c.args.number _ _ c.requires.number.0 c.requires.number.1 c.requires.table.1.0),
  swap_allowed _ _ _ _ g.L.PlaceLaw.grows _ _ _ _ _ _ _ _ _ _ _ g.W.BoxLaw.anyway _ o.note (c.args.number - 1) o.count c.args.buffer c.slot.result c.args.seat.now.me.0 c.args.front
      (x.3 ∙ ap (λ (l : List (ℕ × Option g.row.T.Denot)). (c.args.seat.now.me.0, (c.slot.result, Some c.args.front) ∷ rest l)) o.hand) c.slot.ensures.slot
      o.own.0 (o.own.1 ∙ next_number c.args.number c.requires.number.0) o.at o.found o.out o.is_front _ w,
)

pub exchange-requires : goal.exchange-requires
exchange-requires g c = let o = c.requires.may in let x = c.exchange-empty.ensures in let s = c.swap-found.ensures in
    let t = swap_tells g.L.PlaceLaw.legal g.L.PlaceLaw.touches g.W.BoxLaw.view g.W.BoxLaw.shows c.args.seat.now.me c.exchange-empty.new.seat.me c.swap-found.new.seat.me c.slot.result _ c.swap-found.result c.args.front x.3 o.hand s.2 o.note (c.args.number - 1) o.count o.own.0 (o.own.1 ∙ next_number c.args.number c.requires.number.0)
    (c.slot.ensures.slot ∙ ap (slot (c.args.number - 1)) (sym o.at)) o.is_front in
    let place : c.slot-2.result ≡ slot (c.args.number - 1) t.1.buffer = c.slot-2.ensures.slot ∙ ap (slot (c.args.number - 1)) (c.middle_in-middle.ensures.half ∙ half_is c.swap-found.result t.1.buffer true t.3) in
    (s.0 ∙ (x.0 ∙ c.requires.table.0), (Some t.0, t.5 ∙ (λ j. (sym place j, Some t.0) ∷ rest (sym t.5 j))))

pub load-requires : goal.load-requires
load-requires g c = let o = c.requires.may in let x = c.exchange-empty.ensures in let s = c.swap-found.ensures in let y = c.exchange.ensures in let w = c.mailbox-2.ensures.word in
    let t = swap_tells g.L.PlaceLaw.legal g.L.PlaceLaw.touches g.W.BoxLaw.view g.W.BoxLaw.shows c.args.seat.now.me c.exchange-empty.new.seat.me c.swap-found.new.seat.me c.slot.result _ c.swap-found.result c.args.front x.3 o.hand s.2 o.note (c.args.number - 1) o.count o.own.0 (o.own.1 ∙ next_number c.args.number c.requires.number.0)
    (c.slot.ensures.slot ∙ ap (slot (c.args.number - 1)) (sym o.at)) o.is_front in
    let place : c.slot-2.result ≡ slot (c.args.number - 1) t.1.buffer = c.slot-2.ensures.slot ∙ ap (slot (c.args.number - 1)) (c.middle_in-middle.ensures.half ∙ half_is c.swap-found.result t.1.buffer true t.3) in (
      y.0 ∙ (s.0 ∙ (x.0 ∙ c.requires.table.0)),
      subst (λ n. n < c.args.places.now.table_id.words) (sym w) (word_within c.args.number _ _ c.requires.number.0 c.requires.number.1 c.requires.table.1.0),
      land_allowed _ _ _ _ g.L.PlaceLaw.grows _ _ _ _ _ _ _ _ _ _ _ _ (refreshing o.note t.1 o.count t.4.log) (c.args.number - 1) c.swap-found.new.seat.me.0 c.slot-2.result
          (y.3 ∙ ap (λ (l : List (ℕ × Option g.row.T.Denot)). (c.swap-found.new.seat.me.0, (c.slot-2.result, None) ∷ rest l)) t.5) place
          (ap (λ (z : Reads g.row.N.Denot). z.notes) t.4.beside) (o.own.1 ∙ next_number c.args.number c.requires.number.0) o.out _ w,
    )

pub returns-clause-refreshed : goal.returns-clause-refreshed
returns-clause-refreshed g c = λ m n is shown. let o = c.requires.may in let x = c.exchange-empty.ensures in let s = c.swap-found.ensures in let y = c.exchange.ensures in
    let em = first_same o.note m [] [] (sym o.own.0 ∙ is) in
    let t = swap_tells g.L.PlaceLaw.legal g.L.PlaceLaw.touches g.W.BoxLaw.view g.W.BoxLaw.shows c.args.seat.now.me c.exchange-empty.new.seat.me c.swap-found.new.seat.me c.slot.result _ c.swap-found.result c.args.front x.3 o.hand s.2 m (c.args.number - 1) n is (ap (λ (z : BoxNote g.row.N.Denot). z.seat) (sym em) ∙ (o.own.1 ∙ next_number c.args.number c.requires.number.0))
    (c.slot.ensures.slot ∙ ap (slot (c.args.number - 1)) (sym o.at ∙ ap (λ (z : BoxNote g.row.N.Denot). z.front.buffer) em)) shown in
    let half = c.middle_in-middle.ensures.half ∙ half_is c.swap-found.result t.1.buffer true t.3 in
    let place : c.slot-2.result ≡ slot (c.args.number - 1) t.1.buffer = c.slot-2.ensures.slot ∙ ap (slot (c.args.number - 1)) half in
    let got = some_same t.0 c.in-Some.new (same_head _ c.slot-2.result (Some t.0) c.exchange.result _ _ (t.5 ∙ (λ j. (sym place j, Some t.0) ∷ [])) y.2 ∙ c.in-Some.is) in (
      t.1,
      ap g.W.BoxLaw.view (sym got) ∙ t.2,
      half,
      refreshed_whole g.L.PlaceLaw.legal g.L.PlaceLaw.touches g.W.BoxLaw.view g.W.BoxLaw.shows c.args.seat.now.me.0 c.swap-found.new.seat.me.0 c.exchange.new.seat.me c.load.new.seat.me m n t.1 t.4 (ap (λ z. z.0) y.3) c.load.ensures.2,
    )
