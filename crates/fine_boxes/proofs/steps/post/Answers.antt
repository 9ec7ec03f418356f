use Rattle.std.proofs.Common.{◌≡◌, ◌∙◌, ◌<◌, [], ◌∷◌, ◌-◌, ℕ, List, Option, Some, None, sym, ap, subst, refl}
use Rattle.atomic_table.specs.Table.{rest}
use Rattle.fine_model.specs.declared.law.ViewState.{ViewState}
use Rattle.fine_places.specs.History.{room}
use Rattle.fine_places.specs.Places.{Holds}
use Rattle.fine_places.specs.declared.model.Known.{Known}
use Rattle.fine_places.specs.declared.model.View.{View}
use Rattle.fine_places.proofs.Lists.{same_head, some_same}
use Rattle.fine_boxes.specs.declared.model.TurnNote.{TurnNote}
use Rattle.fine_boxes.specs.declared.model.Reads.{Reads}
use Rattle.fine_boxes.specs.Boxes.{slot}
use Rattle.fine_boxes.specs.Telling.{posting, MayPost, Posted}
use Rattle.fine_boxes.proofs.Allowing.{fetch_back_allowed, post_allowed, land_back_allowed}
use Rattle.fine_boxes.proofs.Exchanging.{may_still, fetch_tells, post_tells, back_now, posted_whole}
use Rattle.fine_boxes.proofs.Numbers.{half_is, few_is, word_within, seat_within}
use Rattle.fine_boxes.proofs.steps.post.Goals as goal

pub load-requires : goal.load-requires
load-requires g c = let o = c.requires.may in let w = c.mailbox.ensures.word in (
  c.requires.table.0,
  subst (λ n. n < c.args.places.now.table_id.words) (sym w) (word_within c.args.number _ _ c.requires.number.0 c.requires.number.1 c.requires.table.1.0),
  fetch_back_allowed _ _ _ _ g.L.PlaceLaw.grows _ _ _ _ _ _ _ _ _ _ _ c.args.seat.now.me o.turn (c.args.number - 1) c.requires.held o.is o.still (seat_within c.args.number _ c.requires.number.0 c.requires.number.1) c.requires.still _ w,
)

pub swap-found-requires : goal.swap-found-requires
swap-found-requires g c = let o = c.requires.may in let i : ℕ = c.args.number - 1 in let w = c.mailbox-2.ensures.word in let l = c.load.ensures in let x = c.exchange-empty.ensures in
    let f = fetch_tells g.L.PlaceLaw.legal g.L.PlaceLaw.touches g.W.BoxLaw.view g.W.BoxLaw.shows (g.L.StartLaw.start c.args.places.now.key) c.args.seat.now.me c.load.new.seat.me c.args.places.now.table_id.slots c.mailbox.result c.args.number c.args.back c.args.thing
    c.requires.may c.requires.still c.mailbox.ensures.word l.2 in (
      x.0 ∙ (l.0 ∙ c.requires.table.0),
      subst (λ n. n < c.args.places.now.table_id.words) (sym w) (word_within c.args.number _ _ c.requires.number.0 c.requires.number.1 c.requires.table.1.0),
      post_allowed _ _ _ _ g.L.PlaceLaw.grows _ _ _ _ _ _ _ _ _ _ _ _ (record o.turn { out = Some i }) i c.args.back c.slot.result c.load.new.seat.me.0 c.args.thing o.new
          (x.3 ∙ ap (λ (h : List (ℕ × Option g.row.T.Denot)). (c.load.new.seat.me.0, (c.slot.result, Some c.args.thing) ∷ rest h)) f.1) c.slot.ensures.slot f.2
          (seat_within c.args.number _ c.requires.number.0 c.requires.number.1) (subst (λ (k : Known g.row.X.Denot g.row.N.Denot). Holds k room) (sym f.0.places) c.requires.held) (ap (λ (y : Reads g.row.N.Denot). y.turn) f.0.beside) refl o.is_new
          (subst (λ (k : Known g.row.X.Denot g.row.N.Denot). MayPost g.W.BoxLaw.shows (g.L.StartLaw.start c.args.places.now.key) (record o.turn { out = Some i }) i k.seen o.new) (sym f.0.places)
          (may_still g.L.PlaceLaw.legal g.L.PlaceLaw.touches g.W.BoxLaw.view g.W.BoxLaw.shows _ o.turn i c.args.seat.now.me.0.places.seen o.new (Some i) o.may)) _ w,
    )

pub middle_in-middle-requires : goal.middle_in-middle-requires
middle_in-middle-requires g c = let t = post_tells g.L.PlaceLaw.legal g.L.PlaceLaw.touches g.W.BoxLaw.view g.W.BoxLaw.shows (g.L.StartLaw.start c.args.places.now.key) c.args.seat.now.me c.load.new.seat.me c.exchange-empty.new.seat.me c.swap-found.new.seat.me c.args.places.now.table_id.slots c.mailbox.result
    c.slot.result c.swap-found.result c.args.number c.args.back c.args.thing c.requires.may c.requires.still c.mailbox.ensures.word c.load.ensures.2 c.slot.ensures.slot c.exchange-empty.ensures.3 c.swap-found.ensures.2 in record { few = few_is c.swap-found.result t.old.buffer t.fresh t.found t.told.place.1 }

pub exchange-requires : goal.exchange-requires
exchange-requires g c = let t = post_tells g.L.PlaceLaw.legal g.L.PlaceLaw.touches g.W.BoxLaw.view g.W.BoxLaw.shows (g.L.StartLaw.start c.args.places.now.key) c.args.seat.now.me c.load.new.seat.me c.exchange-empty.new.seat.me c.swap-found.new.seat.me c.args.places.now.table_id.slots c.mailbox.result
    c.slot.result c.swap-found.result c.args.number c.args.back c.args.thing c.requires.may c.requires.still c.mailbox.ensures.word c.load.ensures.2 c.slot.ensures.slot c.exchange-empty.ensures.3 c.swap-found.ensures.2 in
    let place : c.slot-2.result ≡ slot (c.args.number - 1) t.old.buffer = c.slot-2.ensures.slot ∙ ap (slot (c.args.number - 1)) (c.middle_in-middle.ensures.half ∙ half_is c.swap-found.result t.old.buffer t.fresh t.found) in
    (c.swap-found.ensures.0 ∙ (c.exchange-empty.ensures.0 ∙ (c.load.ensures.0 ∙ c.requires.table.0)), (Some t.thing, t.in_hand ∙ (λ j. (sym place j, Some t.thing) ∷ rest (sym t.in_hand j))))

pub unreachable-requires-in_default-exchange : goal.unreachable-requires-in_default-exchange
unreachable-requires-in_default-exchange g c = let t = post_tells g.L.PlaceLaw.legal g.L.PlaceLaw.touches g.W.BoxLaw.view g.W.BoxLaw.shows (g.L.StartLaw.start c.args.places.now.key) c.args.seat.now.me c.load.new.seat.me c.exchange-empty.new.seat.me c.swap-found.new.seat.me c.args.places.now.table_id.slots c.mailbox.result
    c.slot.result c.swap-found.result c.args.number c.args.back c.args.thing c.requires.may c.requires.still c.mailbox.ensures.word c.load.ensures.2 c.slot.ensures.slot c.exchange-empty.ensures.3 c.swap-found.ensures.2 in
    let place : c.slot-2.result ≡ slot (c.args.number - 1) t.old.buffer = c.slot-2.ensures.slot ∙ ap (slot (c.args.number - 1)) (c.middle_in-middle.ensures.half ∙ half_is c.swap-found.result t.old.buffer t.fresh t.found) in
    c.in_default-exchange.not-Some t.thing (sym (same_head _ c.slot-2.result (Some t.thing) c.exchange.result _ _ (t.in_hand ∙ (λ j. (sym place j, Some t.thing) ∷ [])) c.exchange.ensures.2))

pub load-requires-2 : goal.load-requires-2
load-requires-2 g c = let o = c.requires.may in let i : ℕ = c.args.number - 1 in let w = c.mailbox-3.ensures.word in let y = c.exchange.ensures in
    let t = post_tells g.L.PlaceLaw.legal g.L.PlaceLaw.touches g.W.BoxLaw.view g.W.BoxLaw.shows (g.L.StartLaw.start c.args.places.now.key) c.args.seat.now.me c.load.new.seat.me c.exchange-empty.new.seat.me c.swap-found.new.seat.me c.args.places.now.table_id.slots c.mailbox.result
    c.slot.result c.swap-found.result c.args.number c.args.back c.args.thing c.requires.may c.requires.still c.mailbox.ensures.word c.load.ensures.2 c.slot.ensures.slot c.exchange-empty.ensures.3 c.swap-found.ensures.2 in
    let place : c.slot-2.result ≡ slot i t.old.buffer = c.slot-2.ensures.slot ∙ ap (slot i) (c.middle_in-middle.ensures.half ∙ half_is c.swap-found.result t.old.buffer t.fresh t.found) in (
      y.0 ∙ (c.swap-found.ensures.0 ∙ (c.exchange-empty.ensures.0 ∙ (c.load.ensures.0 ∙ c.requires.table.0))),
      subst (λ n. n < c.args.places.now.table_id.words) (sym w) (word_within c.args.number _ _ c.requires.number.0 c.requires.number.1 c.requires.table.1.0),
      land_back_allowed _ _ _ _ g.L.PlaceLaw.grows _ _ _ _ _ _ _ _ _ _ _ _ (posting (record o.turn { out = Some i }) i o.new.buffer o.new t.old) i c.swap-found.new.seat.me.0 c.slot-2.result
          (y.3 ∙ ap (λ (h : List (ℕ × Option g.row.T.Denot)). (c.swap-found.new.seat.me.0, (c.slot-2.result, None) ∷ rest h)) t.in_hand)
          (place ∙ ap (slot i) (sym (back_now g.L.PlaceLaw.legal g.L.PlaceLaw.touches g.W.BoxLaw.view g.W.BoxLaw.shows (record o.turn { out = Some i }) i o.new.buffer o.new t.old t.fetched.known)))
          (seat_within c.args.number _ c.requires.number.0 c.requires.number.1)
          (subst (λ (k : Known g.row.X.Denot g.row.N.Denot). Holds k room) (sym (t.told.places ∙ t.fetched.places)) c.requires.held) (ap (λ (z : Reads g.row.N.Denot). z.turn) t.told.beside) refl _ w,
    )

pub returns-clause-posted : goal.returns-clause-posted
returns-clause-posted g c = λ turn new is shown. let o = c.requires.may in let i : ℕ = c.args.number - 1 in let y = c.exchange.ensures in
    let t = post_tells g.L.PlaceLaw.legal g.L.PlaceLaw.touches g.W.BoxLaw.view g.W.BoxLaw.shows (g.L.StartLaw.start c.args.places.now.key) c.args.seat.now.me c.load.new.seat.me c.exchange-empty.new.seat.me c.swap-found.new.seat.me c.args.places.now.table_id.slots c.mailbox.result
    c.slot.result c.swap-found.result c.args.number c.args.back c.args.thing c.requires.may c.requires.still c.mailbox.ensures.word c.load.ensures.2 c.slot.ensures.slot c.exchange-empty.ensures.3 c.swap-found.ensures.2 in
    let half = c.middle_in-middle.ensures.half ∙ half_is c.swap-found.result t.old.buffer t.fresh t.found in
    let place : c.slot-2.result ≡ slot i t.old.buffer = c.slot-2.ensures.slot ∙ ap (slot i) half in
    let got = some_same t.thing c.in-Some.old (same_head _ c.slot-2.result (Some t.thing) c.exchange.result _ _ (t.in_hand ∙ (λ j. (sym place j, Some t.thing) ∷ [])) y.2 ∙ c.in-Some.is) in
    let et : o.turn ≡ turn = some_same o.turn turn (sym o.is ∙ is) in
    let en : o.new ≡ new = some_same o.new new (sym o.is_new ∙ shown) in
    let whole : Posted o.turn i o.new t.old c.args.seat.now.me.0 c.load-2.new.seat.me.0 = posted_whole g.L.PlaceLaw.legal g.L.PlaceLaw.touches g.W.BoxLaw.view g.W.BoxLaw.shows c.args.seat.now.me.0 c.load.new.seat.me.0
    c.swap-found.new.seat.me.0 c.exchange.new.seat.me c.load-2.new.seat.me o.turn i o.new t.old o.still t.fetched t.told (ap (λ z. z.0) y.3) c.load-2.ensures.2 in (
      t.old,
      ap g.W.BoxLaw.view (sym got) ∙ t.is_old,
      half,
      subst (λ (q : TurnNote × ViewState). Posted q.0 i q.1 t.old c.args.seat.now.me.0 c.load-2.new.seat.me.0) (λ j. (et j, en j)) whole,
    )

pub returns-clause-hand : goal.returns-clause-hand
returns-clause-hand g c = let y = c.exchange.ensures in let t = post_tells g.L.PlaceLaw.legal g.L.PlaceLaw.touches g.W.BoxLaw.view g.W.BoxLaw.shows (g.L.StartLaw.start c.args.places.now.key) c.args.seat.now.me c.load.new.seat.me c.exchange-empty.new.seat.me c.swap-found.new.seat.me c.args.places.now.table_id.slots c.mailbox.result
    c.slot.result c.swap-found.result c.args.number c.args.back c.args.thing c.requires.may c.requires.still c.mailbox.ensures.word c.load.ensures.2 c.slot.ensures.slot c.exchange-empty.ensures.3 c.swap-found.ensures.2 in
    let turn = ap (λ (z : View g.row.X.Denot g.row.N.Denot (Reads g.row.N.Denot)). z.beside.turn) (ap (λ z. z.0) y.3) ∙ ap (λ (z : Reads g.row.N.Denot). z.turn) t.told.beside in
    (c.load-2.ensures.2 _ turn).1 ∙ (ap (λ z. rest z.1) y.3 ∙ ap rest t.in_hand)
