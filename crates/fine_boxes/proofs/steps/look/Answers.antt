use Rattle.std.proofs.Common.{◌∙◌, ◌<◌, ◌∷◌, [], ◌-◌, None, if◌then◌else◌, sym, ap, subst}
use Rattle.fine_boxes.specs.declared.model.BoxNote.{BoxNote}
use Rattle.fine_boxes.specs.Boxes.{slot}
use Rattle.fine_boxes.specs.Telling.{Looked}
use Rattle.fine_boxes.specs.Lists.{first_same}
use Rattle.fine_boxes.proofs.Allowing.{look_allowed}
use Rattle.fine_boxes.proofs.Numbers.{fresh_is, word_within, next_number}
use Rattle.fine_boxes.proofs.steps.look.Goals as goal

pub load-requires : goal.load-requires
load-requires g c = let o = c.requires.own in let w = c.mailbox.ensures.word in (
  c.requires.table.0,
  subst (λ n. n < c.args.places.now.table_id.words) (sym w) (word_within c.args.number _ _ c.requires.number.0 c.requires.number.1 c.requires.table.1.0),
  look_allowed _ _ _ _ g.L.PlaceLaw.grows _ _ _ _ _ _ _ _ _ _ _ c.args.seat.now.me o.0 (c.args.number - 1) o.1.0 (o.1.1 ∙ next_number c.args.number c.requires.number.0) o.2 c.requires.still _ w,
)

pub returns-clause-looked : goal.returns-clause-looked
returns-clause-looked g c = λ m is. let o = c.requires.own in
    let number = ap (λ (z : BoxNote g.row.N.Denot). z.seat) (first_same m o.0 [] [] (sym is ∙ o.1.0)) ∙ (o.1.1 ∙ next_number c.args.number c.requires.number.0) in
    let l = c.load.ensures.2 m (c.args.number - 1) is number in
    subst (λ f. Looked g.L.PlaceLaw.legal g.L.PlaceLaw.touches g.W.BoxLaw.shows m f c.args.seat.now.me.0 c.load.new.seat.me.0) (sym (fresh_is c.load.result l.0 l.1 l.2)) l.4

pub returns-clause-hand : goal.returns-clause-hand
returns-clause-hand g c = λ m is. let o = c.requires.own in
    let number = ap (λ (z : BoxNote g.row.N.Denot). z.seat) (first_same m o.0 [] [] (sym is ∙ o.1.0)) ∙ (o.1.1 ∙ next_number c.args.number c.requires.number.0) in
    let l = c.load.ensures.2 m (c.args.number - 1) is number in
    l.5 ∙ (λ k. if (sym (fresh_is c.load.result l.0 l.1 l.2) k) then (slot (c.args.number - 1) m.front.buffer, None) ∷ c.requires.still k else c.requires.still k)
