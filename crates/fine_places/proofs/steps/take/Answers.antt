use Rattle.std.proofs.Common.{◌≡◌, ◌∷◌, ◌∙◌, Some, None, sym, ap, subst, arith}
use Rattle.atomic_table.specs.Table.{Me, rest}
use Rattle.std.specs.Prelude.{Option}
use Rattle.fine_places.specs.declared.model.View.{View}
use Rattle.fine_places.specs.Telling.{at_room, moves, Finds}
use Rattle.fine_places.proofs.Lists.{same_head, some_same}
use Rattle.fine_places.proofs.Stepping.{takes_place, settles_taken}
use Rattle.fine_places.proofs.steps.take.Goals as goal

pub compare_exchange-found-requires : goal.compare_exchange-found-requires
compare_exchange-found-requires g c = let wide = c.requires.table.1.0 in let le = c.requires.within in
    (c.requires.table.0, omega arith, takes_place _ _ _ _ g.L.PlaceLaw.grows _ g.E.BesideLaw.stays _ _ _ g.E.BesideLaw.takes _ _ _ _ c.args.number le c.requires.still.0 c.requires.own c.requires.vacant)

pub exchange-requires : goal.exchange-requires
exchange-requires g c = let f = c.compare_exchange-found.ensures in let t = f.2.0 c.if-found-ne0.false in
    (f.0 ∙ c.requires.table.0, (Some t.thing, t.hand ∙ ap (λ l. (c.args.place, Some t.thing) ∷ rest l) (sym t.hand)))

pub load-requires : goal.load-requires
load-requires g c = let wide = c.requires.table.1.0 in let le = c.requires.within in let f = c.compare_exchange-found.ensures in let t = f.2.0 c.if-found-ne0.false in let x = c.exchange.ensures in (
  x.0 ∙ (f.0 ∙ c.requires.table.0),
  omega arith,
  settles_taken _ _ _ _ g.L.PlaceLaw.grows _ g.E.BesideLaw.stays _ _ _ c.args.seat.now.me.0 _ c.args.place t.published t.log c.args.seat.now.me.1 _ (x.3 ∙ (λ i. (t.view i, (c.args.place, None) ∷ rest (t.hand i)))) le c.requires.vacant,
)

pub returns-clause-took : goal.returns-clause-took
returns-clause-took g c = let f = c.compare_exchange-found.ensures in let t = f.2.0 c.if-found-ne0.false in let x = c.exchange.ensures in let l = c.load.ensures in
    let same : c.in-Some.thing ≡ t.thing = some_same _ _ (sym c.in-Some.is ∙ same_head _ c.args.place _ _ _ _ x.2 t.hand) in
    let seen = l.2.0 ∙ ap (λ (m : Me (Option g.row.T.Denot) (View g.row.X.Denot g.row.N.Denot g.row.Y.Denot)). moves m.0 None) x.3 ∙ ap (λ (v : View g.row.X.Denot g.row.N.Denot g.row.Y.Denot). moves v None) t.view in record {
      log = t.log;
      published = t.published;
      no_earlier = t.no_earlier;
      places = ap (λ (v : View g.row.X.Denot g.row.N.Denot g.row.Y.Denot). v.places) seen;
      beside = ap (λ (v : View g.row.X.Denot g.row.N.Denot g.row.Y.Denot). v.beside) seen ∙ ap (λ (y : g.row.T.Denot). at_room c.args.place (g.E.BesideLaw.taken c.args.seat.now.me.0.beside y) c.args.seat.now.me.0.beside) (sym same);
      found = λ z e. subst (λ (y : g.row.T.Denot). Finds g.L.PlaceLaw.stands g.L.PlaceLaw.legal g.L.PlaceLaw.touches g.E.BesideLaw.learns z c.args.place t.published y c.args.seat.now.me.0 t.log) (sym same) (t.found z e);
    }
