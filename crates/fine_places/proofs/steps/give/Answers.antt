use Rattle.std.proofs.Common.{◌∷◌, ◌∙◌, Some, arith}
use Rattle.atomic_table.specs.Table.{rest}
use Rattle.fine_places.proofs.Stepping.{fetches}
use Rattle.fine_places.proofs.Giving.{gives_back, gave_back}
use Rattle.fine_places.proofs.steps.give.Goals as goal

pub load-requires : goal.load-requires
load-requires g c = let wide = c.requires.table.1.0 in let le = c.requires.within in
    (c.requires.table.0, omega arith, fetches _ _ _ _ g.L.PlaceLaw.grows _ g.E.BesideLaw.stays _ _ _ _ _ c.requires.within c.requires.still.0 c.requires.held)

pub store-requires : goal.store-requires
store-requires g c = let wide = c.requires.table.1.0 in let le = c.requires.within in let l = c.load.ensures in let x = c.exchange-empty.ensures in (
  x.0 ∙ (l.0 ∙ c.requires.table.0),
  omega arith,
  gives_back _ _ _ _ g.L.PlaceLaw.grows _ g.E.BesideLaw.stays _ _ g.E.BesideLaw.gives _ _ _ _ c.args.seat.now.me.0 c.args.place _ c.args.thing c.args.seat.now.me.1
      (x.3 ∙ (λ i. (l.2.0 i, (c.args.place, Some c.args.thing) ∷ rest (l.2.1 i)))) le c.requires.held c.requires.gives,
)

pub returns : goal.returns
returns g c = let l = c.load.ensures in let x = c.exchange-empty.ensures in let s = c.store.ensures in record {
  table = (s.0 ∙ (x.0 ∙ l.0), s.1 ∙ (x.1 ∙ l.1));
  gave = gave_back g.L.PlaceLaw.adds g.E.BesideLaw.given c.args.places.now.table_id.slots c.args.seat.now.me.0 c.args.place _ _ c.args.thing _ (x.3 ∙ (λ i. (l.2.0 i, (c.args.place, Some c.args.thing) ∷ rest (l.2.1 i)))) c.requires.still.1 s.2;
}
