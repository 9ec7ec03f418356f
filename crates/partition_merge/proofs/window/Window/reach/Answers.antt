use Rattle.std.proofs.Common.{inl, inr, refl, ap, arith}
use Rattle.std.proofs.lemmas.Bool.{cases_lt}
use Rattle.partition_merge.specs.Windows.{WindowValue}
use Rattle.partition_merge.proofs.Streams.{on_ok}
use Rattle.partition_merge.proofs.window.Window.reach.Goals as goal

pub extend-requires-clause-longer : goal.extend-requires-clause-longer
extend-requires-clause-longer g c =
    let from = ap (λ (w : WindowValue). w.from) c.self.view_is in
    elim (cases_lt c.args.at c.args.self.now.from) [
      | inl before ↦ omega (arith, from, c.leave.ensures.before before, c.requires.within)
      | inr within ↦ omega (arith, from, c.leave.ensures.behind within, c.if-has.ensures.lacks refl within, c.requires.within, c.requires.holds.within)
    ]

pub returns-clause-holds : goal.returns-clause-holds
returns-clause-holds g c =
    let from = ap (λ (w : WindowValue). w.from) c.self.view_is in
    record {
      within = omega (arith, from, c.extend.ensures.from, c.extend.ensures.few, c.leave.ensures.from, c.requires.within);
      range = c.extend.ensures.range (c.leave.ensures.range _ _ c.requires.holds.range);
    }

pub returns-clause-ahead : goal.returns-clause-ahead
returns-clause-ahead g c low =
    let from = ap (λ (w : WindowValue). w.from) c.self.view_is in
    on_ok c.extend.result _ _ (λ long. omega (arith, from, c.extend.ensures.from, long, c.extend.ensures.taken, c.leave.ensures.behind low, c.leave.ensures.reaches)) c.extend.ensures.long
