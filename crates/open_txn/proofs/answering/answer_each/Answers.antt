use Rattle.std.proofs.Common.{◌∙◌, ◌+◌, List, Err, drop, refl, subst}
use Rattle.std.proofs.lemmas.List.{take_all}
use Rattle.fine_model.specs.declared.Call.{Call}
use Rattle.open_txn.specs.Steps.{Advances}
use Rattle.open_txn.specs.Traces.{AddsDone}
use Rattle.open_txn.proofs.Advanced.{advances_none, advances_on, clean_from, fails_from, refused_on}
use Rattle.open_txn.proofs.Places.{cut_around, taken_on}
use Rattle.open_txn.proofs.Traced.{adds_none, adds_on, stops_on}
use Rattle.open_txn.proofs.answering.answer_each.Goals as goal

pub loop-call-init : goal.loop-call-init
loop-call-init g c = (
  g.met.S.NodeSource.later_itself _,
  g.met.S.NodeSource.clean_itself _,
  refl,
  refl,
  advances_none (g.S.NodeSource.tells c.args.source.now) (g.S.NodeSource.upper c.args.source.now) c.args.buckets.now c.args.draft.now c.requires.open,
  adds_none (g.S.NodeSource.tells c.args.source.now) (g.S.NodeSource.finds c.args.source.now) (g.S.NodeSource.upper c.args.source.now) c.args.draft.now.rows c.args.buckets.now,
)

pub loop-call-preserved : goal.loop-call-preserved
loop-call-preserved g c =
    let inv = c.loop-call.invariant in
    let same = g.met.S.NodeSource.later_upper _ _ inv.0 in
    let next = taken_on c.loop-call.call-index c.args.calls.now c.call-item.result c.call-item.is c.loop-call-test.true in (
      g.met.S.NodeSource.later_on _ _ _ inv.0 c.in_default.ensures.later,
      g.met.S.NodeSource.clean_on _ _ _ inv.1 c.in_default.ensures.clean,
      c.in_default.ensures.place.0 ∙ inv.2,
      c.in_default.ensures.place.1 ∙ inv.3,
      advances_on _ _ _ _ same _ _ _ _ _ inv.4 _ _ _ _ _ next c.in_default.ensures.advances,
      adds_on _ _ _ _ _ _ (λ rows. g.met.S.NodeSource.later_tells _ _ rows inv.0) (λ id found. g.met.S.NodeSource.finds_before _ _ id found inv.0) same _ _ _ next _ _ _ _ _ inv.5 _ c.in_default.ensures.does,
    )

pub returns : goal.returns
returns g c =
    let inv = c.loop-call.invariant in
    record {
      later = inv.0;
      clean = inv.1;
      fails = tt;
      place = (inv.2, inv.3);
      advances = subst (Advances _ _ _ _ _ _ _) (take_all c.loop-call.call-index c.args.calls.now c.loop-call-test.false) inv.4;
      refuses = tt;
      does = subst (λ (cs : List Call). AddsDone (g.S.NodeSource.tells c.args.source.now) (g.S.NodeSource.finds c.args.source.now) (g.S.NodeSource.upper c.args.source.now) cs c.args.draft.now.rows c.loop-call.draft.rows c.args.buckets.now c.loop-call.buckets)
          (take_all c.loop-call.call-index c.args.calls.now c.loop-call-test.false) inv.5;
      stops = tt;
    }

pub returns-in-Err : goal.returns-in-Err
returns-in-Err g c =
    let inv = c.loop-call.invariant in
    let same = g.met.S.NodeSource.later_upper _ _ inv.0 in
    let rest = drop (c.loop-call.call-index + 1) c.args.calls.now in
    let around = cut_around c.loop-call.call-index c.args.calls.now c.call-item.result c.call-item.is c.loop-call-test.true in
    let now = c.answer_one.new.source in
    record {
      later = g.met.S.NodeSource.later_on _ _ _ inv.0 c.answer_one.ensures.later;
      clean = clean_from {A = Unit {0}} (g.S.NodeSource.clean c.loop-call.source now) (g.S.NodeSource.clean c.args.source.now now) (Err c.in-Err.fault) (λ h. g.met.S.NodeSource.clean_on _ _ _ inv.1 h) c.in-Err.ensures.clean;
      fails = fails_from (λ failed. g.S.NodeSource.fails c.loop-call.source failed now) (λ failed. g.S.NodeSource.fails c.args.source.now failed now) c.in-Err.fault (λ failed h. g.met.S.NodeSource.fails_earlier _ _ _ failed inv.0 h) c.in-Err.ensures.fails;
      place = (c.answer_one.ensures.place.0 ∙ inv.2, c.answer_one.ensures.place.1 ∙ inv.3);
      advances = tt;
      refuses = refused_on _ _ _ _ same _ _ _ _ _ inv.4 _ _ _ _ around (c.in-Err.ensures.refuses rest);
      does = tt;
      stops = stops_on _ _ _ _ _ _ (λ rows. g.met.S.NodeSource.later_tells _ _ rows inv.0) (λ id found. g.met.S.NodeSource.finds_before _ _ id found inv.0) same _ _ _ around _ _ _ _ _ inv.5 _ (c.in-Err.ensures.stops rest);
    }
