use Rattle.std.proofs.Common.{ap}
use Rattle.open_txn.proofs.Opening.{all_answered, all_open, all_refused, all_touched}
use Rattle.open_txn.proofs.Traced.{all_done}
use Rattle.open_txn.proofs.answering.answer_all.Goals as goal

pub returns : goal.returns
returns g c =
    let tells = g.S.NodeSource.tells c.args.source.now in
    let upper = g.S.NodeSource.upper c.args.source.now in
    let tells' = g.S.NodeSource.tells c.answer_each.new.source in
    let d = c.args.draft.now in
    let r = c.answer_each.result in
    record {
      later = c.answer_each.ensures.later;
      clean = c.answer_each.ensures.clean;
      fails = c.answer_each.ensures.fails;
      place = c.answer_each.ensures.place;
      touches = all_touched tells upper d.lane d.turn c.args.buckets.now d c.requires.blank tells' c.answer_each.new.buckets c.answer_each.new.draft c.args.calls.now r c.answer_each.ensures.advances c.answer_each.ensures.refuses;
      answered = all_answered tells upper d.lane d.turn c.args.buckets.now d c.requires.blank tells' c.answer_each.new.buckets c.answer_each.new.draft c.args.calls.now r c.answer_each.ensures.advances;
      «open» = all_open tells upper d.lane d.turn c.args.buckets.now d c.requires.blank tells' c.answer_each.new.buckets c.answer_each.new.draft c.args.calls.now r c.answer_each.ensures.advances;
      refused = all_refused tells upper d.lane d.turn c.args.buckets.now d c.requires.blank tells' c.answer_each.new.buckets c.answer_each.new.draft c.args.calls.now r c.answer_each.ensures.refuses;
      done = all_done tells (g.S.NodeSource.finds c.args.source.now) upper c.args.calls.now d.rows c.answer_each.new.draft.rows c.args.buckets.now c.answer_each.new.buckets r (ap (λ x. x.rows) c.requires.blank) c.answer_each.ensures.does;
      stopped = c.answer_each.ensures.stops;
    }
