use Rattle.std.proofs.Common.{◌≡◌, sym, subst, length, arith}
use Rattle.fine_model.specs.declared.Outcome.TheVariants as outcome
use Rattle.lane_runs.proofs.Moved.{MovesFirst, moves_done, moves_next}
use Rattle.lane_runs.proofs.lane.Lane.hand_over.Goals as goal

pub loop-j-preserved : goal.loop-j-preserved
loop-j-preserved c =
    let m = c.loop-j.invariant in
    let inside = c.self.inside in
    record {
      at = m.at;
      count = m.count;
      moves = moves_next c.loop-j.j inside.count c.args.self inside.at.items c.loop-j.self-inside.at.items inside.outcomes c.loop-j.self-inside.outcomes c.args.outcomes.now c.loop-j.outcomes c.replace-outcome.new.self c.replace.new.self
          c.index.result.now c.replace-outcome.result outcome.NotRun (λ k. (c.self.view_is k).work.at) m.at c.requires.apart c.requires.within c.self.invariant.1 c.loop-j-test.true c.index.ensures c.replace-outcome.ensures.stood
          c.replace-outcome.ensures.items c.replace.ensures.items m.moves;
    }

pub returns : goal.returns
returns c =
    let inside = c.self.inside in
    let m = c.loop-j.invariant in
    let low = c.self.invariant.1 in
    let many = c.self.invariant.0 in
    let all : c.loop-j.j ≡ inside.count = (let out = c.loop-j-test.false in let in_ = c.loop-j.auto.j-end in omega (arith, out, in_)) in
    moves_done inside.count c.args.self inside.outcomes c.loop-j.self-inside.outcomes c.args.outcomes.now c.loop-j.outcomes (sym (λ k. (c.self.view_is k).work.done)) (omega (arith, low, many))
    (subst (λ n. MovesFirst n c.args.self.work.at inside.outcomes c.loop-j.self-inside.outcomes c.args.outcomes.now c.loop-j.outcomes) all
    (subst (λ l. MovesFirst c.loop-j.j l inside.outcomes c.loop-j.self-inside.outcomes c.args.outcomes.now c.loop-j.outcomes) (λ k. (c.self.view_is k).work.at) m.moves))
