use Rattle.std.proofs.Common.{sym, subst, ◌∙◌, rules}
use Rattle.lane_laws.specs.Lanes.{LaneSoFar}
use Rattle.lane_runs.proofs.Trying.{next_then, so_far_then}
use Rattle.lane_runs.proofs.run.try_next.Goals as goal

pub returns-in-On-clause-so_far : goal.returns-in-On-clause-so_far
returns-in-On-clause-so_far g c =
    let l = c.loop.invariant in
    so_far_then c.args.hall.now c.args.script.now c.args.options.now.group c.args.at c.loop.pass c.take_turn.new.pass c.loop.lane c.take_turn.new.lane c.take_turn.result l.next l.so_far c.take_turn.ensures.idle c.take_turn.ensures.steps

pub returns-in-Tried-clause-so_far : goal.returns-in-Tried-clause-so_far
returns-in-Tried-clause-so_far g c =
    let l = c.loop.invariant in
    subst (LaneSoFar c.args.hall.now c.args.script.now c.args.options.now.group c.take_turn.new.pass) (sym c.note_begun.ensures)
    (so_far_then c.args.hall.now c.args.script.now c.args.options.now.group c.args.at c.loop.pass c.take_turn.new.pass c.loop.lane c.take_turn.new.lane c.take_turn.result l.next l.so_far c.take_turn.ensures.idle c.take_turn.ensures.steps)

pub returns-then-tries-eq0-clause-so_far : goal.returns-then-tries-eq0-clause-so_far
returns-then-tries-eq0-clause-so_far g c =
    let l = c.loop.invariant in
    subst (LaneSoFar c.args.hall.now c.args.script.now c.args.options.now.group c.take_turn.new.pass) (sym c.note_begun-then-tries-eq0.ensures)
    (so_far_then c.args.hall.now c.args.script.now c.args.options.now.group c.args.at c.loop.pass c.take_turn.new.pass c.loop.lane c.take_turn.new.lane c.take_turn.result l.next l.so_far c.take_turn.ensures.idle c.take_turn.ensures.steps)

pub loop-preserved : goal.loop-preserved
loop-preserved g c =
    let l = c.loop.invariant in
    let t = c.take_turn.ensures in
    record {
      more = search rules;
      so_far = so_far_then c.args.hall.now c.args.script.now c.args.options.now.group c.args.at c.loop.pass c.take_turn.new.pass c.loop.lane c.take_turn.new.lane c.take_turn.result l.next l.so_far t.idle t.steps;
      next = next_then c.args.script.now c.args.at c.loop.lane c.take_turn.new.lane c.take_turn.result c.in-Full.is t.steps.stays l.next;
      number = t.idle.1 ∙ l.number;
      blank = t.blank;
      same = t.same ∙ l.same;
    }
