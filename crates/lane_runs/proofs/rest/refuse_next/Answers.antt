use Rattle.std.specs.Prelude.{get_or}
use Rattle.fine_places.proofs.Elements.{elem_at}
use Rattle.fine_hall.specs.Passes.{turns}
use Rattle.lane_runs.proofs.Rested.{rest_turn}
use Rattle.lane_runs.proofs.rest.refuse_next.Goals as goal

pub refuse_turn-requires-clause-idle : goal.refuse_turn-requires-clause-idle
refuse_turn-requires-clause-idle g c κs within = c.requires.others.idle c.args.at _ (elem_at c.args.others.now c.args.at c.index-others-at.result c.requires.at)

pub returns-clause-rest : goal.returns-clause-rest
returns-clause-rest g c = λ first0 others0 s.
    let e = c.refuse_turn.ensures in
    let full = c.requires.full in
    rest_turn c.args.hall.now c.args.script.now c.args.options.now.group c.args.at first0 c.args.first.now others0 c.args.others.now c.args.lane.now c.refuse_turn.new.lane (get_or c.args.others.now c.args.at c.index-others-at.result) c.refuse_turn.new.pass
    c.requires.next.goes_on (elem_at c.args.others.now c.args.at c.index-others-at.result c.requires.at) e.idle (λ r. e.refuses.runs (turns c.args.first.now) full.0 full.1 r) e.refuses.met s
