use Rattle.std.proofs.Common.{◌≡◌, sym, subst}
use Rattle.fine_places.proofs.Elements.{elem_at}
use Rattle.lane_runs.specs.Resting.{GoesOnFor}
use Rattle.lane_runs.proofs.Rested.{full_by_turn, next_rest, others_by_turn, rest_by_turn}
use Rattle.lane_runs.proofs.rest.try_rest.Goals as goal

pub take_turn-went-requires-clause-idle : goal.take_turn-went-requires-clause-idle
take_turn-went-requires-clause-idle g c κs within = c.requires.others.idle c.args.at _ (elem_at c.args.others.now c.args.at c.index-others-at.result c.requires.at)

pub seek_room-requires-clause-others : goal.seek_room-requires-clause-others
seek_room-requires-clause-others g c κs within =
    others_by_turn c.args.hall.now c.args.script.now c.args.options.now.group c.args.at c.args.place c.args.first.now c.args.others.now c.args.lane.now c.take_turn-went.new.lane c.index-others-at.result c.take_turn-went.new.pass c.take_turn-went.result c.requires.at
    c.requires.others c.take_turn-went.ensures.idle

pub seek_room-requires-clause-full : goal.seek_room-requires-clause-full
seek_room-requires-clause-full g c κs within =
    full_by_turn c.args.hall.now c.args.script.now c.args.options.now.group c.args.at c.args.place c.args.first.now c.args.others.now c.args.lane.now c.take_turn-went.new.lane c.index-others-at.result c.take_turn-went.new.pass c.take_turn-went.result c.requires.at
    c.in-Full.is c.take_turn-went.ensures.steps

pub seek_room-requires-clause-next : goal.seek_room-requires-clause-next
seek_room-requires-clause-next g c κs within =
    next_rest c.args.script.now c.args.place c.args.lane.now c.take_turn-went.new.lane c.note_begun-in-Full.new.self c.take_turn-went.result c.in-Full.is c.take_turn-went.ensures.steps.stays c.note_begun-in-Full.ensures c.requires.next

pub returns-in-On-clause-rest : goal.returns-in-On-clause-rest
returns-in-On-clause-rest g c =
    rest_by_turn c.args.hall.now c.args.script.now c.args.options.now.group c.args.at c.args.place c.args.first.now c.args.others.now c.args.lane.now c.take_turn-went.new.lane c.index-others-at.result c.take_turn-went.new.pass c.take_turn-went.result c.requires.at
    c.requires.next.goes_on c.take_turn-went.ensures.idle c.take_turn-went.ensures.steps

pub returns-in-Tried-clause-rest : goal.returns-in-Tried-clause-rest
returns-in-Tried-clause-rest g c =
    subst (GoesOnFor c.args.hall.now c.args.script.now c.args.options.now.group c.args.at c.args.first.now c.args.first.now c.args.others.now _ c.args.lane.now) (sym c.note_begun.ensures)
    (rest_by_turn c.args.hall.now c.args.script.now c.args.options.now.group c.args.at c.args.place c.args.first.now c.args.others.now c.args.lane.now c.take_turn-went.new.lane c.index-others-at.result c.take_turn-went.new.pass c.take_turn-went.result c.requires.at
    c.requires.next.goes_on c.take_turn-went.ensures.idle c.take_turn-went.ensures.steps)

pub returns-in-Full-clause-rest : goal.returns-in-Full-clause-rest
returns-in-Full-clause-rest g c = λ first0 others0 r.
    c.seek_room.ensures.rest first0 others0
    (subst (GoesOnFor c.args.hall.now c.args.script.now c.args.options.now.group c.args.at c.args.first.now c.args.first.now c.args.others.now _ c.args.lane.now) (sym c.note_begun-in-Full.ensures)
    (rest_by_turn c.args.hall.now c.args.script.now c.args.options.now.group c.args.at c.args.place c.args.first.now c.args.others.now c.args.lane.now c.take_turn-went.new.lane c.index-others-at.result c.take_turn-went.new.pass c.take_turn-went.result c.requires.at
    c.requires.next.goes_on c.take_turn-went.ensures.idle c.take_turn-went.ensures.steps)
    first0 others0 r)
