use Rattle.lane_threads.proofs.AllDone.{all_done, are_lanes}
use Rattle.lane_threads.proofs.resting.finish_lanes.Goals as goal

pub ended_of-requires : goal.ended_of-requires
ended_of-requires g c = are_lanes c.args.hall.now c.args.script.now c.args.options.now.group c.finish_parts.new.first c.finish_parts.new.others c.finish_parts.new.parts c.finish_parts.ensures

pub returns : goal.returns
returns g c =
    all_done c.args.hall.now c.args.script.now c.args.options.now.group c.finish_parts.new.first c.finish_parts.new.others c.finish_parts.new.parts c.finish_parts.ensures c.ended_of.result c.ended_of.ensures
