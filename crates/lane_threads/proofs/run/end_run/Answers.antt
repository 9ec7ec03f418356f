use Rattle.std.proofs.Common.{◌∷◌, [], ◌++◌, map, None, refl}
use Rattle.fine_model.specs.declared.Ran.{Ran}
use Rattle.hall_rooms.specs.Rooms.{beginning_of}
use Rattle.lane_threads.specs.declared.worker.Part.{Part}
use Rattle.lane_threads.proofs.EndsRun.{lanes_joined, of_script}
use Rattle.lane_threads.proofs.run.end_run.Goals as goal

pub gather-requires-clause-parts : goal.gather-requires-clause-parts
gather-requires-clause-parts g c =
    of_script c.args.hall c.args.script.now c.args._options.now.group c.args.joined.first c.args.joined.others.items c.args.joined.parts.items c.args.ended c.requires.done

pub returns : goal.returns
returns g c = λ old ready opens.
    let j = c.args.joined in
    let options = c.args._options.now in
    let back = c.close-room.result in
    let new = c.seal_left-last.new.room in
    let last = c.seal_left-last.result in
    let ran : Ran = record { outcomes = c.gather.new.outcomes; durable = c.sealed.result; fault = c.fault_with.result; unsealed = c.is_memory.result } in
    c.lanes_law.ensures (beginning_of c.args.hall) c.args.script.now options old back new (j.others.items ++ j.first ∷ []) (map (λ (p : Part). p.lane) j.parts.items) c.args.ended None last ran
    (lanes_joined c.args.hall c.args.script.now options.group j.first j.others.items j.parts.items c.args.ended c.requires.done options refl c.requires.fits old back new ready opens last ran c.close-room.ensures c.seal_left-last.ensures c.gather.ensures
    c.fault_with.ensures c.sealed.ensures.sealed c.is_memory.ensures.is c.is_memory.ensures.only)
