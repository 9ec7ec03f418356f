use Rattle.std.proofs.Common.{◌∷◌, [], ◌++◌, ◌∙◌, List, ap, map, subst, sym}
use Rattle.hall_rooms.specs.Rooms.{RoomPass}
use Rattle.lane_threads.specs.declared.worker.Part.{Part}
use Rattle.lane_threads.specs.Resting.{AreJoined}
use Rattle.lane_threads.proofs.Beginnings.{new_workers}
use Rattle.lane_threads.proofs.JoinedThreads.{are_joined}
use Rattle.lane_threads.proofs.threads.run_threads.Goals as goal

pub run_all-workers-requires-clause-workers : goal.run_all-workers-requires-clause-workers
run_all-workers-requires-clause-workers g c κs within =
    let s = c.give_passes-seated in
    new_workers c.args.hall.now c.args.script.now c.args.options.now.group c.args.parts.items s.result.workers.items c.requires.fresh c.requires.may.group c.requires.parts s.ensures.workers

pub returns-clause-joined : goal.returns-clause-joined
returns-clause-joined g c =
    let s = c.give_passes-seated in
    let t = c.take_back in
    let joined = are_joined c.args.hall.now c.args.script.now c.args.options.now.group s.result.first s.result.last c.args.parts.items s.result.workers.items c.run_all-workers.result.items c.requires.parts s.ensures.first s.ensures.last s.ensures.workers c.run_all-workers.ensures in
    subst (λ (l : List RoomPass). AreJoined c.args.hall.now c.args.script.now c.args.options.now.group s.result.first l t.new.parts.items) (sym (c.push_reserved.ensures.items ∙ ap (λ (l : List RoomPass). l ++ s.result.last ∷ []) t.ensures.passes))
    (subst (λ (l : List Part). AreJoined c.args.hall.now c.args.script.now c.args.options.now.group s.result.first (map (λ w. w.pass) c.run_all-workers.result.items ++ s.result.last ∷ []) l) (sym t.ensures.parts) joined)
