use Rattle.std.proofs.Common.{ℕ, Result, rules, subst}
use Rattle.epoch_room.specs.Steps.{SealsOr}
use Rattle.epoch_room.specs.declared.answers.RoomFault.{RoomFault}
use Rattle.lane_threads.proofs.SealsLeft.{seals_left}
use Rattle.lane_threads.proofs.closing.seal_left.Goals as goal

pub returns-in-Ok : goal.returns-in-Ok
returns-in-Ok g c =
    let s = c.seal.ensures in
    seals_left c.args.room.now c.seal.new.self c.in-Ok.epoch c.sealed-whole-in-Ok.ensures.whole c.requires.board c.requires.no_job (search rules) s.keeps s.job
    (subst (λ (r : Result ℕ RoomFault). SealsOr c.args.room.now c.seal.new.self r) c.in-Ok.is s.room)
