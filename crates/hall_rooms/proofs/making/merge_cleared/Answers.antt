-- What was cleared is merged, and cleared again.
use Rattle.std.proofs.Common.{Ok, Err, arith, sym, ◌∙◌, subst}
use Rattle.hall_rooms.specs.Rooms.{beginning_of}
use Rattle.hall_rooms.specs.Merging.{MergesThroughOr}
use Rattle.hall_rooms.specs.Turning.{NotBegan}
use Rattle.hall_rooms.proofs.Made.{clears_unread, free_is, goes_merged, in_vain, merge_damage, merge_fails, merged_clears, vain}
use Rattle.hall_rooms.proofs.Posted.{board_long, some_empty}
use Rattle.hall_rooms.proofs.Renewing.{go_none, part_on}
use Rattle.hall_rooms.proofs.making.merge_cleared.Goals as goal

pub merge_through-requires-clause-seats : goal.merge_through-requires-clause-seats
merge_through-requires-clause-seats g c κs within =
    let t = c.requires.part.turn in
    let l = board_long (beginning_of c.args.hall.now) c.args.pass.now c.args.room.now t.note t.turn 1 (omega arith) (let n = c.requires.part.pass.number.0 in let m = c.requires.part.pass.number.1 in omega (arith, n, m)) in
    omega (arith, l)

pub merge_through-requires-clause-empty : goal.merge_through-requires-clause-empty
merge_through-requires-clause-empty g c κs within =
    let t = c.requires.part.turn in
    some_empty (beginning_of c.args.hall.now) c.args.pass.now c.args.room.now t.note t.turn 1 (omega arith) (let n = c.requires.part.pass.number.0 in let m = c.requires.part.pass.number.1 in omega (arith, n, m))

pub returns-then-not-merged-clause-goes : goal.returns-then-not-merged-clause-goes
returns-then-not-merged-clause-goes g c = go_none c.args.hall.now c.args.room.now c.args.pass.now c.args.others.now c.requires.part

pub returns-then-not-merged-clause-no_job : goal.returns-then-not-merged-clause-no_job
returns-then-not-merged-clause-no_job g c = c.in-Ok.ensures.leaves.no_job

pub returns-then-not-merged-clause-turn : goal.returns-then-not-merged-clause-turn
returns-then-not-merged-clause-turn g c =
    goes_merged (beginning_of c.args.hall.now) c.args.from c.args.room.now c.merge_through.new.room c.args.pass.now c.requires.part.turn c.requires.cleared.no_job (Ok c.in-Ok.merged) c.in-Ok.ensures

pub returns-then-not-merged-clause-publishes : goal.returns-then-not-merged-clause-publishes
returns-then-not-merged-clause-publishes g c = c.requires.publishes ∙ sym c.in-Ok.ensures.leaves.epochs.0

pub returns-then-not-merged-clause-merges : goal.returns-then-not-merged-clause-merges
returns-then-not-merged-clause-merges g c =
    let s = c.space_of.ensures in
    in_vain (beginning_of c.args.hall.now).seats c.args.from c.args.had_retired c.args.room.now c.merge_through.new.room c.space_of.result c.counts-left.result.free
    (free_is c.merge_through.new.room.room c.counts-left.result c.counts-left.ensures.counts) s.made s.stuck s.enough
    (vain c.args.from c.args.room.now c.merge_through.new.room c.requires.cleared (subst (λ b. MergesThroughOr c.args.from c.args.room.now c.merge_through.new.room (Ok b)) c.if-not-merged.true c.in-Ok.ensures) c.counts-left.ensures.whole)

pub clear_merged-requires-clause-part : goal.clear_merged-requires-clause-part
clear_merged-requires-clause-part g c κs within =
    part_on c.args.hall.now c.merge_through.new.room c.args.pass.now c.args.pass.now c.args.others.now c.args.others.now (go_none c.args.hall.now c.args.room.now c.args.pass.now c.args.others.now c.requires.part)
    (goes_merged (beginning_of c.args.hall.now) c.args.from c.args.room.now c.merge_through.new.room c.args.pass.now c.requires.part.turn c.requires.cleared.no_job (Ok c.in-Ok.merged) c.in-Ok.ensures)

pub clear_merged-requires-clause-none_waits : goal.clear_merged-requires-clause-none_waits
clear_merged-requires-clause-none_waits g c κs within = c.in-Ok.ensures.leaves.epochs.1 ∙ c.requires.cleared.none_waits

pub clear_merged-requires-clause-no_job : goal.clear_merged-requires-clause-no_job
clear_merged-requires-clause-no_job g c κs within = c.in-Ok.ensures.leaves.no_job

pub returns-else-not-merged-clause-merges : goal.returns-else-not-merged-clause-merges
returns-else-not-merged-clause-merges g c =
    merged_clears (beginning_of c.args.hall.now).seats c.args.from c.args.had_retired c.args.room.now c.clear_merged.new.room c.merge_through.new.room
    (subst (λ b. MergesThroughOr c.args.from c.args.room.now c.merge_through.new.room (Ok b)) c.if-not-merged.false c.in-Ok.ensures) c.clear_merged.result c.clear_merged.ensures.clears

pub returns-in-Err-clause-goes : goal.returns-in-Err-clause-goes
returns-in-Err-clause-goes g c = go_none c.args.hall.now c.args.room.now c.args.pass.now c.args.others.now c.requires.part

pub returns-in-Err-clause-no_job : goal.returns-in-Err-clause-no_job
returns-in-Err-clause-no_job g c = c.in-Err.ensures.leaves.no_job

pub returns-in-Err-clause-turn : goal.returns-in-Err-clause-turn
returns-in-Err-clause-turn g c =
    goes_merged (beginning_of c.args.hall.now) c.args.from c.args.room.now c.merge_through.new.room c.args.pass.now c.requires.part.turn c.requires.cleared.no_job (Err c.in-Err.fault) c.in-Err.ensures

pub returns-in-Err-clause-merges : goal.returns-in-Err-clause-merges
returns-in-Err-clause-merges g c = merge_fails (beginning_of c.args.hall.now).seats c.args.from c.args.had_retired c.args.room.now c.merge_through.new.room c.in-Err.fault c.in-Err.ensures

pub returns-else-not-merged-clause-damage : goal.returns-else-not-merged-clause-damage
returns-else-not-merged-clause-damage g c = clears_unread (beginning_of c.args.hall.now).seats (NotBegan (beginning_of c.args.hall.now)) c.merge_through.new.room c.clear_merged.new.room c.clear_merged.result c.clear_merged.ensures.clears

pub returns-in-Err-clause-damage : goal.returns-in-Err-clause-damage
returns-in-Err-clause-damage g c =
    merge_damage (beginning_of c.args.hall.now) c.args.from c.args.room.now c.merge_through.new.room c.args.pass.now c.requires.part.turn (Err c.in-Err.fault) c.in-Err.ensures
