-- A turn in which two neighbours are merged.
use Rattle.std.proofs.Common.{refl, arith}
use Rattle.fine_hall.specs.Passes.{turns}
use Rattle.fine_hall.specs.Turns.{commits}
use Rattle.hall_rooms.specs.Rooms.{beginning_of}
use Rattle.hall_rooms.specs.Merging.{StandsForNone}
use Rattle.hall_rooms.specs.Turning.{NotBegan}
use Rattle.hall_rooms.proofs.GivenBack.{turn_taken}
use Rattle.hall_rooms.proofs.Merged.{may_merge, meets, no_jobs, none_out, not_begun, on_damage}
use Rattle.hall_rooms.proofs.Posted.{some_empty}
use Rattle.hall_rooms.proofs.Turned.{begun_with, stays_none}
use Rattle.hall_rooms.proofs.merging.merge_next.Goals as goal

pub merge_through-merged-requires-clause-empty : goal.merge_through-merged-requires-clause-empty
merge_through-merged-requires-clause-empty g c κs within =
    let x = beginning_of c.args.hall.now in
    let b = begun_with x c.args.pass.now c.begin_turn-held.new.pass c.begin_turn-held.result c.room.result.now c.room.ensures.value c.begin_turn-held.ensures.begins in
    some_empty x c.begin_turn-held.new.pass c.room.result.now b.clean.note b.clean.turn 1 (omega arith) (let n = c.requires.pass.number.1 in let one = c.requires.first in omega (arith, n, one))

pub end_turn-requires-clause-turn : goal.end_turn-requires-clause-turn
end_turn-requires-clause-turn g c κs within =
    let x = beginning_of c.args.hall.now in
    let b = begun_with x c.args.pass.now c.begin_turn-held.new.pass c.begin_turn-held.result c.room.result.now c.room.ensures.value c.begin_turn-held.ensures.begins in
    let none = none_out x c.room.result.now.room c.args.pass.now c.begin_turn-held.new.pass b.takes c.requires.first c.requires.no_job in
    (b.clean.note, may_merge x c.args.from c.room.result.now c.merge_through-merged.new.room c.begin_turn-held.new.pass b.clean c.merge_through-merged.result none c.merge_through-merged.ensures)

pub returns-clause-merges : goal.returns-clause-merges
returns-clause-merges g c =
    let x = beginning_of c.args.hall.now in
    let b = begun_with x c.args.pass.now c.begin_turn-held.new.pass c.begin_turn-held.result c.room.result.now c.room.ensures.value c.begin_turn-held.ensures.begins in
    let q = c.begin_turn-held.new.pass in
    let found = c.room.result.now in
    let new = c.merge_through-merged.new.room in
    let m = c.merge_through-merged.ensures in
    let none = none_out x found.room c.args.pass.now q b.takes c.requires.first c.requires.no_job in
    let gave = c.end_turn.ensures.gives b.clean.note (may_merge x c.args.from found new q b.clean c.merge_through-merged.result none m) in
    let ended = turn_taken x found new c.args.pass.now q q c.end_turn.new.pass b refl c.end_turn.ensures.pass.1 (stays_none q) b.clean.note gave in
    record {
      found = found;
      room = new;
      turn = ended.0;
      same_held = ended.1;
      job = no_jobs found.room new.room none m.leaves.no_job;
      how = m.how;
      leaves = m.leaves;
      merges = m.merges;
      damage = on_damage c.merge_through-merged.result (StandsForNone found) (NotBegan x) (not_begun x found (commits (turns q)) b.is_room.log b.is_room.stands) m.damage;
      meets = meets x found new c.args.pass.now q c.end_turn.new.pass b c.end_turn.ensures.pass.1 gave c.merge_through-merged.result m.counted;
    }
