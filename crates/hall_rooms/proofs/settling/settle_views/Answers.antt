-- A turn in which retired parts are erased.
use Rattle.std.proofs.Common.{refl}
use Rattle.hall_rooms.specs.Rooms.{beginning_of}
use Rattle.hall_rooms.proofs.Erased.{job_kept, may_settle, settles_turn}
use Rattle.hall_rooms.proofs.GivenBack.{turn_taken}
use Rattle.hall_rooms.proofs.Turned.{begun_with, stays_none}
use Rattle.hall_rooms.proofs.settling.settle_views.Goals as goal

pub end_turn-requires-clause-turn : goal.end_turn-requires-clause-turn
end_turn-requires-clause-turn g c κs within =
    let x = beginning_of c.args.hall.now in
    let b = begun_with x c.args.pass.now c.begin_turn-held.new.pass c.begin_turn-held.result c.room.result.now c.room.ensures.value c.begin_turn-held.ensures.begins in
    (b.clean.note, may_settle x c.room.result.now c.erase_unheld-erased.new.room c.begin_turn-held.new.pass b.clean c.erase_unheld-erased.result c.erase_unheld-erased.ensures)

pub returns-clause-settles : goal.returns-clause-settles
returns-clause-settles g c =
    let x = beginning_of c.args.hall.now in
    let b = begun_with x c.args.pass.now c.begin_turn-held.new.pass c.begin_turn-held.result c.room.result.now c.room.ensures.value c.begin_turn-held.ensures.begins in
    let did = c.erase_unheld-erased.ensures in
    let gave = c.end_turn.ensures.gives b.clean.note (may_settle x c.room.result.now c.erase_unheld-erased.new.room c.begin_turn-held.new.pass b.clean c.erase_unheld-erased.result did) in
    let ended = turn_taken x c.room.result.now c.erase_unheld-erased.new.room c.args.pass.now c.begin_turn-held.new.pass c.begin_turn-held.new.pass c.end_turn.new.pass b refl c.end_turn.ensures.pass.1 (stays_none c.begin_turn-held.new.pass) b.clean.note gave in
    record {
      found = c.room.result.now.room;
      room = c.erase_unheld-erased.new.room.room;
      turn = ended.0;
      same_held = ended.1;
      job = job_kept c.room.result.now c.erase_unheld-erased.new.room c.erase_unheld-erased.result did;
      did = settles_turn x c.room.result.now c.erase_unheld-erased.new.room c.args.pass.now c.begin_turn-held.new.pass c.end_turn.new.pass b c.end_turn.ensures.pass.1 gave c.erase_unheld-erased.result did;
    }
