-- A turn in which what waits is sealed, posted and published.
use Rattle.hall_rooms.specs.Rooms.{beginning_of}
use Rattle.hall_rooms.proofs.GivenBack.{turn_taken}
use Rattle.hall_rooms.proofs.Shown.{in_turn, seals_turn}
use Rattle.hall_rooms.proofs.Turned.{begun_with}
use Rattle.hall_rooms.proofs.showing.seal_and_post.Goals as goal

pub show-shown-requires-clause-turn : goal.show-shown-requires-clause-turn
show-shown-requires-clause-turn g c κs within =
    let x = beginning_of c.args.hall.now in
    let b = begun_with x c.args.pass.now c.begin_turn-held.new.pass c.begin_turn-held.result c.room.result.now c.room.ensures.value c.begin_turn-held.ensures.begins in
    b.clean

pub end_turn-requires-clause-turn : goal.end_turn-requires-clause-turn
end_turn-requires-clause-turn g c κs within = in_turn (beginning_of c.args.hall.now) c.room.result.now c.show-shown.new.room c.show-shown.new.pass c.show-shown.result c.show-shown.ensures.shows

pub returns-clause-seals : goal.returns-clause-seals
returns-clause-seals g c =
    let x = beginning_of c.args.hall.now in
    let b = begun_with x c.args.pass.now c.begin_turn-held.new.pass c.begin_turn-held.result c.room.result.now c.room.ensures.value c.begin_turn-held.ensures.begins in
    let found = c.room.result.now in
    let new = c.show-shown.new.room in
    let p₁ = c.begin_turn-held.new.pass in
    let q = c.show-shown.new.pass in
    let e = c.show-shown.ensures in
    let t = in_turn x found new q c.show-shown.result e.shows in
    let gave = c.end_turn.ensures.gives t.0 t.1 in
    let ended = turn_taken x found new c.args.pass.now p₁ q c.end_turn.new.pass b e.stays.pass.1 c.end_turn.ensures.pass.1 e.stays.stays t.0 gave in
    record {
      found = found.room;
      room = new.room;
      turn = ended.0;
      same_held = ended.1;
      job = e.job;
      did = seals_turn x found new c.args.pass.now p₁ q c.end_turn.new.pass b e.stays.pass.1 c.end_turn.ensures.pass.1 e.stays.stays c.show-shown.result e.shows gave;
    }
