-- A turn in which views are posted, and nothing is sealed.
use Rattle.hall_rooms.specs.Rooms.{beginning_of}
use Rattle.hall_rooms.proofs.GivenBack.{turn_taken}
use Rattle.hall_rooms.proofs.Shown.{in_posting, posts_turn}
use Rattle.hall_rooms.proofs.Turned.{begun_with}
use Rattle.hall_rooms.proofs.showing.show_views.Goals as goal

pub post_and_publish-shown-requires-clause-turn : goal.post_and_publish-shown-requires-clause-turn
post_and_publish-shown-requires-clause-turn g c κs within =
    let x = beginning_of c.args.hall.now in
    let b = begun_with x c.args.pass.now c.begin_turn-held.new.pass c.begin_turn-held.result c.room.result.now c.room.ensures.value c.begin_turn-held.ensures.begins in
    b.clean

pub end_turn-requires-clause-turn : goal.end_turn-requires-clause-turn
end_turn-requires-clause-turn g c κs within = in_posting (beginning_of c.args.hall.now) c.room.result.now c.post_and_publish-shown.new.room c.post_and_publish-shown.new.pass c.post_and_publish-shown.result c.post_and_publish-shown.ensures.posts

pub returns-clause-shows : goal.returns-clause-shows
returns-clause-shows g c =
    let x = beginning_of c.args.hall.now in
    let b = begun_with x c.args.pass.now c.begin_turn-held.new.pass c.begin_turn-held.result c.room.result.now c.room.ensures.value c.begin_turn-held.ensures.begins in
    let found = c.room.result.now in
    let new = c.post_and_publish-shown.new.room in
    let p₁ = c.begin_turn-held.new.pass in
    let q = c.post_and_publish-shown.new.pass in
    let e = c.post_and_publish-shown.ensures in
    let t = in_posting x found new q c.post_and_publish-shown.result e.posts in
    let gave = c.end_turn.ensures.gives t.0 t.1 in
    let ended = turn_taken x found new c.args.pass.now p₁ q c.end_turn.new.pass b e.stays.pass.1 c.end_turn.ensures.pass.1 e.stays.stays t.0 gave in
    record {
      found = found.room;
      room = new.room;
      turn = ended.0;
      same_held = ended.1;
      job = e.job;
      did = posts_turn x found new c.args.pass.now p₁ q c.end_turn.new.pass b e.stays.pass.1 c.end_turn.ensures.pass.1 e.stays.stays c.post_and_publish-shown.result e.posts gave;
    }
