-- A turn in which room is made, and it is told what came of it.
use Rattle.std.proofs.Common.{◌∙◌}
use Rattle.hall_rooms.specs.Rooms.{beginning_of}
use Rattle.hall_rooms.proofs.GivenBack.{ahead_still, turn_added}
use Rattle.hall_rooms.proofs.Made.{in_any_turn, makes_meet, renewed_then, seen_stands}
use Rattle.hall_rooms.proofs.Merged.{none_out}
use Rattle.hall_rooms.proofs.Renewing.{same_numbers}
use Rattle.hall_rooms.proofs.Turned.{begun_with}
use Rattle.hall_rooms.proofs.making.try_room.Goals as goal

pub make_space-made-requires-clause-part : goal.make_space-made-requires-clause-part
make_space-made-requires-clause-part g c κs within =
    let x = beginning_of c.args.hall.now in
    let b = begun_with x c.args.pass.now c.begin_turn-held.new.pass c.begin_turn-held.result c.room.result.now c.room.ensures.value c.begin_turn-held.ensures.begins in
    record { pass = c.begin_turn-held.ensures.pass; others = c.requires.others; turn = b.clean }

pub make_space-made-requires-clause-no_job : goal.make_space-made-requires-clause-no_job
make_space-made-requires-clause-no_job g c κs within =
    let x = beginning_of c.args.hall.now in
    let b = begun_with x c.args.pass.now c.begin_turn-held.new.pass c.begin_turn-held.result c.room.result.now c.room.ensures.value c.begin_turn-held.ensures.begins in
    none_out x c.room.result.now.room c.args.pass.now c.begin_turn-held.new.pass b.takes c.requires.first c.requires.no_job

pub end_turn-requires-clause-turn : goal.end_turn-requires-clause-turn
end_turn-requires-clause-turn g c κs within =
    in_any_turn (beginning_of c.args.hall.now) c.make_space-made.new.room c.make_space-made.new.pass c.make_space-made.result c.make_space-made.ensures.turn

pub returns-clause-numbers : goal.returns-clause-numbers
returns-clause-numbers g c = same_numbers (beginning_of c.args.hall.now) c.args.others.now c.make_space-made.new.others c.make_space-made.ensures.goes.renews

pub returns-clause-ahead : goal.returns-clause-ahead
returns-clause-ahead g c =
    let x = beginning_of c.args.hall.now in
    let b = begun_with x c.args.pass.now c.begin_turn-held.new.pass c.begin_turn-held.result c.room.result.now c.room.ensures.value c.begin_turn-held.ensures.begins in
    let m = c.make_space-made.ensures in
    let t = in_any_turn x c.make_space-made.new.room c.make_space-made.new.pass c.make_space-made.result m.turn in
    let gave = c.end_turn.ensures.gives t.0 t.1 in
    renewed_then _ _ c.make_space-made.result
    (λ a. (ahead_still x c.room.result.now c.make_space-made.new.room c.args.pass.now c.begin_turn-held.new.pass c.make_space-made.new.pass c.end_turn.new.pass b m.goes.pass.1 c.end_turn.ensures.pass.1 m.goes.goes t.0 gave a.0, a.1)) m.ahead

pub returns-clause-tries : goal.returns-clause-tries
returns-clause-tries g c =
    let x = beginning_of c.args.hall.now in
    let b = begun_with x c.args.pass.now c.begin_turn-held.new.pass c.begin_turn-held.result c.room.result.now c.room.ensures.value c.begin_turn-held.ensures.begins in
    let m = c.make_space-made.ensures in
    let found = c.room.result.now in
    let new = c.make_space-made.new.room in
    let p₁ = c.begin_turn-held.new.pass in
    let q = c.make_space-made.new.pass in
    let r = c.end_turn.new.pass in
    let t = in_any_turn x new q c.make_space-made.result m.turn in
    let gave = c.end_turn.ensures.gives t.0 t.1 in
    record {
      found = found;
      room = new;
      turn = turn_added x found new c.args.pass.now p₁ q r b m.goes.pass.1 c.end_turn.ensures.pass.1 m.goes.goes t.0 gave;
      no_job = (none_out x found.room c.args.pass.now p₁ b.takes c.requires.first c.requires.no_job, m.no_job);
      log = t.1.may.log;
      stands = seen_stands x new q r t.0 t.1 gave;
      makes = m.makes;
      same_open = m.same_open;
      none_open = m.none_open;
      publishes = renewed_then _ _ c.make_space-made.result (λ is. gave.same_published ∙ is) m.publishes;
      damage = m.damage;
      meets = makes_meet x found new c.args.pass.now p₁ q r b m.goes.pass.1 c.end_turn.ensures.pass.1 m.goes.goes c.make_space-made.result m.turn gave;
    }
