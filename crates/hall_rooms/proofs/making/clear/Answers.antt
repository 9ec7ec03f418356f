-- Rounds until nothing is retired.
use Rattle.std.proofs.Common.{◌≡◌, ◌+◌, arith, inl, refl, subst}
use Rattle.hall_rooms.specs.Rooms.{beginning_of}
use Rattle.hall_rooms.specs.Making.{EndsRound, WholeRounds}
use Rattle.hall_rooms.proofs.Clearing.{at_round, cleared, job_stays, round_fails, round_more, rounds_more, still_held}
use Rattle.hall_rooms.proofs.Renewing.{go_none, go_then, part_on}
use Rattle.hall_rooms.proofs.making.clear.Goals as goal

pub loop-init : goal.loop-init
loop-init g c = record {
  goes = go_none c.args.hall.now c.args.room.now c.args.pass.now c.args.others.now c.requires.part;
  clean = c.requires.part.turn;
  no_job = c.requires.no_job;
  so_far = inl refl;
  rounds = refl;
  at_round = λ lt. absurd (omega (arith, lt));
}

pub renew_and_erase-requires-clause-part : goal.renew_and_erase-requires-clause-part
renew_and_erase-requires-clause-part g c κs within = part_on c.args.hall.now c.loop.room c.args.pass.now c.loop.pass c.args.others.now c.loop.others c.loop.invariant.goes c.loop.invariant.clean

pub loop-preserved : goal.loop-preserved
loop-preserved g c =
    let x = beginning_of c.args.hall.now in
    let i = c.loop.invariant in
    let e = c.renew_and_erase.ensures in
    let new = c.renew_and_erase.new.room in
    let round = subst (EndsRound x c.loop.room new c.renew_and_erase.new.pass c.renew_and_erase.new.others) c.if-is_done.false c.in-Ok.ensures.round in
    record {
      goes = go_then c.args.hall.now c.args.pass.now c.loop.pass c.renew_and_erase.new.pass c.args.others.now c.loop.others c.renew_and_erase.new.others i.goes e.goes;
      clean = round.turn;
      no_job = job_stays c.loop.room.room new.room e.job i.no_job;
      so_far = round_more x c.args.room.now c.loop.room new i.so_far c.renew_and_erase.new.pass c.renew_and_erase.new.others round;
      rounds = rounds_more x c.args.room.now c.loop.room new i.so_far c.renew_and_erase.new.pass c.renew_and_erase.new.others c.loop.counter (c.loop.counter + 1) (omega arith) i.rounds round;
      at_round = λ _. at_round x c.args.room.now c.loop.room new c.renew_and_erase.new.pass c.renew_and_erase.new.others i.so_far round;
    }

pub returns-then-is_done-clause-goes : goal.returns-then-is_done-clause-goes
returns-then-is_done-clause-goes g c =
    go_then c.args.hall.now c.args.pass.now c.loop.pass c.renew_and_erase.new.pass c.args.others.now c.loop.others c.renew_and_erase.new.others c.loop.invariant.goes c.renew_and_erase.ensures.goes

pub returns-then-is_done-clause-clears : goal.returns-then-is_done-clause-clears
returns-then-is_done-clause-clears g c =
    let x = beginning_of c.args.hall.now in
    let i = c.loop.invariant in
    let new = c.renew_and_erase.new.room in
    cleared x c.args.room.now c.loop.room new i.so_far c.renew_and_erase.new.pass c.renew_and_erase.new.others c.loop.counter c.loop-test.true i.rounds
    (subst (EndsRound x c.loop.room new c.renew_and_erase.new.pass c.renew_and_erase.new.others) c.if-is_done.true c.in-Ok.ensures.round) c.requires.none_waits c.counts-whole.ensures.whole
    (job_stays c.loop.room.room new.room c.renew_and_erase.ensures.job i.no_job)

pub returns-in-Err-clause-goes : goal.returns-in-Err-clause-goes
returns-in-Err-clause-goes g c =
    go_then c.args.hall.now c.args.pass.now c.loop.pass c.renew_and_erase.new.pass c.args.others.now c.loop.others c.renew_and_erase.new.others c.loop.invariant.goes c.renew_and_erase.ensures.goes

pub returns-in-Err-clause-clears : goal.returns-in-Err-clause-clears
returns-in-Err-clause-clears g c =
    round_fails (beginning_of c.args.hall.now) c.args.room.now c.loop.room c.renew_and_erase.new.room c.loop.invariant.so_far c.renew_and_erase.new.pass c.renew_and_erase.new.others c.loop.counter c.loop-test.true c.loop.invariant.rounds
    c.in-Err.fault c.in-Err.ensures.round

pub returns-clause-clears : goal.returns-clause-clears
returns-clause-clears g c =
    let x = beginning_of c.args.hall.now in
    let i = c.loop.invariant in
    let e : c.loop.counter ≡ 3 = (let f = c.loop-test.false in let a = c.loop.auto.counter-end in omega (arith, f, a)) in
    still_held x c.args.room.now c.loop.room c.loop.pass c.loop.others i.clean (subst (λ n. WholeRounds x.seats n c.args.room.now c.loop.room) e i.rounds) (i.at_round (omega (arith, e)))
