use Rattle.hall_rooms.specs.Rooms.{beginning_of}
use Rattle.txn_tries.proofs.OnFull.{refuses_after, stops_refuses}
use Rattle.txn_tries.proofs.Underway.{rest_of}
use Rattle.txn_tries.proofs.refusing.try_on_full.Goals as goal

pub returns-in-All : goal.returns-in-All
returns-in-All g c =
    let h = c.in-All.ensures in
    let e = c.refuse.ensures in
    record {
      rest = rest_of c.args.hall.now c.answer.new.pass.number c.args.pass.now.number c.refuse.new.txn c.refuse.new.pass h.1.number e.rest;
      refuses = refuses_after (beginning_of c.args.hall.now) c.args.scripted.now c.args.pass.now c.answer.new.pass c.refuse.new.pass c.requires.idle.1 h.1 c.refuse.result e.refuses;
    }

pub returns-in-Conflict : goal.returns-in-Conflict
returns-in-Conflict g c = let h = c.in-Conflict.ensures in (h.0.rest, record { number = h.0.rest.idle.1; sees = h.0.sees; meets = h.1 })

pub returns-in-Over : goal.returns-in-Over
returns-in-Over g c = let h = c.in-Over.ensures in
    record { rest = h.0.rest; refuses = stops_refuses (beginning_of c.args.hall.now) c.args.scripted.now c.args.pass.now c.answer.new.pass c.in-Over.end h.0.sees h.1 }
