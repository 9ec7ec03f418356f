use Rattle.std.proofs.Common.{sym, ◌∙◌, le_refl}
use Rattle.fine_places.specs.History as places
use Rattle.hall_rooms.specs.Rooms.{beginning_of}
use Rattle.txn_engine.proofs.Idle.{commits_idle}
use Rattle.hall_accounts.proofs.Doing.{waits_are}
use Rattle.hall_accounts.proofs.Gone.{refused_goes}
use Rattle.hall_accounts.proofs.steps.commit_now.Goals as goal

pub commit-requires-clause-open : goal.commit-requires-clause-open
commit-requires-clause-open g c κs within = (c.requires.going.is_open, sym c.failed.ensures ∙ c.if-failed.false)

pub returns-in-Ok : goal.returns-in-Ok
returns-in-Ok g c =
    let e = c.in-Ok.ensures in
    let i = commits_idle (beginning_of c.args.hall.now) 0 c.args.seat.now.txn c.commit.new.self c.args.seat.now.pass c.commit.new.pass c.in-Ok.done.stamp e.pass.1 e.commits.commits c.requires.going.job in
    record {
      going = (record { pass = e.pass.0; is_open = e.«open»; room = i.0 places.room (le_refl places.room); job = i.1 }, e.pass.1);
      waits = waits_are c.args.seat.now.pass c.commit.new.pass (beginning_of c.args.hall.now) 0 c.args.seat.now.txn c.commit.new.self c.in-Ok.done e.commits;
    }

pub returns-in-Err : goal.returns-in-Err
returns-in-Err g c =
    let e = c.in-Err.ensures in
    record { going = (refused_goes c.args.hall.now c.args.seat.now.txn c.commit.new.self c.args.seat.now.pass c.commit.new.pass c.in-Err.cause c.requires.going e.pass.0 e.pass.1 e.commits e.«open», e.pass.1); waits = tt }
