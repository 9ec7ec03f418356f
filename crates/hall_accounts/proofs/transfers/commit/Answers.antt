use Rattle.std.proofs.Common.{sym, ◌∙◌}
use Rattle.hall_rooms.specs.Rooms.{beginning_of}
use Rattle.txn_engine.proofs.Idle.{commits_idle}
use Rattle.hall_accounts.proofs.Doing.{commit_adds, refused_none, same_mine}
use Rattle.hall_accounts.proofs.Gone.{refused_goes}
use Rattle.hall_accounts.proofs.transfers.commit.Goals as goal

pub commit-requires-clause-open : goal.commit-requires-clause-open
commit-requires-clause-open g c κs within = (c.requires.going.is_open, sym c.failed.ensures ∙ c.if-failed.false)

pub returns-in-Ok : goal.returns-in-Ok
returns-in-Ok g c =
    let e = c.in-Ok.ensures in
    let t = c.args.txn.now in
    let i = commits_idle (beginning_of c.args.hall.now) c.args.keep t c.commit.new.self c.args.pass.now c.commit.new.pass c.in-Ok.done.stamp e.pass.1 e.commits.commits c.requires.going.job in
    record {
      idle = (record { idle = (e.pass.0, i.0, i.1) }, e.pass.1);
      free = record { lane = t.draft.lane; turn = t.draft.turn; is_blank = e.commits.commits.blank_now.0; none = e.commits.commits.blank_now.1 };
      adds = commit_adds c.args.pass.now c.commit.new.pass (beginning_of c.args.hall.now) c.args.keep t c.commit.new.self c.in-Ok.done e.commits.commits e.commits.entry;
    }

pub give_up-requires-in-Err-clause-going : goal.give_up-requires-in-Err-clause-going
give_up-requires-in-Err-clause-going g c κs within =
    let e = c.in-Err.ensures in
    refused_goes c.args.hall.now c.args.txn.now c.commit.new.self c.args.pass.now c.commit.new.pass c.in-Err.cause c.requires.going e.pass.0 e.pass.1 e.commits e.«open»

pub returns-in-Err : goal.returns-in-Err
returns-in-Err g c =
    let p = c.args.pass.now in
    let q = c.commit.new.pass in
    let e = c.give_up-in-Err.ensures in
    record {
      idle = (e.idle, e.stays.0 ∙ c.in-Err.ensures.pass.1);
      free = e.free;
      adds = same_mine q c.give_up-in-Err.new.pass e.stays ∙ refused_none p q (beginning_of c.args.hall.now) c.args.txn.now c.commit.new.self c.in-Err.cause c.in-Err.ensures.commits;
    }

pub returns-then-failed : goal.returns-then-failed
returns-then-failed g c = let e = c.give_up.ensures in record { idle = (e.idle, e.stays.0); free = e.free; adds = same_mine c.args.pass.now c.give_up.new.pass e.stays }
