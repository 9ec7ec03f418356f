use Rattle.std.proofs.Common.{refl, sym, ◌∙◌, subst}
use Rattle.hall_rooms.specs.Rooms.{beginning_of}
use Rattle.txn_tries.specs.Going.{IsCommittable, txn_of}
use Rattle.txn_tries.proofs.RoomRefusals.{waits_none}
use Rattle.txn_tries.proofs.Trying.{commit_after, waits_after}
use Rattle.txn_tries.proofs.committing.commit.Goals as goal

pub try_commit-requires-clause-answered : goal.try_commit-requires-clause-answered
try_commit-requires-clause-answered g c κs within = subst IsCommittable (sym c.loop.invariant.draft) c.requires.answered

pub loop-init : goal.loop-init
loop-init g c = record { more = (tt, tt); going = c.requires.going; draft = refl; waits = waits_none c.args.options.now.group (txn_of c.args.txn.now.draft) (beginning_of c.args.hall.now) c.args.pass.now }

pub returns-in-Some-try_commit : goal.returns-in-Some-try_commit
returns-in-Some-try_commit g c = let i = c.loop.invariant in
    commit_after c.args.hall.now c.args.options.now.group c.args.txn.now c.loop.txn c.try_commit.new.txn c.args.pass.now c.loop.pass c.try_commit.new.pass i.draft i.waits c.in-Some-try_commit.end c.in-Some-try_commit.ensures

pub loop-preserved : goal.loop-preserved
loop-preserved g c = let i = c.loop.invariant in
    let m = c.in_default.ensures in
    record {
      more = (tt, tt);
      going = m.0;
      draft = m.1 ∙ i.draft;
      waits = waits_after c.args.hall.now c.args.options.now.group c.args.txn.now c.loop.txn c.try_commit.new.txn c.args.pass.now c.loop.pass c.try_commit.new.pass i.draft i.waits m.2;
    }
