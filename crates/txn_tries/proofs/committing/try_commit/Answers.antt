use Rattle.std.proofs.Common.{ap, ◌∙◌, subst}
use Rattle.txn_draft.specs.Drafts.{DraftValue}
use Rattle.hall_rooms.specs.Rooms.{beginning_of}
use Rattle.txn_engine.specs.declared.txn.Txn.{Txn}
use Rattle.txn_tries.specs.Committing.{Unplaced}
use Rattle.txn_tries.specs.Going.{Waits, txn_of}
use Rattle.txn_tries.proofs.RoomRefusals.{refused_fit, refused_last}
use Rattle.txn_tries.proofs.Underway.{abort_undone, commit_rest, refused_going, rest_of}
use Rattle.txn_tries.proofs.Placed.{commit_placed}
use Rattle.txn_tries.proofs.Unplaced.{unplaced_after, unplaced_later}
use Rattle.txn_tries.proofs.Waiting.{refused_waits, waits_on}
use Rattle.txn_tries.proofs.committing.try_commit.Goals as goal

pub make_place-requires-clause-going : goal.make_place-requires-clause-going
make_place-requires-clause-going g c κs within = let e = c.in-Err.ensures in
    refused_going c.args.hall.now c.args.txn.now c.commit.new.self c.args.pass.now c.commit.new.pass c.in-Err.cause c.requires.going e.pass.0 e.pass.1 e.commits e.«open»

pub make_place-requires-clause-last : goal.make_place-requires-clause-last
make_place-requires-clause-last g c κs within = refused_last (beginning_of c.args.hall.now) c.args.txn.now c.commit.new.self c.args.pass.now c.commit.new.pass c.in-Err.cause c.in-Err.ensures.commits

pub make_place-requires-clause-cause : goal.make_place-requires-clause-cause
make_place-requires-clause-cause g c κs within = refused_fit (beginning_of c.args.hall.now) c.args.txn.now c.commit.new.self c.args.pass.now c.commit.new.pass c.in-Err.cause c.in-Err.ensures.commits

pub returns-in-Ok : goal.returns-in-Ok
returns-in-Ok g c =
    let e = c.in-Ok.ensures in
    let r = c.requires in
    let t = c.args.txn.now in (
      commit_rest c.args.hall.now t c.commit.new.self c.args.pass.now c.commit.new.pass _ c.in-Ok.done.stamp r.going e.pass.0 e.pass.1 e.commits.commits,
      commit_placed c.args.options.now.group _ (beginning_of c.args.hall.now) t c.commit.new.self c.args.pass.now c.commit.new.pass c.in-Ok.done e.pass.1 r.going.is_open r.answered e.commits,
    )

pub returns-in-Some : goal.returns-in-Some
returns-in-Some g c =
    let x = beginning_of c.args.hall.now in
    let p = c.args.pass.now in
    let q = c.commit.new.pass in
    let r = c.make_place.new.pass in
    let s = c.abort.new.pass in
    let group = c.args.options.now.group in
    let refused = c.in-Err.ensures in
    let m = c.in-Some.ensures in
    let a = c.abort.ensures in
    let undone = abort_undone c.args.hall.now c.commit.new.self c.abort.new.self r s _ m.0 a.pass.0 a.pass.1 a.aborts in
    let over = subst (λ (d : DraftValue). Unplaced group (txn_of d) x q r c.in-Some.end) (ap (λ (t : Txn). t.draft) refused.commits.same) m.2 in (
      rest_of c.args.hall.now r.number p.number c.abort.new.self s (m.1 ∙ refused.pass.1) undone.rest,
      unplaced_later group (txn_of c.args.txn.now.draft) x p r s (record { number = a.pass.1; sees = a.aborts.sees; meets = a.aborts.meets }) c.in-Some.end
          (unplaced_after group (txn_of c.args.txn.now.draft) x p q r c.in-Some.end (refused_waits group (txn_of c.args.txn.now.draft) x p q c.args.txn.now c.commit.new.self c.in-Err.cause refused.pass.1 refused.commits) over),
    )

pub returns-in-None : goal.returns-in-None
returns-in-None g c =
    let x = beginning_of c.args.hall.now in
    let p = c.args.pass.now in
    let q = c.commit.new.pass in
    let r = c.make_place.new.pass in
    let group = c.args.options.now.group in
    let refused = c.in-Err.ensures in
    let m = c.in-None.ensures in
    let same = ap (λ (t : Txn). t.draft) refused.commits.same in (
      m.0,
      same,
      waits_on group (txn_of c.args.txn.now.draft) x p q r (refused_waits group (txn_of c.args.txn.now.draft) x p q c.args.txn.now c.commit.new.self c.in-Err.cause refused.pass.1 refused.commits)
          (subst (λ (d : DraftValue). Waits group (txn_of d) x q r) same m.1),
    )
