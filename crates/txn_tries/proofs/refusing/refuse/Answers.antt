use Rattle.std.proofs.Common.{ap, sym, ◌∙◌, subst}
use Rattle.fine_model.specs.declared.Outcome.{Outcome}
use Rattle.hall_rooms.specs.Rooms.{beginning_of}
use Rattle.txn_tries.specs.declared.turn.TurnEnd.TheVariants as turn_end
use Rattle.txn_tries.specs.Faults.{refused_as, why_on_full}
use Rattle.txn_tries.specs.Turns.{RefusesTurn}
use Rattle.txn_tries.proofs.OnFull.{full_refuses}
use Rattle.txn_tries.proofs.Underway.{abort_undone}
use Rattle.txn_tries.proofs.refusing.refuse.Goals as goal

pub returns : goal.returns
returns g c =
    let a = c.abort.ensures in
    let u = abort_undone c.args.hall.now c.args.txn.now c.abort.new.self c.args.pass.now c.abort.new.pass _ c.requires.going a.pass.0 a.pass.1 a.aborts in
    let f = full_refuses (beginning_of c.args.hall.now) c.args.scripted.now c.args.txn.now.draft.turn c.args.txn.now c.args.pass.now c.abort.new.pass c.requires.going.is_open c.requires.answered a.aborts.sees a.aborts.meets c.args.region_len c.requires.region in
    let txn = c.args.scripted.now in
    let is = c.refused_as.ensures ∙ ap (refused_as txn.ending) (c.why_on_full.ensures ∙ ap (λ n. why_on_full n c.args.region_len) c.cost-cost.ensures) in
    record { rest = u.rest; refuses = subst (λ (o : Outcome). RefusesTurn (beginning_of c.args.hall.now) txn c.args.pass.now c.abort.new.pass (turn_end.Done o)) (sym is) f }
