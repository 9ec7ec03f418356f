use Rattle.std.proofs.Common.{◌∙◌}
use Rattle.txn_tries.specs.Going.{txn_of}
use Rattle.txn_tries.proofs.Finished.{unplaced_finishes}
use Rattle.txn_tries.proofs.turn.finish.Goals as goal

pub returns-in-Placed : goal.returns-in-Placed
returns-in-Placed g c =
    let h = c.in-Placed.ensures in
    let e = c.end_group.ensures in
    let d = c.args.txn.now.draft in
    record { rest = record { idle = (e.idle.0, e.idle.1 ∙ h.0.idle.1); blank = h.0.blank }; runs = e.turn (txn_of d) d.turn c.args.pass.now h.1 }

pub returns-in-Over : goal.returns-in-Over
returns-in-Over g c =
    let h = c.in-Over.ensures in
    let d = c.args.txn.now.draft in
    unplaced_finishes c.args.hall.now c.args.options.now.group (txn_of d) d.turn c.commit-end.new.txn c.args.pass.now c.commit-end.new.pass c.in-Over.end h.0 h.1
