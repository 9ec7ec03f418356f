use Rattle.std.proofs.Common.{◌≤◌, ◌*◌, [], sym, subst, ◌∙◌}
use Rattle.std.specs.Prelude.{vec_capacity}
use Rattle.fine_model.specs.Buckets.{Began}
use Rattle.hall_accounts.proofs.Begun.{all_fresh, all_idle, all_there, no_job}
use Rattle.hall_accounts.proofs.halls.open.Goals as goal

pub returns-in-Ok-clause-seats : goal.returns-in-Ok-clause-seats
returns-in-Ok-clause-seats c = c.in-Ok.ensures.hall.seats_are

pub returns-in-Ok-clause-idle : goal.returns-in-Ok-clause-idle
returns-in-Ok-clause-idle c = let o = c.in-Ok.ensures in
    all_idle c.in-Ok.opened.hall o.passes.1.0 c.in-Ok.opened.passes.items o.passes.1.1 (no_job c.in-Ok.opened.hall c.in_ok-room.room c.args.seats c.in_ok-room.ensures.job o.hall)

pub returns-in-Ok-clause-all : goal.returns-in-Ok-clause-all
returns-in-Ok-clause-all c = let o = c.in-Ok.ensures in
    all_there c.in-Ok.opened.hall o.passes.1.0 c.in-Ok.opened.passes.items o.passes.1.1 (o.passes.0 ∙ sym o.hall.seats_are)

pub returns-in-Ok-clause-spare : goal.returns-in-Ok-clause-spare
returns-in-Ok-clause-spare c = let o = c.in-Ok.ensures in
    (o.spare.0, subst (λ n. 2 * n ≤ vec_capacity c.in-Ok.opened.spare) (sym o.hall.seats_are) o.spare.1)

pub returns-in-Ok-clause-fresh : goal.returns-in-Ok-clause-fresh
returns-in-Ok-clause-fresh c = let o = c.in-Ok.ensures in
    all_fresh c.in-Ok.opened.hall o.passes.1.0 c.in-Ok.opened.passes.items o.passes.1.1 c.args.seats o.hall.seats_are

pub returns-in-Ok-clause-new : goal.returns-in-Ok-clause-new
returns-in-Ok-clause-new c = subst (λ l. Began l 0 []) (sym c.in-Ok.ensures.hall.log) c.in_ok-room.ensures.new
