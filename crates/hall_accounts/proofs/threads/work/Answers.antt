use Rattle.std.proofs.Common.{◌∙◌}
use Rattle.hall_accounts.proofs.threads.work.Goals as goal

pub move_often-requires-2 : goal.move_often-requires-2
move_often-requires-2 g c =
    let k = c.move_often.ensures.0 in
    record { idle = c.show-shown.ensures.idle.0; free = k.free; mine = c.show-shown.ensures.mine ∙ k.mine }

pub returns : goal.returns
returns g c =
    let last = c.move_often-2.ensures in
    (record { idle = last.0.idle; mine = last.0.mine }, last.1 ∙ (c.show-shown.ensures.idle.1 ∙ (c.move_often.ensures.1 ∙ c.in-Ok.ensures.begun.1)))
