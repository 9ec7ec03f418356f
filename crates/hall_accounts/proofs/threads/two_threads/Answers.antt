use Rattle.std.proofs.Common.{sym, subst, ◌∙◌}
use Rattle.hall_rooms.specs.Rooms.{beginning_of}
use Rattle.hall_accounts.specs.Doing.{AreMine}
use Rattle.hall_accounts.proofs.Doing.{is_run, none_mine, same_mine}
use Rattle.hall_accounts.proofs.threads.two_threads.Goals as goal

pub fill-one-requires : goal.fill-one-requires
fill-one-requires g c =
    let e = c.in_ok-hall.ensures in
    let one = c.in_ok-hall.field-0.one in
    record { idle = e.two.one; mine = subst (AreMine one) (sym c.new.ensures.items) (none_mine one e.fresh.0) }

pub both-one-requires-clause-first : goal.both-one-requires-clause-first
both-one-requires-clause-first g c κs within = c.fill-one.ensures.0

pub both-one-requires-clause-second : goal.both-one-requires-clause-second
both-one-requires-clause-second g c κs within =
    let e = c.in_ok-hall.ensures in
    let two = c.in_ok-hall.field-0.two in
    record { idle = e.two.two; mine = subst (AreMine two) (sym c.new-2.ensures.items) (none_mine two e.fresh.1) }

pub end_two-requires-clause-two : goal.end_two-requires-clause-two
end_two-requires-clause-two g c κs =
    let e = c.in_ok-hall.ensures.two in
    let b = c.both-one.ensures in
    let s = c.sum_now-sum.ensures in
    record { seats = e.seats; one = s.idle; two = b.second.0.idle; numbers = (s.stays.0 ∙ (b.first.1 ∙ (c.fill-one.ensures.1 ∙ e.numbers.0)), b.second.1 ∙ e.numbers.1); spare = e.spare }

pub returns : goal.returns
returns g c =
    let e = c.in_ok-hall.ensures in
    let n = e.two.numbers in
    let b = c.both-one.ensures in
    let s = c.sum_now-sum.ensures in
    let mine = same_mine c.both-one.result.0.0 c.sum_now-sum.new.pass s.stays ∙ b.first.0.mine in
    record {
      history = is_run (beginning_of c.in_ok-hall.field-0.hall) c.sum_now-sum.new.pass c.both-one.result.1.0 c.in_ok-room.room c.both-one.result.0.1.items c.both-one.result.1.1.items e.two.seats
          (s.stays.0 ∙ (b.first.1 ∙ (c.fill-one.ensures.1 ∙ n.0))) (b.second.1 ∙ n.1) e.new mine b.second.0.mine c.in_ok-room.ensures.closes;
    }
