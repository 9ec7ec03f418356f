use Rattle.std.proofs.Common.{ap, arith}
use lib.ListN.{get_elem?}
use Rattle.hall_accounts.specs.Going.{IsAtRest}
use Rattle.hall_accounts.proofs.Begun.{first_of_two, second_of_two, two_of}
use Rattle.hall_accounts.proofs.halls.open_two.Goals as goal

pub returns-clause-two : goal.returns-clause-two
returns-clause-two c =
    let e = c.in_ok-hall.ensures in
    let opened = c.in_ok-hall.field-0 in
    let is = two_of _ _ _ c.in_ok-two.two c.in_ok-one.one e.count c.in_ok-one.ensures.items c.in_ok-two.ensures.items in
    let one = e.fresh.numbers 1 c.in_ok-one.one (ap (λ l. get_elem? l 1) is) in
    let two = e.fresh.numbers 0 c.in_ok-two.two (ap (λ l. get_elem? l 0) is) in
    let room = e.spare.1 in
    let seats = e.seats in
    record {
      seats = e.seats;
      one = second_of_two (IsAtRest opened.hall) opened.passes.items c.in_ok-two.two c.in_ok-one.one is e.idle;
      two = first_of_two (IsAtRest opened.hall) opened.passes.items c.in_ok-two.two c.in_ok-one.one is e.idle;
      numbers = (omega (arith, one), omega (arith, two));
      spare = (e.spare.0, omega (arith, room, seats));
    }

pub returns-clause-fresh : goal.returns-clause-fresh
returns-clause-fresh c =
    let e = c.in_ok-hall.ensures in
    let is = two_of _ _ _ c.in_ok-two.two c.in_ok-one.one e.count c.in_ok-one.ensures.items c.in_ok-two.ensures.items in
    (e.fresh.none 1 c.in_ok-one.one (ap (λ l. get_elem? l 1) is), e.fresh.none 0 c.in_ok-two.two (ap (λ l. get_elem? l 0) is))
