use Rattle.std.proofs.Common.{arith}
use Rattle.hall_rooms.specs.Rooms.{beginning_of}
use Rattle.hall_accounts.specs.Going.{IsAtRest}
use Rattle.hall_accounts.proofs.Begun.{all_back}
use Rattle.fine_places.proofs.Elements.{each_of, same_each}
use Rattle.hall_accounts.proofs.many.puts_at_once.Goals as goal

pub close_hall-requires-clause-passes : goal.close_hall-requires-clause-passes
close_hall-requires-clause-passes g c κs i p at = (each_of (IsAtRest c.args.opened.hall) c.in-Ok.passes.items c.in-Ok.ensures.idle i p at).idle

pub close_hall-requires-clause-all : goal.close_hall-requires-clause-all
close_hall-requires-clause-all g c κs =
    let before = c.args.opened.passes.items in
    let after = c.in-Ok.passes.items in
    let back = c.in-Ok.ensures in
    let len = back.len in
    let counted = c.args.opened.passes.ok.0 in
    let came = c.in-Ok.passes.ok.0 in
    all_back (beginning_of c.args.opened.hall).seats before after (same_each (λ p. p.number) before after (omega (arith, len, counted, came)) (λ i d lt. back.numbers i d (omega (arith, lt, counted)))) c.requires.all
