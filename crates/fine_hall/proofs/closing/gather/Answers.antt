use Rattle.std.proofs.Common.{◌∷◌, ◌++◌, [], ap, subst, ◌∙◌, arith}
use Rattle.fine_places.specs.Places.{Holds}
use Rattle.fine_hall.specs.Passes.{known, reads}
use Rattle.fine_hall.proofs.Gathering.{last_pass, rest_passes, holds_none, gathers_one, gathers_more, fronts_more, passes_more}
use Rattle.fine_hall.proofs.closing.gather.Goals as goal

pub leave-seat-requires-clause-view : goal.leave-seat-requires-clause-view
leave-seat-requires-clause-view g c = let ok = c.requires.passes _ c.in-Some.last (last_pass _ _ _ c.in-Some.ensures.items) in (record { places = known c.in-Some.last; beside = reads c.in-Some.last }, ok.0.one)

pub leave-seat-requires-clause-front : goal.leave-seat-requires-clause-front
leave-seat-requires-clause-front g c = let ok = c.requires.passes _ c.in-Some.last (last_pass _ _ _ c.in-Some.ensures.items) in (ok.0.front.there, ok.0.front.is_there)

pub loop-pass-init : goal.loop-pass-init
loop-pass-init g c = let ok = c.requires.passes _ c.in-Some.last (last_pass _ _ _ c.in-Some.ensures.items) in
    let s = c.leave-seat.ensures.seat in let pop = c.in-Some.ensures in let r = c.leave-seat.ensures.room in record {
      table = s.0 ∙ ok.0.table;
      still = s.1;
      empty = holds_none _ _ _ c.in-Some.last _ ok.0 s.2 ok.1;
      each = λ i p at. c.requires.passes i p (rest_passes _ _ c.in-Some.last i p pop.items at);
      gathered = (c.in-Some.last ∷ [], pop.items, gathers_one c.in-Some.last _ s.2, c.leave-seat.ensures.front);
      room = (r.0, let n = r.1 in let m = pop.len in omega (arith, n, m));
    }

pub leave-requires-clause-view : goal.leave-requires-clause-view
leave-requires-clause-view g c = let ok = c.loop-pass.invariant.each _ c.in-Some-pop.pass (last_pass _ _ _ c.in-Some-pop.ensures.items) in (record { places = known c.in-Some-pop.pass; beside = reads c.in-Some-pop.pass }, ok.0.one)

pub leave-requires-clause-front : goal.leave-requires-clause-front
leave-requires-clause-front g c = let ok = c.loop-pass.invariant.each _ c.in-Some-pop.pass (last_pass _ _ _ c.in-Some-pop.ensures.items) in (ok.0.front.there, ok.0.front.is_there)

pub join-requires-clause-table : goal.join-requires-clause-table
join-requires-clause-table g c = let ok = c.loop-pass.invariant.each _ c.in-Some-pop.pass (last_pass _ _ _ c.in-Some-pop.ensures.items) in
    (c.loop-pass.invariant.table, c.leave.ensures.seat.0 ∙ ok.0.table, c.requires.table)

pub join-requires-clause-empty : goal.join-requires-clause-empty
join-requires-clause-empty g c = let ok = c.loop-pass.invariant.each _ c.in-Some-pop.pass (last_pass _ _ _ c.in-Some-pop.ensures.items) in
    (c.loop-pass.invariant.empty, holds_none _ _ _ c.in-Some-pop.pass _ ok.0 c.leave.ensures.seat.2 ok.1, c.leave.ensures.seat.1)

pub loop-pass-preserved : goal.loop-pass-preserved
loop-pass-preserved g c = let i = c.loop-pass.invariant in let pop = c.in-Some-pop.ensures in let j = c.join.ensures in let done = i.gathered.0 in let r = c.leave.ensures.room in record {
  table = j.table.0 ∙ i.table;
  still = ap (λ m. m.1) j.joined ∙ i.still;
  empty = λ k h. i.empty k (subst (λ m. Holds m.0.places k) j.joined h);
  each = λ n p at. i.each n p (rest_passes _ _ c.in-Some-pop.pass n p pop.items at);
  gathered = (
    done ++ c.in-Some-pop.pass ∷ [],
    passes_more _ _ _ done c.in-Some-pop.pass pop.items i.gathered.1,
    gathers_more done c.in-Some-pop.pass c.loop-pass.seat.me.0 c.leave.result.me.0 c.join.new.seat.me.0 c.leave.ensures.seat.2 (ap (λ m. m.0) j.joined) i.gathered.2,
    fronts_more _ _ _ done c.in-Some-pop.pass i.gathered.3 c.leave.ensures.front,
  );
  room = (r.0 ∙ i.room.0, let n = r.1 in let m = pop.len in let k = i.room.1 in omega (arith, n, m, k));
}
