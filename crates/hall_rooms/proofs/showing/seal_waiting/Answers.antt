-- What waits is sealed.
use Rattle.std.proofs.Common.{arith, sym, ◌∙◌}
use Rattle.hall_rooms.proofs.Turned.{counted, none_sealed, sealed_err, sealed_ok}
use Rattle.hall_rooms.proofs.showing.seal_waiting.Goals as goal

pub returns-then-counts-eq0 : goal.returns-then-counts-eq0
returns-then-counts-eq0 g c = none_sealed c.args.room.now c.counts.ensures.whole (sym (counted c.args.room.now.room c.counts.result c.counts.ensures.counts).0 ∙ c.if-counts-eq0.true)

pub seal-requires-clause-waiting : goal.seal-requires-clause-waiting
seal-requires-clause-waiting g c κs within = let is = (counted c.args.room.now.room c.counts.result c.counts.ensures.counts).0 in let some = c.if-counts-eq0.false in omega (arith, is, some)

pub returns-in-Ok : goal.returns-in-Ok
returns-in-Ok g c =
    sealed_ok c.args.room.now c.seal.new.self c.counts.ensures.whole (λ none. c.if-counts-eq0.false ((counted c.args.room.now.room c.counts.result c.counts.ensures.counts).0 ∙ none)) c.seal.ensures.beside c.seal.ensures.keeps c.seal.ensures.job
    c.in-Ok._epoch c.in-Ok.ensures.room

pub returns-in-Err : goal.returns-in-Err
returns-in-Err g c =
    sealed_err c.args.room.now c.seal.new.self c.counts.ensures.whole (λ none. c.if-counts-eq0.false ((counted c.args.room.now.room c.counts.result c.counts.ensures.counts).0 ∙ none)) c.seal.ensures.beside c.seal.ensures.keeps c.seal.ensures.job
    c.in-Err.fault c.in-Err.ensures.room
