-- Room is made where nothing waits.
use Rattle.std.proofs.Common.{◌≡◌, refl, sym, ◌∙◌}
use Rattle.hall_rooms.specs.Rooms.{beginning_of}
use Rattle.hall_rooms.proofs.Made.{makes_same, none_taken, on_renewed, open_same}
use Rattle.hall_rooms.proofs.Renewing.{go_none}
use Rattle.hall_rooms.proofs.Turned.{counted}
use Rattle.hall_rooms.proofs.making.make_space.Goals as goal

pub returns-then-counts-ne0-clause-goes : goal.returns-then-counts-ne0-clause-goes
returns-then-counts-ne0-clause-goes g c = go_none c.args.hall.now c.args.room.now c.args.pass.now c.args.others.now c.requires.part

pub returns-then-counts-ne0-clause-turn : goal.returns-then-counts-ne0-clause-turn
returns-then-counts-ne0-clause-turn g c = c.requires.part.turn

pub returns-then-counts-ne0-clause-makes : goal.returns-then-counts-ne0-clause-makes
returns-then-counts-ne0-clause-makes g c = ((λ none. c.if-counts-ne0.true ((counted c.args.room.now.room c.counts.result c.counts.ensures.counts).0 ∙ none)), refl)

pub returns-then-counts-ne0-clause-same_open : goal.returns-then-counts-ne0-clause-same_open
returns-then-counts-ne0-clause-same_open g c = record { sealed = refl; waiting = refl; used = refl }

pub returns-then-counts-ne0-clause-none_open : goal.returns-then-counts-ne0-clause-none_open
returns-then-counts-ne0-clause-none_open g c = λ other. absurd (other refl)

pub clear_and_merge-made-requires-clause-none_waits : goal.clear_and_merge-made-requires-clause-none_waits
clear_and_merge-made-requires-clause-none_waits g c κs within = sym (counted c.args.room.now.room c.counts.result c.counts.ensures.counts).0 ∙ c.if-counts-ne0.false

pub returns-clause-ahead : goal.returns-clause-ahead
returns-clause-ahead g c = on_renewed _ c.clear_and_merge-made.result c.clear_and_merge-made.ensures.ahead

pub returns-clause-publishes : goal.returns-clause-publishes
returns-clause-publishes g c = on_renewed _ c.clear_and_merge-made.result c.clear_and_merge-made.ensures.publishes

pub returns-clause-same_open : goal.returns-clause-same_open
returns-clause-same_open g c =
    open_same c.args.room.now c.clear_and_merge-made.new.room c.counts.ensures.whole c.counts-left.ensures.whole (sym (counted c.args.room.now.room c.counts.result c.counts.ensures.counts).0 ∙ c.if-counts-ne0.false)
    (makes_same (beginning_of c.args.hall.now).seats c.args.from c.args.room.now c.clear_and_merge-made.new.room c.clear_and_merge-made.result c.clear_and_merge-made.ensures.makes)

pub returns-clause-none_open : goal.returns-clause-none_open
returns-clause-none_open g c = λ other. none_taken c.args.room.now c.counts.ensures.whole (sym (counted c.args.room.now.room c.counts.result c.counts.ensures.counts).0 ∙ c.if-counts-ne0.false)
