-- Views are taken back, the last one first.
use Rattle.std.proofs.Common.{◌++◌, reverse, subst}
use Rattle.hall_rooms.specs.Boards.{Names}
use Rattle.hall_rooms.proofs.Naming.{back_done, back_first, back_next, names_last, names_less, none_left}
use Rattle.hall_rooms.proofs.views.take_back_all.Goals as goal

pub loop-view-init : goal.loop-view-init
loop-view-init g c = record { some = c.requires.named; board = λ others names. names; same = back_first c.args.views.items c.args.room.now c.counts-whole.ensures.whole }

pub take_back-requires-clause-posted : goal.take_back-requires-clause-posted
take_back-requires-clause-posted g c κs within =
    let is = c.in-Some.ensures.items in
    let s = c.loop-view.invariant.some in
    (names_last c.loop-view.room.room.board c.loop-view.views.items c.pop.new.self.items s.0 c.in-Some.view is s.1).0

pub loop-view-preserved : goal.loop-view-preserved
loop-view-preserved g c =
    let i = c.loop-view.invariant in
    let is = c.in-Some.ensures.items in
    let before = c.loop-view.room.room.board in
    let after = c.take_back.new.room.room.board in
    record {
      some = (i.some.0, names_less before after c.loop-view.views.items c.pop.new.self.items i.some.0 c.in-Some.view is c.take_back.ensures.board i.some.1);
      board = λ others names. names_less before after c.loop-view.views.items c.pop.new.self.items others c.in-Some.view is c.take_back.ensures.board (i.board others names);
      same = back_next c.args.views.items c.loop-view.views.items c.pop.new.self.items c.in-Some.view c.args.room.now c.loop-view.room c.take_back.new.room is i.same c.take_back.ensures.same;
    }

pub returns-clause-board : goal.returns-clause-board
returns-clause-board g c others names =
    let e = c.in_default.ensures in
    let none = none_left c.loop-view.views.items c.pop.new.self.items _ e.cases.0 e.items e.rest in
    subst (λ l. Names c.loop-view.room.room.board (reverse l ++ others)) none (c.loop-view.invariant.board others names)

pub returns-clause-same : goal.returns-clause-same
returns-clause-same g c =
    let e = c.in_default.ensures in
    back_done c.args.views.items c.loop-view.views.items c.args.room.now c.loop-view.room (none_left c.loop-view.views.items c.pop.new.self.items _ e.cases.0 e.items e.rest) c.loop-view.invariant.same
