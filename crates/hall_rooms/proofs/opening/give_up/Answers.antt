-- All views are taken back.
use Rattle.std.proofs.Common.{[], reverse, subst, sym, append-nil}
use Rattle.hall_rooms.specs.Boards.{Names}
use Rattle.hall_rooms.proofs.Fresh.{handed_back}
use Rattle.hall_rooms.proofs.opening.give_up.Goals as goal

pub take_back_all-requires-clause-named : goal.take_back_all-requires-clause-named
take_back_all-requires-clause-named g c κs within = (reverse c.args.fronts.items, c.requires.views.1.out.names)

pub take_back_all-requires-2-clause-named : goal.take_back_all-requires-2-clause-named
take_back_all-requires-2-clause-named g c κs within =
    ([], subst (Names c.take_back_all.new.room.room.board) (sym (append-nil (reverse c.args.fronts.items))) (c.take_back_all.ensures.board (reverse c.args.fronts.items) c.requires.views.1.out.names))

pub returns : goal.returns
returns g c old l =
    let named = c.take_back_all.ensures.board (reverse c.args.fronts.items) c.requires.views.1.out.names in
    handed_back old c.args.room c.take_back_all.new.room c.take_back_all-2.new.room c.args.fronts.items c.args.middles.items c.args.fault l c.take_back_all.ensures.same c.take_back_all-2.ensures.same
    (c.take_back_all-2.ensures.board [] (subst (Names c.take_back_all.new.room.room.board) (sym (append-nil (reverse c.args.fronts.items))) named)) c.counts-whole.ensures.whole
