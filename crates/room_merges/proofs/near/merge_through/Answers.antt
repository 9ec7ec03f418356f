use Rattle.std.proofs.Common.{Result, subst}
use Rattle.partition_hold.specs.Views.{ViewValue}
use Rattle.epoch_room.specs.Views.{Views, ViewsOr}
use Rattle.epoch_room.specs.declared.answers.RoomFault.{RoomFault}
use Rattle.room_merges.specs.Near.{MayTry}
use Rattle.room_merges.proofs.Through.{empty_there, no_view, passed, seats_there, still_posted, view_tries}
use Rattle.room_merges.proofs.near.merge_through.Given.{Over}
use Rattle.room_merges.proofs.near.merge_through.Goals.{In-Ok}
use Rattle.room_merges.proofs.near.merge_through.Goals as goal

-- once a view was made
viewed : (g : Over) (c : In-Ok g) → Views c.args.room.now c.view_for.new.self 1 c.in-Ok.view
viewed g c = subst (λ (r : Result ViewValue RoomFault). ViewsOr c.args.room.now c.view_for.new.self 1 r) c.in-Ok.is c.view_for.ensures.room

-- so it may try all neighbours
may_try : (g : Over) (c : In-Ok g) → MayTry c.view_for.new.self c.in-Ok.view
may_try g c = view_tries c.args.room.now c.view_for.new.self c.in-Ok.view c.counts-counts.ensures.whole c.requires.board (viewed g c) c.requires.no_job

pub view_for-requires-clause-seats : goal.view_for-requires-clause-seats
view_for-requires-clause-seats g c κs within = seats_there c.args.room.now c.counts-counts.ensures.whole

pub view_for-requires-clause-empty : goal.view_for-requires-clause-empty
view_for-requires-clause-empty g c κs within = empty_there c.args.room.now c.counts-counts.ensures.whole c.requires.board

pub merge_any-merged-requires-clause-no_job : goal.merge_any-merged-requires-clause-no_job
merge_any-merged-requires-clause-no_job g c κs within = (may_try g (goal.at.merge_any-merged-requires-clause-no_job g c).In-Ok).idle.no_job

pub merge_any-merged-requires-clause-open : goal.merge_any-merged-requires-clause-open
merge_any-merged-requires-clause-open g c κs within = (may_try g (goal.at.merge_any-merged-requires-clause-open g c).In-Ok).opened

pub merge_any-merged-requires-clause-posted : goal.merge_any-merged-requires-clause-posted
merge_any-merged-requires-clause-posted g c κs within = (may_try g (goal.at.merge_any-merged-requires-clause-posted g c).In-Ok).idle.posted

pub merge_any-merged-requires-clause-region_len : goal.merge_any-merged-requires-clause-region_len
merge_any-merged-requires-clause-region_len g c κs within = (may_try g (goal.at.merge_any-merged-requires-clause-region_len g c).In-Ok).idle.region_len

pub merge_any-merged-requires-clause-parts : goal.merge_any-merged-requires-clause-parts
merge_any-merged-requires-clause-parts g c κs within = (may_try g (goal.at.merge_any-merged-requires-clause-parts g c).In-Ok).parts

pub take_back-requires-clause-posted : goal.take_back-requires-clause-posted
take_back-requires-clause-posted g c κs within =
    let may = may_try g (goal.at.take_back-requires-clause-posted g c).In-Ok in
    (still_posted c.args.from c.view_for.new.self c.merge_any-merged.new.room c.in-Ok.view c.merge_any-merged.new.view may.idle.posted may.idle.region_len c.merge_any-merged.result c.merge_any-merged.ensures).0

pub returns-in-Ok : goal.returns-in-Ok
returns-in-Ok g c =
    let views = viewed g (goal.at.returns-in-Ok g c).In-Ok in
    let may = may_try g (goal.at.returns-in-Ok g c).In-Ok in
    let posted = still_posted c.args.from c.view_for.new.self c.merge_any-merged.new.room c.in-Ok.view c.merge_any-merged.new.view may.idle.posted may.idle.region_len c.merge_any-merged.result c.merge_any-merged.ensures in
    passed c.args.room.now c.view_for.new.self c.merge_any-merged.new.room c.take_back.new.self c.in-Ok.view c.merge_any-merged.new.view
    (record {
      none = c.requires.no_job;
      all = c.requires.board;
      whole = c.counts-counts.ensures.whole;
      views = views;
      first = c.view_for.ensures.keeps;
      made = c.counts-made.ensures.whole;
      made_view = c.parts-seen.ensures.whole;
      same = c.merge_any-merged.ensures.looks.same;
      middle = c.counts-tried.ensures.whole;
      is_view = c.parts-parts.ensures.whole;
      posted = posted.0;
      region_len = posted.1;
      back = c.take_back.ensures.room;
      last = c.take_back.ensures.keeps;
      ends = c.counts-left.ensures.whole;
    })
    c.args.from c.merge_any-merged.result c.merge_any-merged.ensures

pub returns-in-Err : goal.returns-in-Err
returns-in-Err g c =
    no_view c.args.room.now c.view_for.new.self c.counts-counts.ensures.whole c.requires.no_job c.view_for.ensures.keeps c.args.from c.in-Err.fault
    (subst (λ (r : Result ViewValue RoomFault). ViewsOr c.args.room.now c.view_for.new.self 1 r) c.in-Err.is c.view_for.ensures.room)
