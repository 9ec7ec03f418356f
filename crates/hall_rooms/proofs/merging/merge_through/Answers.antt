-- Neighbours are merged through a view that is made for it and taken back.
use Rattle.std.proofs.Common.{sym, ap, ◌∙◌}
use Rattle.fine_model.specs.declared.law.RoomState.{RoomState}
use Rattle.hall_rooms.proofs.Merged.{made_len, made_open, no_view, posted_there, still_there, through}
use Rattle.hall_rooms.proofs.merging.merge_through.Goals as goal

pub merge_any-merged-requires-clause-no_job : goal.merge_any-merged-requires-clause-no_job
merge_any-merged-requires-clause-no_job g c κs within = ap (λ (r : RoomState). r.job) c.in-Ok.ensures.room ∙ c.requires.no_job

pub merge_any-merged-requires-clause-open : goal.merge_any-merged-requires-clause-open
merge_any-merged-requires-clause-open g c κs within = made_open c.args.room.now c.make_view.new.room c.in-Ok.view c.in-Ok.ensures

pub merge_any-merged-requires-clause-posted : goal.merge_any-merged-requires-clause-posted
merge_any-merged-requires-clause-posted g c κs within = posted_there c.args.room.now c.make_view.new.room c.in-Ok.view c.in-Ok.ensures

pub merge_any-merged-requires-clause-region_len : goal.merge_any-merged-requires-clause-region_len
merge_any-merged-requires-clause-region_len g c κs within = made_len c.args.room.now c.make_view.new.room c.in-Ok.view c.in-Ok.ensures

pub merge_any-merged-requires-clause-parts : goal.merge_any-merged-requires-clause-parts
merge_any-merged-requires-clause-parts g c κs within = c.in-Ok.ensures.parts ∙ sym (ap (λ (r : RoomState). r.parts) c.in-Ok.ensures.room)

pub take_back-requires-clause-posted : goal.take_back-requires-clause-posted
take_back-requires-clause-posted g c κs within =
    still_there c.args.from c.args.room.now c.make_view.new.room c.merge_any-merged.new.room c.in-Ok.view c.merge_any-merged.new.view c.in-Ok.ensures c.merge_any-merged.result c.merge_any-merged.ensures

pub returns : goal.returns
returns g c =
    through c.args.from c.args.room.now c.make_view.new.room c.merge_any-merged.new.room c.take_back.new.room c.in-Ok.view c.merge_any-merged.new.view c.in-Ok.ensures c.counts-made.ensures.whole c.take_back.ensures.same
    c.counts-tried.ensures.whole c.counts-left.ensures.whole c.parts-parts.ensures.whole c.merge_any-merged.result c.merge_any-merged.ensures c.take_back.ensures.board

pub returns-in-Err : goal.returns-in-Err
returns-in-Err g c = no_view c.args.from c.args.room.now c.make_view.new.room c.counts-whole.ensures.whole c.requires.no_job c.in-Err.fault c.in-Err.ensures
