use Rattle.std.proofs.Common.{Bool, Ok, Result, sym, subst, ap, ◌∙◌}
use Rattle.fine_model.specs.declared.law.RoomState.{RoomState}
use Rattle.room_merges.specs.Near.{TriesBetween, epochs_end}
use Rattle.room_merges.specs.declared.fault.MergeFault.{MergeFault}
use Rattle.room_merges.proofs.Nearing.{any_merged, any_more, any_refused}
use Rattle.room_merges.proofs.Working.{posted_then}
use Rattle.room_merges.proofs.near.merge_any.Goals as goal

pub returns-then-merged : goal.returns-then-merged
returns-then-merged g c =
    any_merged c.args.from c.args.room.now c.merge_between.new.room c.args.view.now c.merge_between.new.view
    (subst (λ (r : Result Bool MergeFault). TriesBetween c.args.from epochs_end c.args.room.now c.merge_between.new.room c.args.view.now c.merge_between.new.view r) (c.in-Ok.is ∙ ap (λ b. Ok b) c.if-merged.true) c.merge_between.ensures)

pub merge_between-requires-clause-may : goal.merge_between-requires-clause-may
merge_between-requires-clause-may g c κs within = record {
  idle = record { no_job = c.requires.no_job; posted = c.requires.posted; region_len = c.requires.region_len };
  opened = c.requires.open;
  parts = c.requires.parts;
}

pub merge_between-requires-else-merged-clause-may : goal.merge_between-requires-else-merged-clause-may
merge_between-requires-else-merged-clause-may g c κs within =
    let first =
    (subst (λ (r : Result Bool MergeFault). TriesBetween c.args.from epochs_end c.args.room.now c.merge_between.new.room c.args.view.now c.merge_between.new.view r) (c.in-Ok.is ∙ ap (λ b. Ok b) c.if-merged.false) c.merge_between.ensures) in
    record {
      idle = record {
        no_job = ap (λ (r : RoomState). r.job) first.room.0.room;
        posted = posted_then c.args.room.now.room c.merge_between.new.room.room c.args.view.now c.merge_between.new.view (ap (λ (r : RoomState). r.board) first.room.0.room) first.looks.same c.requires.posted;
        region_len = first.looks.same.region_len ∙ c.requires.region_len ∙ sym first.room.0.keeps.becomes.region_len;
      };
      opened = ap (λ (r : RoomState). r.is_shut) first.room.0.room ∙ c.requires.open;
      parts = first.looks.same.parts ∙ c.requires.parts ∙ sym (ap (λ (r : RoomState). r.parts) first.room.0.room);
    }

pub returns-else-merged : goal.returns-else-merged
returns-else-merged g c =
    any_more c.args.from c.args.room.now c.merge_between.new.room c.args.view.now c.merge_between.new.view c.counts-counts.ensures.whole
    (subst (λ (r : Result Bool MergeFault). TriesBetween c.args.from epochs_end c.args.room.now c.merge_between.new.room c.args.view.now c.merge_between.new.view r) (c.in-Ok.is ∙ ap (λ b. Ok b) c.if-merged.false) c.merge_between.ensures)
    c.merge_between-else-merged.new.room c.merge_between-else-merged.new.view c.merge_between-else-merged.result c.merge_between-else-merged.ensures

pub returns-in-Err : goal.returns-in-Err
returns-in-Err g c =
    any_refused c.args.from c.args.room.now c.merge_between.new.room c.args.view.now c.merge_between.new.view c.in-Err.fault
    (subst (λ (r : Result Bool MergeFault). TriesBetween c.args.from epochs_end c.args.room.now c.merge_between.new.room c.args.view.now c.merge_between.new.view r) c.in-Err.is c.merge_between.ensures)
