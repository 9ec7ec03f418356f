use Rattle.std.proofs.Common.{◌≡◌, Bool, true, Ok, Result, sym, subst, ap, ◌∙◌}
use Rattle.std.specs.List.{list_all}
use Rattle.fine_model.specs.Boards.{is_empty}
use Rattle.room_merges.specs.Near.{Empties, MergesThrough}
use Rattle.room_merges.specs.declared.fault.MergeFault.{MergeFault}
use Rattle.room_merges.proofs.Erased.{erased_after, erased_false, erased_fault, erased_true}
use Rattle.room_merges.proofs.near.merge_erased.Goals as goal

pub erase_retired-requires-clause-no_job : goal.erase_retired-requires-clause-no_job
erase_retired-requires-clause-no_job g c κs within = c.merge_through.ensures.rest.job

pub erase_retired-requires-clause-board : goal.erase_retired-requires-clause-board
erase_retired-requires-clause-board g c κs within = subst (λ b. list_all is_empty b ≡ true) (sym c.merge_through.ensures.rest.board) c.requires.board

pub returns-in-Ok-erase_retired : goal.returns-in-Ok-erase_retired
returns-in-Ok-erase_retired g c =
    erased_true c.args.from c.args.room.now c.merge_through.new.room c.erase_retired.new.room
    (subst (λ (r : Result Bool MergeFault). MergesThrough c.args.from c.args.room.now c.merge_through.new.room r) (c.in-Ok.is ∙ ap (λ b. Ok b) c.if-merged.true) c.merge_through.ensures) tt
    (subst (λ (r : Result (Unit {0}) MergeFault). Empties c.merge_through.new.room c.erase_retired.new.room r) c.in-Ok-erase_retired.is c.erase_retired.ensures)

pub returns-in-Err-erase_retired : goal.returns-in-Err-erase_retired
returns-in-Err-erase_retired g c =
    erased_after c.args.from c.args.room.now c.merge_through.new.room c.erase_retired.new.room
    (subst (λ (r : Result Bool MergeFault). MergesThrough c.args.from c.args.room.now c.merge_through.new.room r) (c.in-Ok.is ∙ ap (λ b. Ok b) c.if-merged.true) c.merge_through.ensures) c.in-Err-erase_retired.fault
    (subst (λ (r : Result (Unit {0}) MergeFault). Empties c.merge_through.new.room c.erase_retired.new.room r) c.in-Err-erase_retired.is c.erase_retired.ensures)

pub returns-else-merged : goal.returns-else-merged
returns-else-merged g c = erased_false c.args.from c.args.room.now c.merge_through.new.room (subst (λ (r : Result Bool MergeFault). MergesThrough c.args.from c.args.room.now c.merge_through.new.room r) (c.in-Ok.is ∙ ap (λ b. Ok b) c.if-merged.false) c.merge_through.ensures)

pub returns-in-Err : goal.returns-in-Err
returns-in-Err g c = erased_fault c.args.from c.args.room.now c.merge_through.new.room c.in-Err.fault (subst (λ (r : Result Bool MergeFault). MergesThrough c.args.from c.args.room.now c.merge_through.new.room r) c.in-Err.is c.merge_through.ensures)
