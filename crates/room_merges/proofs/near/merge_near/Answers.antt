use Rattle.std.proofs.Common.{◌≡◌, true, Result, sym, subst}
use Rattle.std.specs.List.{list_all}
use Rattle.fine_model.specs.Boards.{is_empty}
use Rattle.room_merges.specs.Near.{Empties}
use Rattle.room_merges.specs.declared.fault.MergeFault.{MergeFault}
use Rattle.room_merges.proofs.Erased.{near_refused, near_then}
use Rattle.room_merges.proofs.near.merge_near.Goals as goal

pub merge_erased-requires-clause-no_job : goal.merge_erased-requires-clause-no_job
merge_erased-requires-clause-no_job g c κs within = c.erase_retired.ensures.rest.job

pub merge_erased-requires-clause-board : goal.merge_erased-requires-clause-board
merge_erased-requires-clause-board g c κs within = subst (λ b. list_all is_empty b ≡ true) (sym c.erase_retired.ensures.rest.board) c.requires.board

pub returns-in-Ok : goal.returns-in-Ok
returns-in-Ok g c =
    near_then c.args.from c.args.room.now c.erase_retired.new.room c.merge_erased.new.room tt
    (subst (λ (r : Result (Unit {0}) MergeFault). Empties c.args.room.now c.erase_retired.new.room r) c.in-Ok.is c.erase_retired.ensures)
    c.merge_erased.result c.merge_erased.ensures

pub returns-in-Err : goal.returns-in-Err
returns-in-Err g c =
    near_refused c.args.from c.args.room.now c.erase_retired.new.room c.in-Err.fault
    (subst (λ (r : Result (Unit {0}) MergeFault). Empties c.args.room.now c.erase_retired.new.room r) c.in-Err.is c.erase_retired.ensures)
