use Rattle.std.proofs.Common.{List, [], sym, ap, subst}
use Rattle.fine_model.specs.declared.Part.{Part}
use Rattle.log_disk.specs.Disk.{Disk}
use Rattle.log_disk.specs.Plan.{PlannedDisk}
use Rattle.epoch_room.specs.Whole.{AreParts}
use Rattle.hall_accounts.proofs.NewLog.{is_new, new_parts}
use Rattle.hall_accounts.proofs.halls.new_room.Goals as goal

pub make-requires-clause-parts : goal.make-requires-clause-parts
make-requires-clause-parts c = λ _.
    subst (λ (ps : List Part). AreParts c.in-Ok.disk.disk ps c.new-3.result) (sym c.new-2.ensures)
    (subst (λ (ps : List Part). AreParts c.in-Ok.disk.disk [] ps) (sym c.new-3.ensures) (subst (λ (d : Disk). AreParts d [] []) (sym (ap (λ (made : PlannedDisk). made.disk) c.in-Ok.ensures)) (new_parts 8 c.args.region_len)))

pub returns-in-Ok-make : goal.returns-in-Ok-make
returns-in-Ok-make c = is_new 8 c.args.region_len c.in-Ok.disk.disk c.new-2.result c.new-3.result c.in-Ok-make.room (ap (λ (made : PlannedDisk). made.disk) c.in-Ok.ensures) c.in-Ok-make.ensures.made c.in-Ok-make.ensures.stands
