use Rattle.std.proofs.Common.{List, [], sym, ap, subst, lit≤}
use Rattle.fine_model.specs.declared.Part.{Part}
use Rattle.log_disk.specs.Disk.{Disk}
use Rattle.log_disk.specs.Plan.{PlannedDisk}
use Rattle.epoch_room.specs.Whole.{AreParts, IsIdle}
use Rattle.epoch_room_tests.proofs.NewLog.{new_idle, new_parts}
use Rattle.epoch_room_tests.proofs.tests.new_room.Goals as goal

pub make-requires-clause-idle : goal.make-requires-clause-idle
make-requires-clause-idle c = λ _. subst IsIdle (sym (ap (λ (made : PlannedDisk). made.disk) c.in-Ok.ensures)) (new_idle 4 c.args.region_len _ (lit≤ tt, lit≤ tt) (c.requires.low, c.requires.high) c.requires.whole)

pub make-requires-clause-parts : goal.make-requires-clause-parts
make-requires-clause-parts c = λ _.
    subst (λ (ps : List Part). AreParts c.in-Ok.disk.disk ps c.new-3.result) (sym c.new-2.ensures)
    (subst (λ (ps : List Part). AreParts c.in-Ok.disk.disk [] ps) (sym c.new-3.ensures) (subst (λ (d : Disk). AreParts d [] []) (sym (ap (λ (made : PlannedDisk). made.disk) c.in-Ok.ensures)) (new_parts 4 c.args.region_len)))
