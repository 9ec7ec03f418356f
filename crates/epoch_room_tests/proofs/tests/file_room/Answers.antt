use denote.Exit.{no}
use denote.Param.Send.{arg_send, param_send}
use Rattle.std.proofs.Common.{List, [], sym, ap, subst}
use Rattle.fine_model.specs.declared.Part.{Part}
use Rattle.log_disk.specs.Disk.{Disk}
use Rattle.epoch_room.specs.Whole.{AreParts}
use Rattle.epoch_room_tests.proofs.FileDisks.{disk_row, disk_send}
use Rattle.epoch_room_tests.proofs.NewLog.{untold_parts}
use Rattle.epoch_room_tests.proofs.tests.file_room.Goals as goal

pub make-requires-2-clause-parts : goal.make-requires-2-clause-parts
make-requires-2-clause-parts c = λ _.
    subst (λ (ps : List Part). AreParts c.in-Ok.disk.disk ps c.new-2.result) (sym c.new.ensures)
    (subst (λ (ps : List Part). AreParts c.in-Ok.disk.disk [] ps) (sym c.new-2.ensures) (subst (λ (d : Disk). AreParts d [] []) (sym c.in-Ok.ensures.made) (untold_parts 5 4096)))

pub make-requires-2-send-D : goal.make-requires-2-send-D
make-requires-2-send-D c = λ _. param_send _ _ (arg_send _ no disk_row disk_send)
