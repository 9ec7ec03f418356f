use denote.Exit.{no}
use denote.Param.Send.{arg_send, param_send}
use Rattle.fineline.proofs.FileDisks.{disk_row, disk_send}
use Rattle.fineline.proofs.main.Goals as goal

pub fineline-finish-requires-send-D : goal.fineline-finish-requires-send-D
fineline-finish-requires-send-D g c κs = param_send 3 _ (arg_send _ no disk_row disk_send)
