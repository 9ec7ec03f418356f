-- A disk in a file of the system may go to another thread.
use denote.RattleType.{RattleType}
use denote.Param.Send.{IsSend, sendable, view_send}
use denote.Param.SendFields.{as_row_send, declared_send}
use Rattle.std.proofs.Common.{rules}
use Rattle.std.proofs.Crossing.{crosses}
use Rattle.std.proofs.MapsCrossing as maps
use Rattle.std.specs.contracts.fs.FileRead.TheImpl as reads
use Rattle.std.specs.contracts.fs.FileSeek.TheImpl as seeks
use Rattle.std.specs.contracts.fs.FileWrite.TheImpl as writes
use Rattle.std.specs.contracts.fs.dir.Names as names
use Rattle.std.specs.contracts.fs.dir.NamesRead.TheImpl as reads_names
use Rattle.std.below.core.specs.contracts.clone.Clone+copy.TheImpl as clones
use Rattle.std.specs.contracts.rt.LibcRuntime as runtime
use Rattle.std.specs.contracts.snapshot.Snapshot as snapshot
use Rattle.std.specs.contracts.vec.Vec as vec
use Rattle.std.specs.contracts.alloc.Global as alloc
use Rattle.std.specs.contracts.impls.GlobalAllocator.TheImpl.{ghosts}
use Rattle.log_disk.specs.contracts.eyes.OpenEyes as eyes
use Rattle.log_disk.specs.contracts.file.FileDisk as disk
use Rattle.log_disk.specs.contracts.file.FileDisk.TheInside as disk_in
use Rattle.log_disk.specs.contracts.file.handle.FileNotes as notes
use Rattle.log_disk.specs.contracts.file.handle.Handle as handle
use Rattle.log_disk.specs.contracts.file.kept.EyeFile as eye_file
use Rattle.log_disk.specs.contracts.file.kept.KeptFiles as kept

notes_send : IsSend notes.the_row
notes_send = declared_send notes.the_type (search rules, (search rules, (search rules, (search rules, (search rules, (search rules, tt))))))

handle_send : IsSend handle.the_row
handle_send = declared_send handle.the_type (search (sendable, crosses) depth 20, (notes_send, tt))

vec_send : (T : RattleType) → IsSend T → IsSend (vec.the_row T alloc.the_row ghosts)
vec_send T t = search (sendable, crosses) depth 20

file_send : IsSend eye_file.the_row
file_send = declared_send eye_file.the_type (search (sendable, crosses, maps.crosses) depth 20, (handle_send, tt))

kept_send : IsSend kept.the_row
kept_send = declared_send kept.the_type (as_row_send (vec.the_field eye_file.the_row alloc.the_row ghosts) (vec_send eye_file.the_row file_send), tt)

eyes_send : IsSend eyes.the_row
eyes_send = search (sendable, crosses) depth 20

-- over the runtime of programs
abbrev pub disk_row : RattleType
disk_row = disk.the_row runtime.the_row names.the_row reads.ghosts writes.ghosts seeks.ghosts reads_names.ghosts (clones.ghosts runtime.the_row)

pub disk_send : IsSend disk_row
disk_send = (view_send _ _ _ _ _ (declared_send (disk_in.the_type runtime.the_row names.the_row reads.ghosts writes.ghosts seeks.ghosts reads_names.ghosts (clones.ghosts runtime.the_row)) (
  search rules,
  (
    search (sendable, crosses) depth 20,
    (
      search (sendable, crosses, maps.crosses) depth 20,
      (handle_send, (search rules, (search rules, (as_row_send (vec.the_field (snapshot.the_row denote.Builtin.u32) alloc.the_row ghosts) (vec_send (snapshot.the_row denote.Builtin.u32) (search rules)), (eyes_send, (kept_send, (search rules, tt))))))),
    ),
  ),
)))
