-- A hall of rooms may be lent to several threads, and what its passes bring back may go to any thread.
use mathlib.Core.List.{[], ◌∷◌}
use mir.Syntax.{Sym}
use denote.RattleType.{RattleType}
use denote.Param.Send.{IsSend, IsSync, sendable, view_send}
use denote.Param.SendFields.{as_row_send, as_row_sync, declared_send, declared_sync, variants_send}
use denote.Struct.Field.{row_field}
use denote.Struct.Tuple.{TupleAt, tuple_name, type_at}
use Rattle.std.proofs.Common.{rules}
use Rattle.std.proofs.Crossing.{Vec-send, crosses}
use Rattle.std.specs.contracts.option.Option as option
use Rattle.std.specs.contracts.snapshot.Snapshot as snapshot
use Rattle.std.specs.contracts.vec.Vec as vec
use Rattle.std.specs.contracts.alloc.Global as alloc
use Rattle.std.specs.contracts.impls.GlobalAllocator.TheImpl.{ghosts}
use Rattle.fine_model.specs.contracts.Entry as entry
use Rattle.log_disk.proofs.faults.Faults.TheSendSync as counts
use Rattle.log_disk.specs.contracts.eyes.OpenEye as open_eye
use Rattle.log_disk.specs.contracts.eyes.OpenEyes as open_eyes
use Rattle.log_disk.specs.contracts.mem.MemDisk as disk
use Rattle.log_disk.specs.contracts.mem.MemDisk.TheInside as disk_in
use Rattle.log_disk.specs.contracts.mem.MemEye as eye
use Rattle.log_disk.specs.contracts.mem.MemDiskLogDisk.TheImpl as disk_law
use Rattle.log_disk.specs.contracts.mem.MemEyeLogEye.TheImpl as eye_law
use Rattle.log_disk.proofs.mem.MemEye.TheSendSync as eyes
use Rattle.log_disk.specs.contracts.mem.Present as present
use Rattle.log_disk.proofs.mem.Present.TheSendSync as presents
use Rattle.log_disk.proofs.mem.plan.Schedule.TheSendSync as schedules
use Rattle.partition_hold.specs.contracts.view.View as view
use Rattle.partition_hold.proofs.view.View.TheSendSync as views
use Rattle.fine_hall.specs.contracts.law.Load as load
use Rattle.fine_hall.specs.contracts.hall.HallTable as hall
use Rattle.fine_hall.proofs.hall.HallTable.TheSendSync as halls
use Rattle.hall_rooms.specs.contracts.held.HeldRoom as in_hall
use Rattle.hall_rooms.specs.contracts.held.HeldBucket as bucket
use Rattle.hall_rooms.proofs.Crossing.{bucket_send, in_hall_send}
use Rattle.hall_accounts.specs.contracts.threads.Route as route
use Rattle.hall_accounts.proofs.threads.Route.TheSendSync as routes

-- a closure that captures four, and one that captures seven
pub four_sync : (ν : Sym) (A B C D : RattleType) → IsSync A → IsSync B → IsSync C → IsSync D → IsSync (TupleAt ν (A ∷ B ∷ C ∷ D ∷ []))
four_sync ν A B C D a b c d = declared_sync (type_at ν (A ∷ B ∷ C ∷ D ∷ [])) (as_row_sync (row_field A) a, (as_row_sync (row_field B) b, (as_row_sync (row_field C) c, (as_row_sync (row_field D) d, tt))))

pub seven_send : (ν : Sym) (A B C D E F G : RattleType) → IsSend A → IsSend B → IsSend C → IsSend D → IsSend E → IsSend F → IsSend G → IsSend (TupleAt ν (A ∷ B ∷ C ∷ D ∷ E ∷ F ∷ G ∷ []))
seven_send ν A B C D E F G a b c d e f g = declared_send (type_at ν (A ∷ B ∷ C ∷ D ∷ E ∷ F ∷ G ∷ [])) (
  as_row_send (row_field A) a,
  (
    as_row_send (row_field B) b,
    (as_row_send (row_field C) c, (as_row_send (row_field D) d, (as_row_send (row_field E) e, (as_row_send (row_field F) f, (as_row_send (row_field G) g, tt))))),
  ),
)

-- a disk in memory
numbers_send : IsSend (snapshot.the_row (vec.the_row denote.Builtin.u32 alloc.the_row ghosts))
numbers_send = search (sendable, crosses) depth 20

open_eye_send : IsSend open_eye.the_row
open_eye_send = declared_send open_eye.the_type (search rules, (as_row_send (snapshot.the_field (vec.the_row denote.Builtin.u32 alloc.the_row ghosts)) numbers_send, tt))

open_eyes_send : IsSend open_eyes.the_row
open_eyes_send = declared_send open_eyes.the_type (as_row_send (vec.the_field open_eye.the_row alloc.the_row ghosts) (Vec-send open_eye.the_row open_eye_send), (search rules, tt))

past_send : IsSend (snapshot.the_row present.the_row)
past_send = search (sendable, crosses) depth 20

pub disk_send : IsSend disk.the_row
disk_send = view_send _ _ _ _ _ (declared_send disk_in.the_type (
  search (sendable, crosses),
  (
    search rules,
    (
      presents.the_send,
      (
        as_row_send (vec.the_field (snapshot.the_row present.the_row) alloc.the_row ghosts) (Vec-send (snapshot.the_row present.the_row) past_send),
        (schedules.the_send, (open_eyes_send, (counts.the_send, tt))),
      ),
    ),
  ),
))

-- what lies in a slot of a hall, and the slot
entry_send : IsSend (snapshot.the_row entry.the_row)
entry_send = search (sendable, crosses) depth 20

some_entry : IsSend (option.the_row (snapshot.the_row entry.the_row))
some_entry = variants_send (option.enum (snapshot.the_row entry.the_row)) (tt, ((as_row_send (row_field (snapshot.the_row entry.the_row)) entry_send, tt), tt))

load_send : (R B V : RattleType) → IsSend R → IsSend B → IsSend V → IsSend (load.the_row R B V)
load_send R B V r b v = variants_send (load.enum R B V) (
  (as_row_send (row_field R) r, (some_entry, (search rules, (as_row_send (row_field (denote.Builtin.Array denote.Builtin.u8 tt 18)) (search sendable depth 20), tt)))),
  ((as_row_send (row_field B) b, tt), ((as_row_send (row_field V) v, tt), tt)),
)

slot_send : (R B V : RattleType) → IsSend R → IsSend B → IsSend V → IsSend (option.the_row (load.the_row R B V))
slot_send R B V r b v = variants_send (option.enum (load.the_row R B V)) (tt, ((as_row_send (row_field (load.the_row R B V)) (load_send R B V r b v), tt), tt))

-- a hall of rooms, and what it is made of on a disk in memory
pub hall_sync : (R V K Q : RattleType) (q : _) → IsSend R → IsSend V → IsSync (hall.the_row (option.the_row (load.the_row R bucket.the_row V)) K Q q)
hall_sync R V K Q q r v = halls.the_sync (option.the_row (load.the_row R bucket.the_row V)) K Q q (slot_send R bucket.the_row V r bucket_send v)

pub room_of_disk : IsSend (in_hall.the_row disk.the_row eye.the_row disk_law.ghosts eye_law.ghosts)
room_of_disk = in_hall_send disk.the_row eye.the_row disk_law.ghosts eye_law.ghosts disk_send

pub view_of_eye : IsSend (view.the_row eye.the_row eye_law.ghosts)
view_of_eye = views.the_send eye.the_row eye_law.ghosts eyes.the_send

-- accounts of two transfers, and a count
pub routes_sync : IsSync (TupleAt (tuple_name 2) (route.the_row ∷ route.the_row ∷ []))
routes_sync = declared_sync (type_at (tuple_name 2) (route.the_row ∷ route.the_row ∷ [])) (as_row_sync (row_field route.the_row) routes.the_sync, (as_row_sync (row_field route.the_row) routes.the_sync, tt))

pub small_sync : IsSync denote.Builtin.u32
small_sync = search rules
