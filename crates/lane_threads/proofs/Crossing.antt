-- A hall of rooms over any disk may be lent to several threads, with what lanes share beside it, and a worker may go to another thread.
use mathlib.Core.List.{[], ◌∷◌}
use mir.Syntax.{Sym}
use denote.RattleType.{RattleType}
use denote.Param.Send.{IsSend, IsSync, sendable}
use denote.Param.SendFields.{as_row_send, as_row_sync, declared_send, declared_sync, variants_send}
use denote.Struct.Field.{row_field}
use denote.Struct.Tuple.{TupleAt, type_at}
use Rattle.std.proofs.Common.{rules}
use Rattle.std.proofs.Crossing.{crosses, send}
use Rattle.std.specs.contracts.option.Option as option
use Rattle.std.specs.contracts.snapshot.Snapshot as snapshot
use Rattle.fine_model.specs.contracts.Entry as entry
use Rattle.fine_model.specs.contracts.ScriptTxn as script_txn
use Rattle.fine_model.specs.contracts.list.Items as list
use Rattle.fine_model.proofs.ScriptTxn.TheSendSync as script_txns
use Rattle.fine_model.proofs.list.Items.TheSendSync as items
use Rattle.key_locks.specs.contracts.LockSet as locks
use Rattle.key_locks.proofs.LockSet.TheSendSync as lock_sets
use Rattle.log_disk.specs.declared.LogDisk as LogDisk
use Rattle.log_disk.specs.declared.LogEye as LogEye
use Rattle.partition_hold.specs.contracts.view.View as view
use Rattle.partition_hold.proofs.view.View.TheSendSync as views
use Rattle.fine_hall.specs.contracts.law.Load as load
use Rattle.fine_hall.specs.contracts.hall.HallTable as hall
use Rattle.fine_hall.proofs.hall.HallTable.TheSendSync as halls
use Rattle.fine_hall.proofs.pass.Pass.TheSendSync as passes
use Rattle.hall_rooms.specs.contracts.held.HeldRoom as in_hall
use Rattle.hall_rooms.specs.contracts.held.HeldBucket as bucket
use Rattle.hall_rooms.proofs.Crossing.{bucket_send, in_hall_send}
use Rattle.txn_draft.specs.contracts.draft.Draft as draft
use Rattle.txn_draft.proofs.draft.Draft.TheSendSync as drafts
use Rattle.txn_engine.specs.contracts.txn.Txn as txn
use Rattle.lane_runs.specs.contracts.lane.Lane as lane
use Rattle.lane_runs.proofs.lane.Lane.TheSendSync as lanes
use Rattle.lane_runs.proofs.run.Stop.TheSendSync as stops
use Rattle.lane_threads.specs.contracts.worker.Part as part
use Rattle.lane_threads.specs.contracts.worker.Worker as worker

-- a closure that captures six
pub six_sync : (ν : Sym) (A B C D E F : RattleType) → IsSync A → IsSync B → IsSync C → IsSync D → IsSync E → IsSync F → IsSync (TupleAt ν (A ∷ B ∷ C ∷ D ∷ E ∷ F ∷ []))
six_sync ν A B C D E F a b c d e f = declared_sync (type_at ν (A ∷ B ∷ C ∷ D ∷ E ∷ F ∷ []))
    (as_row_sync (row_field A) a, (as_row_sync (row_field B) b, (as_row_sync (row_field C) c, (as_row_sync (row_field D) d, (as_row_sync (row_field E) e, (as_row_sync (row_field F) f, tt))))))

-- what lies in a slot of a hall, and the slot
entry_send : IsSend (snapshot.the_row entry.the_row)
entry_send = search (sendable, crosses) depth 20

some_entry : IsSend (option.the_row (snapshot.the_row entry.the_row))
some_entry = variants_send (option.enum (snapshot.the_row entry.the_row)) (tt, ((as_row_send (row_field (snapshot.the_row entry.the_row)) entry_send, tt), tt))

load_send : (R B V : RattleType) → IsSend R → IsSend B → IsSend V → IsSend (load.the_row R B V)
load_send R B V r b v = variants_send (load.enum R B V) (
  (as_row_send (row_field R) r, (some_entry, (search rules, (as_row_send (row_field (denote.Builtin.Array denote.Builtin.u8 tt 18)) (search sendable depth 20), tt)))),
  ((as_row_send (row_field B) b, tt), ((as_row_send (row_field V) v, tt), tt)),
)

slot_send : (R B V : RattleType) → IsSend R → IsSend B → IsSend V → IsSend (option.the_row (load.the_row R B V))
slot_send R B V r b v = variants_send (option.enum (load.the_row R B V)) (tt, ((as_row_send (row_field (load.the_row R B V)) (load_send R B V r b v), tt), tt))

-- the hall, over rooms and views that may go to another thread
pub hall_sync : (R V K Q : RattleType) (q : _) → IsSend R → IsSend V → IsSync (hall.the_row (option.the_row (load.the_row R bucket.the_row V)) K Q q)
hall_sync R V K Q q r v = halls.the_sync (option.the_row (load.the_row R bucket.the_row V)) K Q q (slot_send R bucket.the_row V r bucket_send v)

-- those of any disk that may, with eyes that may
pub room_send : (D E : RattleType) (d : LogDisk.Ghosts D.Denot E.Denot) (e : LogEye.Ghosts E.Denot) → IsSend D → IsSend (in_hall.the_row D E d e)
room_send D E d e may = in_hall_send D E d e may

pub view_send_of : (E : RattleType) (e : LogEye.Ghosts E.Denot) → IsSend E → IsSend (view.the_row E e)
view_send_of E e may = views.the_send E e may

-- a script
pub script_sync : IsSync (list.the_row script_txn.the_row)
script_sync = items.the_sync script_txn.the_row script_txns.the_sync

-- a transaction, a part, and a worker
txn_send : IsSend txn.the_row
txn_send = declared_send txn.the_type (
  send,
  (
    as_row_send draft.the_field drafts.the_send,
    (as_row_send (locks.the_field bucket.the_row) (lock_sets.the_send bucket.the_row bucket_send), (as_row_send (snapshot.the_field (locks.the_row bucket.the_row)) (search rules), tt)),
  ),
)

part_send : IsSend part.the_row
part_send = declared_send part.the_type (as_row_send lane.the_field lanes.the_send, (txn_send, (stops.the_send, tt)))

pub worker_send : (D E : RattleType) (e : LogEye.Ghosts E.Denot) → IsSend E → IsSend (worker.the_row D E e)
worker_send D E e may = declared_send (worker.the_type D E e) (passes.the_send (view.the_row E e) (view_send_of E e may), (part_send, tt))
