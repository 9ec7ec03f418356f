-- What a hall holds may go to any thread.
use Rattle.std.proofs.Common.{rules, List, [], ◌∷◌}
use Rattle.std.proofs.Crossing.{crosses}
use denote.RattleType.{RattleType}
use denote.Param.Send.{IsSend, sendable, view_send}
use denote.Param.SendFields.{as_row_send, declared_send, variants_send}
use denote.Struct.Field.{row_field}
use denote.Struct.Tuple.{Tuple, tuple_type}
use Rattle.std.specs.contracts.option.Option as option
use Rattle.std.specs.contracts.snapshot.Snapshot as snapshot
use Rattle.std.specs.contracts.vec.Vec as vec
use Rattle.std.specs.contracts.boxed.Box as boxed
use Rattle.std.specs.contracts.alloc.Global as alloc
use Rattle.std.specs.contracts.impls.GlobalAllocator.TheImpl.{ghosts}
use Rattle.partition_hold.specs.contracts.regions.RegionSet as set
use Rattle.partition_hold.proofs.regions.RegionSet.TheSendSync as sets
use Rattle.fine_model.specs.contracts.Part as part
use Rattle.fine_model.proofs.Part.TheSendSync as parts
use Rattle.fine_model.specs.contracts.Job as job
use Rattle.fine_model.proofs.Job.TheSendSync as jobs
use Rattle.fine_model.specs.contracts.list.Items as list
use Rattle.node_cache.specs.contracts.undo.UndoLog as undo
use Rattle.node_cache.specs.contracts.undo.Step as steps
use Rattle.node_cache.specs.contracts.cached.Cached as cache
use Rattle.node_cache.specs.contracts.original.Original as original
use Rattle.node_cache.specs.contracts.saved.Saved as saved
use Rattle.node_cache.specs.contracts.Bucket as bucket
use Rattle.node_cache.specs.contracts.Bucket.TheInside as bucket_in
use Rattle.indexmap.specs.contracts.map.IndexMap as map
use Rattle.indexmap.specs.contracts.columns.Columns as columns
use Rattle.indexmap.specs.contracts.columns.Columns.TheInside as columns_in
use Rattle.indexmap.specs.contracts.index_table.IndexTable as table
use Rattle.indexmap.specs.contracts.index_table.IndexTable.TheInside as table_in
use Rattle.indexmap.specs.contracts.index_table.Bucket as slot
use Rattle.indexmap.specs.contracts.index_table.group.Group as group
use Rattle.std.specs.contracts.hash.BuildHasherDefault as default
use Rattle.std.specs.contracts.hash.FoldHasher as fold
use Rattle.std.specs.contracts.prelude.U32PartialEq.TheImpl as equal
use Rattle.std.specs.contracts.prelude.U32Hash.TheImpl as hash
use Rattle.std.specs.declared.hash.BuildHasher as BuildHasher
use Rattle.std.specs.contracts.prelude.FoldHasherHasher.TheImpl as folding
use Rattle.indexmap.specs.contracts.map.IndexMap.TheInside as map_in
use Rattle.private_log.specs.contracts.PrivateLog as log
use Rattle.log_disk.specs.declared.LogDisk as LogDisk
use Rattle.log_disk.specs.declared.LogEye as LogEye
use Rattle.partition_hold.specs.contracts.board.Board as board
use Rattle.partition_hold.specs.contracts.board.Held as held
use Rattle.epoch_room.specs.contracts.epoch.OpenEpoch as epoch
use Rattle.epoch_room.specs.contracts.room.Room as room
use Rattle.epoch_room.specs.contracts.room.Room.TheInside as room_in
use Rattle.epoch_room.specs.contracts.epoch.OpenEpoch.TheInside as epoch_in
use Rattle.partition_hold.specs.contracts.board.Board.TheInside as board_in
use Rattle.hall_rooms.specs.contracts.held.HeldRoom as in_hall
use Rattle.hall_rooms.specs.contracts.held.HeldRoom.TheInside as in_hall_in
use Rattle.hall_rooms.specs.contracts.held.HeldBucket as held_bucket
use Rattle.hall_rooms.specs.contracts.held.HeldBucket.TheInside as held_bucket_in
use Rattle.fine_model.proofs.list.Items.TheSendSync as items
use Rattle.node_cache.proofs.cached.Cached.TheSendSync as cached
use Rattle.node_cache.proofs.undo.Step.TheSendSync as step
use Rattle.node_cache.proofs.marks.Marks.TheSendSync as marks

pub noted : IsSend (snapshot.the_row cache.the_row)
noted = search rules depth 20

pub steps_send : IsSend (list.the_row steps.the_row)
steps_send = items.the_send steps.the_row step.the_send

pub undo_send : IsSend undo.the_row
undo_send = declared_send undo.the_type (as_row_send (snapshot.the_field cache.the_row) noted, (search rules, (search rules, (as_row_send (list.the_field steps.the_row) steps_send, (step.the_send, tt)))))

pub some_send : IsSend (option.the_row cache.the_row)
some_send = variants_send (option.enum cache.the_row) (tt, ((as_row_send (row_field cache.the_row) cached.the_send, tt), tt))

pub original_send : IsSend original.the_row
original_send = variants_send original.enum ((some_send, tt), ((undo_send, tt), tt))

logs_send : IsSend (snapshot.the_row log.the_row)
logs_send = search rules depth 20

vec_send : (T : RattleType) → IsSend T → IsSend (vec.the_row T alloc.the_row ghosts)
vec_send T t = search (sendable, crosses) depth 20

option_send : (T : RattleType) → IsSend T → IsSend (option.the_row T)
option_send T t = variants_send (option.enum T) (tt, ((as_row_send (row_field T) t, tt), tt))

number_option : IsSend (option.the_row denote.Builtin.u32)
number_option = option_send denote.Builtin.u32 (search rules)

pub epoch_send : IsSend epoch.the_row
epoch_send = view_send _ _ _ _ _ (declared_send epoch_in.the_type
    (as_row_send (vec.the_field denote.Builtin.u8 alloc.the_row ghosts) (vec_send denote.Builtin.u8 (search rules)), (as_row_send (vec.the_field (snapshot.the_row log.the_row) alloc.the_row ghosts) (vec_send (snapshot.the_row log.the_row) logs_send), (search rules, (search rules, (search rules, tt))))))

pub held_send : (E : RattleType) → IsSend (held.the_row E)
held_send E = declared_send (held.the_type E) (search rules, (as_row_send set.the_field sets.the_send, (as_row_send (snapshot.the_field E) (search rules), tt)))

pub board_send : (E : RattleType) (e : LogEye.Ghosts E.Denot) → IsSend (board.the_row E e)
board_send E e = view_send _ _ _ _ _ (declared_send (board_in.the_type E e) (as_row_send (vec.the_field (option.the_row (held.the_row E)) alloc.the_row ghosts) (vec_send (option.the_row (held.the_row E)) (option_send (held.the_row E) (held_send E))), tt))

pub room_send : (D E : RattleType) (d : LogDisk.Ghosts D.Denot E.Denot) (e : LogEye.Ghosts E.Denot) → IsSend D → IsSend (room.the_row D E d e)
room_send D E d e s = view_send _ _ _ _ _ (declared_send (room_in.the_type D E d e) (
  as_row_send (row_field D) s,
  (
    as_row_send (snapshot.the_field D) (search rules),
    (
      search (sendable, crosses),
      (
        as_row_send (list.the_field part.the_row) (items.the_send part.the_row parts.the_send),
        (
          as_row_send (vec.the_field part.the_row alloc.the_row ghosts) (vec_send part.the_row parts.the_send),
          (
            as_row_send set.the_field sets.the_send,
            (
              as_row_send set.the_field sets.the_send,
              (
                number_option,
                (
                  as_row_send (board.the_field E e) (board_send E e),
                  (option_send job.the_row jobs.the_send, (as_row_send epoch.the_field epoch_send, (search rules, (search rules, (search rules, tt))))),
                ),
              ),
            ),
          ),
        ),
      ),
    ),
  ),
))

box_send : (T : RattleType) → IsSend T → IsSend (boxed.the_row T alloc.the_row ghosts)
box_send T t = search (sendable, crosses) depth 20

pub in_hall_send : (D E : RattleType) (d : LogDisk.Ghosts D.Denot E.Denot) (e : LogEye.Ghosts E.Denot) → IsSend D → IsSend (in_hall.the_row D E d e)
in_hall_send D E d e s = view_send _ _ _ _ _ (declared_send (in_hall_in.the_type D E d e) (as_row_send (boxed.the_field (room.the_row D E d e) alloc.the_row ghosts) (box_send (room.the_row D E d e) (room_send D E d e s)), tt))

abbrev hasher : RattleType
hasher = default.the_row fold.the_row

hasher_send : IsSend hasher
hasher_send = search rules depth 20

group_send : IsSend group.the_row
group_send = declared_send group.the_type (as_row_send (row_field (denote.Builtin.Array denote.Builtin.u8 tt 16)) (search sendable depth 20), (as_row_send (row_field (denote.Builtin.Array denote.Builtin.u32 tt 12)) (search sendable depth 20), tt))

slot_send : IsSend slot.the_row
slot_send = search rules depth 20

table_send : IsSend (table.the_row alloc.the_row ghosts)
table_send = view_send _ _ _ _ _ (declared_send (table_in.the_type alloc.the_row ghosts)
    (as_row_send (vec.the_field group.the_row alloc.the_row ghosts) (vec_send group.the_row group_send), (as_row_send (vec.the_field slot.the_row alloc.the_row ghosts) (vec_send slot.the_row slot_send), (search rules, tt))))

columns_send : (V : RattleType) → IsSend V → IsSend (columns.the_row denote.Builtin.u32 V alloc.the_row ghosts)
columns_send V v = view_send _ _ _ _ _ (declared_send (columns_in.the_type denote.Builtin.u32 V alloc.the_row ghosts)
    (as_row_send (vec.the_field denote.Builtin.u32 alloc.the_row ghosts) (vec_send denote.Builtin.u32 (search rules)), (as_row_send (vec.the_field V alloc.the_row ghosts) (vec_send V v), tt)))

module _ (V : RattleType) (b : BuildHasher.Ghosts hasher.Denot fold.the_row.Denot) (v : IsSend V) where
  pub map_send : IsSend (map.the_row denote.Builtin.u32 V hasher alloc.the_row fold.the_row equal.ghosts hash.ghosts b folding.ghosts ghosts)
  map_send = view_send _ _ _ _ _ (declared_send (map_in.the_type denote.Builtin.u32 V hasher alloc.the_row fold.the_row equal.ghosts hash.ghosts b folding.ghosts ghosts)
      (as_row_send (columns.the_field denote.Builtin.u32 V alloc.the_row ghosts) (columns_send V v), (as_row_send (table.the_field alloc.the_row ghosts) table_send, (as_row_send (row_field hasher) hasher_send, tt))))

abbrev first : List RattleType
first = denote.Builtin.u32 ∷ original.the_row ∷ []

first_send : IsSend (Tuple first)
first_send = declared_send (tuple_type first) (as_row_send (row_field denote.Builtin.u32) (search rules), (as_row_send (row_field original.the_row) original_send, tt))

saved_send : IsSend saved.the_row
saved_send = declared_send saved.the_type (
  option_send (Tuple first) first_send,
  (as_row_send (map.the_field denote.Builtin.u32 original.the_row hasher alloc.the_row fold.the_row equal.ghosts hash.ghosts _ folding.ghosts ghosts) (map_send original.the_row _ original_send), tt),
)

cached_send : IsSend bucket.the_row
cached_send = view_send _ _ _ _ _ (declared_send bucket_in.the_type (
  search rules,
  (
    as_row_send (map.the_field denote.Builtin.u32 cache.the_row hasher alloc.the_row fold.the_row equal.ghosts hash.ghosts _ folding.ghosts ghosts) (map_send cache.the_row _ cached.the_send),
    (saved_send, (marks.the_send, tt)),
  ),
))

pub bucket_send : IsSend held_bucket.the_row
bucket_send = view_send _ _ _ _ _ (declared_send held_bucket_in.the_type (as_row_send (boxed.the_field bucket.the_row alloc.the_row ghosts) (box_send bucket.the_row cached_send), tt))
