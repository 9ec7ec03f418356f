-- What a held room and a held bucket end as, once a borrow of them has ended.
use Rattle.std.specs.Borrow.{Lends, Fml, RattleType, MutBor}
use Rattle.log_disk.specs.declared.LogDisk as LogDisk
use Rattle.log_disk.specs.declared.LogEye as LogEye
use Rattle.node_cache.specs.Cache.{Cache}
use Rattle.node_cache.specs.contracts.Bucket as bucket
use Rattle.epoch_room.specs.Value.{RoomValue}
use Rattle.epoch_room.specs.contracts.room.Room as room
use Rattle.hall_rooms.specs.contracts.held.HeldRoom as held
use Rattle.hall_rooms.specs.contracts.held.HeldBucket as held_bucket

-- it is what is written last through r
abbrev pub LendsRoom : (D E : RattleType) → LogDisk.Ghosts D.Denot E.Denot → LogEye.Ghosts E.Denot → MutBor RoomValue → MutBor RoomValue → Fml
LendsRoom D E d e h r = Lends (held.the_row D E d e) (room.the_row D E d e) h r (λ w. w)

-- so of a bucket
abbrev pub LendsBucket : MutBor Cache → MutBor Cache → Fml
LendsBucket h r = Lends held_bucket.the_row bucket.the_row h r (λ w. w)
