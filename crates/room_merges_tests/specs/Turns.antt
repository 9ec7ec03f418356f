-- A merge that is out of a room, step by step, with a view of both parts.
use Rattle.std.specs.Prelude.{◌≡◌, Bool, true, false, [], ◌∷◌, Contains, None, Some, Result, Ok, Err}
use Rattle.fine_model.specs.declared.Header.{Header}
use Rattle.fine_model.specs.declared.Job.{Job}
use Rattle.fine_model.specs.Jobs.{KeepsJob}
use Rattle.fine_model.specs.Regions.{body_len}
use Rattle.partition_hold.specs.Views.{ViewValue, opened}
use Rattle.partition_merge.specs.Blocks.{BlocksValue}
use Rattle.epoch_room.specs.MergeSteps.{fresh_job}
use Rattle.epoch_room.specs.Value.{RoomValue}
use Rattle.room_merges.specs.Merging.{HoldsBody, Measures}
use Rattle.room_merges.specs.Pairs.{measure_in}
use Rattle.room_merges.specs.Work.{IsWriting}

-- the only view of a room, in the first buffer of the first seat
pub record IsAt (value : RoomValue) (view : ViewValue) : Type 0 where
  pub place : (view.seat ≡ 1) × (view.buffer ≡ 0)
  pub board : value.room.board ≡ Some (opened view.eye) ∷ None ∷ None ∷ []
  pub region_len : view.region_len ≡ value.room.region_len

-- a job is out of a room, and the only view, which are both to come home
pub record AreOut (value : RoomValue) (view : ViewValue) (job : Job) : Type 0 where
  pub at : IsAt value view
  pub out : value.room.job ≡ Some job

-- a job is out of a room, and a view has both of its parts
pub record IsOutWith (value : RoomValue) (view : ViewValue) (job : Job) : Type 0 where
  pub at : IsAt value view
  pub out : value.room.job ≡ Some job
  pub older : Contains view.parts job.older
  pub newer : Contains view.parts job.newer

-- it has taken no regions yet, and the room is open
pub record IsPicked (value : RoomValue) (view : ViewValue) (job : Job) : Type 0 where
  pub with_view : IsOutWith value view job
  pub opened : value.room.is_shut ≡ false
  pub fresh : job ≡ fresh_job (job.older, job.newer)

-- it has taken regions for the merged rows, and nothing is written
pub record IsTaken (value : RoomValue) (view : ViewValue) (job : Job) (header : Header) : Type 0 where
  pub with_view : IsOutWith value view job
  pub opened : value.room.is_shut ≡ false
  pub taken : job.header ≡ Some header
  pub none : job.written ≡ 0
  pub measured : Measures view job.older job.newer (measure_in header)

-- blocks of its body were written, and others are left
pub record IsUnderway (value : RoomValue) (view : ViewValue) (blocks : BlocksValue) (job : Job) (header : Header) : Type 0 where
  pub with_view : IsOutWith value view job
  pub opened : value.room.is_shut ≡ false
  pub taken : job.header ≡ Some header
  pub measured : Measures view job.older job.newer (measure_in header)
  pub writing : IsWriting value view blocks job

-- the body of the merged rows stands in its target
pub record IsWritten (value : RoomValue) (view : ViewValue) (job : Job) (header : Header) : Type 0 where
  pub with_view : IsOutWith value view job
  pub taken : job.header ≡ Some header
  pub total : job.written ≡ body_len header
  pub measured : Measures view job.older job.newer (measure_in header)
  pub body : HoldsBody value view job

-- ---- how steps end

-- others may have had a turn behind a block; or the whole body stands in the target; or the merge is stopped
abbrev pub EndsTurn : {E : Type 0} → Header → RoomValue → ViewValue → BlocksValue → Job → Result Bool E → Type 0
EndsTurn header value view blocks job (Ok true) = IsUnderway value view blocks job header
EndsTurn header value view blocks job (Ok false) = IsWritten value view job header
EndsTurn header value view blocks job (Err e) = AreOut value view job

-- the part is sealed, and the view is out still; or the job is too
abbrev pub Merges : {E : Type 0} → RoomValue → ViewValue → Job → Result (Unit {0}) E → Type 0
Merges value view job (Ok u) = IsAt value view × (value.room.job ≡ None)
Merges value view job (Err e) = AreOut value view job

-- others had turns: the board is as it was, and so are the job and what its target holds
pub record HadTurns (old new : RoomValue) : Type 0 where
  pub board : new.room.board ≡ old.room.board
  pub region_len : new.room.region_len ≡ old.room.region_len
  pub job : KeepsJob old.room new.room
