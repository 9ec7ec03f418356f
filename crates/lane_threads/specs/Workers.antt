-- Workers of lanes, before and after their threads.
use Rattle.std.specs.Prelude.{◌≡◌, ℕ, ◌<◌, ◌≤◌, List, length, slice_index_or}
use Rattle.fine_model.specs.declared.Options.{Options}
use Rattle.fine_model.specs.declared.ScriptTxn.{ScriptTxn}
use Rattle.fine_model.specs.Bounds.{FitsScript}
use Rattle.fine_model.specs.RowBytes.{longest_region}
use Rattle.node_cache.specs.Cache.{Cache}
use Rattle.partition_hold.specs.Views.{ViewValue}
use Rattle.epoch_room.specs.Value.{RoomValue}
use Rattle.fine_hall.specs.Halls.{HallOf}
use Rattle.hall_rooms.specs.Rooms.{RoomPass, beginning_of}
use Rattle.txn_engine.specs.Txns.{IsBlankTxn}
use Rattle.lane_laws.specs.Lanes.{HasFull, LaneEnds, LaneSoFar}
use Rattle.lane_runs.specs.Lane.{is_aside}
use Rattle.lane_threads.specs.declared.worker.Part.{Part}
use Rattle.lane_threads.specs.declared.worker.Worker.{Worker}

-- the script and the options are such as a run takes, and the regions are no longer than the format has them
pub record MayRun {Q : Type 0} (hall : HallOf RoomValue Cache ViewValue Q) (script : List ScriptTxn) (options : Options) : Type 0 where
  pub region : (beginning_of hall).room.region_len ≤ longest_region
  pub fits : FitsScript script
  pub group : 1 ≤ options.group

-- a worker whose lane goes on
pub record IsWorker {Q D E : Type 0} (hall : HallOf RoomValue Cache ViewValue Q) (script : List ScriptTxn) (group : ℕ) (w : Worker D E) : Type 0 where
  pub so_far : LaneSoFar hall script group w.pass w.part.lane
  pub none_full : HasFull w.part.lane → ⊥
  pub blank : IsBlankTxn w.part.txn

-- a part came to its end with this pass
pub record HasStoppedWith {Q : Type 0} (hall : HallOf RoomValue Cache ViewValue Q) (script : List ScriptTxn) (group : ℕ) (p : RoomPass) (part : Part) : Type 0 where
  pub ends : LaneEnds hall script group p part.lane (is_aside part.stop)
  pub none_full : HasFull part.lane → ⊥
  pub blank : IsBlankTxn part.txn

-- a worker came to its end, in its own seat and lane
pub record HasStopped {Q D E : Type 0} (hall : HallOf RoomValue Cache ViewValue Q) (script : List ScriptTxn) (group : ℕ) (old new : Worker D E) : Type 0 where
  pub stopped : HasStoppedWith hall script group new.pass new.part
  pub number : new.pass.number ≡ old.pass.number
  pub lane : new.part.lane.lane ≡ old.part.lane.lane

abbrev pub CanAllRun : {Q D E : Type 0} → HallOf RoomValue Cache ViewValue Q → List ScriptTxn → ℕ → List (Worker D E) → Type 0
CanAllRun hall script group workers = (i : ℕ) (w : Worker _ _) → i < length workers → IsWorker hall script group (slice_index_or workers i w)

-- so it is of all, in their order
pub record HaveStopped {Q D E : Type 0} (hall : HallOf RoomValue Cache ViewValue Q) (script : List ScriptTxn) (group : ℕ) (old new : List (Worker D E)) : Type 0 where
  pub count : length new ≡ length old
  pub each : (i : ℕ) (w : Worker D E) → i < length old → HasStopped hall script group (slice_index_or old i w) (slice_index_or new i w)
