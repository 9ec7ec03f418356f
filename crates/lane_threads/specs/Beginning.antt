-- The passes of a hall that begins.
use Rattle.std.specs.Prelude.{◌≡◌, ℕ, ◌+◌, List, [], length, slice_get, Some, None}
use mathlib.Core.Option.{some}
use lib.ListN.{get_elem?}
use Rattle.partition_hold.specs.Views.{ViewValue, state_of}
use Rattle.node_cache.specs.Cache.{Cache}
use Rattle.epoch_room.specs.Value.{RoomValue}
use Rattle.fine_hall.specs.declared.law.Beginning.{Beginning}
use Rattle.fine_hall.specs.Halls.{HallOf}
use Rattle.fine_hall.specs.Passes.{own_turns, troubles, turns}
use Rattle.hall_rooms.specs.Rooms.{IsIdle, RoomPass, beginning_of}
use Rattle.lane_threads.specs.declared.worker.Part.{Part}
use Rattle.lane_threads.specs.declared.worker.Worker.{Worker}

-- nothing waits in the room with which a hall began, and no merge is out
pub record BeginsFresh (x : Beginning) : Type 0 where
  pub no_job : x.room.job ≡ None
  pub none_wait : x.room.waiting ≡ 0
  pub none_used : x.room.used ≡ 0
  pub none_placed : x.room.places ≡ 0

-- a pass that saw no turn, holds nothing and met no fault
pub record IsNewPass {Q : Type 0} (hall : HallOf RoomValue Cache ViewValue Q) (number : ℕ) (p : RoomPass) : Type 0 where
  pub idle : IsIdle hall p
  pub numbered : p.number ≡ number
  pub seen_none : turns p ≡ []
  pub mine_none : own_turns p ≡ []
  pub clean : troubles state_of (beginning_of hall) p ≡ 0

-- passes of all seats, from the greatest number down
abbrev pub AreNewPasses : {Q : Type 0} → HallOf RoomValue Cache ViewValue Q → List RoomPass → Type 0
AreNewPasses hall passes = (i n : ℕ) (p : RoomPass) → get_elem? passes i ≡ some p → n + i + 1 ≡ length passes → IsNewPass hall (n + 1) p

-- each part has the pass of its seat
pub record GetPasses {Q D E : Type 0} (hall : HallOf RoomValue Cache ViewValue Q) (parts : List Part) (workers : List (Worker D E)) : Type 0 where
  pub count : length workers ≡ length parts
  pub each : (k : ℕ) (w : Worker D E) → slice_get workers k ≡ Some w → IsNewPass hall (k + 2) w.pass
  pub same : (k : ℕ) (w : Worker D E) → slice_get workers k ≡ Some w → slice_get parts k ≡ Some w.part
