-- How a hall of rooms ends.
use Rattle.std.specs.Prelude.{◌≡◌, ◌⊎◌, ℕ, ◌+◌, ◌<◌, ◌≤◌, true, List, [], ◌++◌, length, None, All, sum_by}
use Rattle.std.specs.List.{AllByRecursion, list_all}
use mathlib.Core.Option.{some}
use lib.ListN.{get_elem?}
use Rattle.fine_model.specs.declared.Row.{Row}
use Rattle.fine_model.specs.Becomes.{Becomes}
use Rattle.fine_model.specs.Boards.{is_empty}
use Rattle.fine_model.specs.Buckets.{Began}
use Rattle.fine_model.specs.Faults.{last_count}
use Rattle.fine_model.specs.History.{upto}
use Rattle.partition_hold.specs.Views.{state_of}
use Rattle.epoch_room.specs.Meaning.{Stands, origin_of}
use Rattle.epoch_room.specs.Value.{RoomValue}
use Rattle.epoch_room.specs.Whole.{IsWhole}
use Rattle.fine_places.specs.History.{by_seat}
use Rattle.fine_places.specs.declared.model.Placed.{Placed}
use Rattle.fine_boxes.specs.declared.model.Mark.{Mark}
use Rattle.fine_hall.specs.declared.law.Beginning.{Beginning}
use Rattle.fine_hall.specs.declared.turn.Turn.{Turn}
use Rattle.fine_hall.specs.Turns.{commits, room_after}
use Rattle.fine_hall.specs.Laws.{AreTurns, CountsEpochs}
use Rattle.fine_hall.specs.Passes.{turns, own_turns, known, marks, troubles}
use Rattle.hall_rooms.specs.Rooms.{RoomPass}
use Rattle.hall_rooms.specs.Boards.{with_views}

-- There is one list of turns, which begins with what each pass saw; the room that comes back is that of the last turn, with all views taken back
-- and their faults counted, and stands for the list.
pub record ClosesHall (x : Beginning) (passes : List RoomPass) (room : RoomValue) : Type 0 where
  pub all : List (Placed Turn)
  pub lawful : AreTurns x all
  pub authors : All (λ t. (0 < t.seat) × (t.seat ≤ x.seats)) all
  pub parts : (i : ℕ) (p : RoomPass) → get_elem? passes i ≡ some p → own_turns p ≡ by_seat p.number all
  pub saw : (i : ℕ) (p : RoomPass) → get_elem? passes i ≡ some p → (more : List (Placed Turn)) × (all ≡ turns p ++ more)
  pub marked : (i : ℕ) (p : RoomPass) → get_elem? passes i ≡ some p → AllByRecursion (λ (k : Mark Turn). (upto (commits all) k.upto ≡ upto (commits k.seen) k.upto) × (k.upto ≤ room.room.sealed)) (marks p)
  pub published : ℕ
  pub no_earlier : (i : ℕ) (p : RoomPass) → get_elem? passes i ≡ some p → (known p).published ≤ published
  pub sealed : published ≤ room.room.sealed
  pub log : origin_of room.entry ≡ x.log
  pub stands : (e : ℕ) (first : List Row) → Began x.log e first → Stands room first e (commits all)
  pub epochs : CountsEpochs x room.room (commits all)
  pub places : room.room.places ≡ length (commits all)
  pub last : room.room ≡ with_views (room_after x.room all) room.room
  pub becomes : Becomes (room_after x.room all) room.room
  pub board : list_all is_empty room.room.board ≡ true
  pub no_eyes : room.room.eyes ≡ []
  pub no_job : room.room.job ≡ None
  pub whole : IsWhole room
  pub high : room.room.faults ≤ x.room.faults + sum_by (troubles state_of x) passes
  pub low : (x.room.faults + sum_by (troubles state_of x) passes ≤ room.room.faults) ⊎ (last_count ≤ room.room.faults)
