-- A hall ends, and its views are taken back.
use Rattle.std.proofs.Common.{◌≡◌, inl, inr, ⊎_elim, ◌≤◌, true, List, [], ◌∷◌, ◌++◌, length, map, reverse, refl, sym, ap, ◌∙◌, subst, arith}
use Rattle.std.specs.Prelude.{IsPermutation}
use Rattle.std.specs.List.{AllByRecursion, list_all}
use Rattle.std.proofs.lemmas.List.Sorted.{length_permutation}
use Rattle.fine_model.specs.declared.law.RoomState.{RoomState}
use Rattle.fine_model.specs.Becomes.{Becomes}
use Rattle.fine_model.specs.Boards.{held_of, is_empty, named}
use Rattle.fine_model.specs.History.{upto}
use Rattle.partition_hold.specs.Views.{ViewValue, state_of}
use Rattle.epoch_room.specs.Meaning.{Stands, origin_of}
use Rattle.epoch_room.specs.Value.{RoomValue}
use Rattle.epoch_room.specs.Whole.{IsWhole}
use Rattle.epoch_room.proofs.Views.Seating.{empty_posted}
use Rattle.fine_boxes.specs.declared.model.Mark.{Mark}
use Rattle.fine_hall.specs.declared.law.Beginning.{Beginning}
use Rattle.fine_hall.specs.declared.turn.Turn.{Turn}
use Rattle.fine_hall.specs.Turns.{commits}
use Rattle.fine_hall.specs.Passes.{marks}
use Rattle.fine_hall.specs.Halls.{AreAllOnBoard, Closes}
use Rattle.fine_hall.proofs.Counting.{counts_stay}
use Rattle.hall_rooms.specs.Rooms.{RoomPass, room_state, room_log}
use Rattle.hall_rooms.specs.Boards.{Names, TakesBackAll, faults_of, with_views}
use Rattle.hall_rooms.specs.Closing.{ClosesHall}
use Rattle.hall_rooms.proofs.Naming.{names_all}

-- ---- no view is out

nothing : {A B : Type 0} (f : A → B) (l : List A) → 0 ≡ length (map f l) → l ≡ []
nothing f [] e = refl
nothing f (x ∷ l) e = absurd (omega (arith, e))

-- where the board is empty no eye is open
pub none_open : (room : RoomValue) → IsWhole room → list_all is_empty room.room.board ≡ true → room.room.eyes ≡ []
none_open room whole empty =
    let p = subst (λ l. IsPermutation (map named room.room.eyes) (map held_of l)) (empty_posted room.room.board empty) whole.board.eyes in
    nothing named room.room.eyes (length_permutation (map named room.room.eyes) [] p)

-- ---- the end

-- the board names the views that come back
pub closes_as : (x : Beginning) (passes : List RoomPass) (views : List ViewValue) (held room : RoomValue) → room ≡ held → Closes room_state room_log Stands state_of x passes views held → Closes room_state room_log Stands state_of x passes views room
closes_as x passes views held room is e = subst (Closes room_state room_log Stands state_of x passes views) (sym is) e

pub all_named : (x : Beginning) (passes : List RoomPass) (views back : List ViewValue) (room : RoomValue) → Closes room_state room_log Stands state_of x passes views room → back ≡ views → Names room.room.board (reverse back ++ [])
all_named x passes views back room e is = names_all room.room.board back (subst (λ l. AreAllOnBoard room.room.board (map state_of l)) (sym is) e.on_board)

pub closed : (x : Beginning) (passes : List RoomPass) (views : List ViewValue) (room new : RoomValue) → Closes room_state room_log Stands state_of x passes views room → Names new.room.board [] → TakesBackAll (faults_of views) room new → IsWhole new → ClosesHall x passes new
closed x passes views room new e names back whole = record {
  all = e.all;
  lawful = e.lawful;
  authors = e.authors;
  parts = e.parts;
  saw = e.saw;
  marked = λ i p at. subst (λ n. AllByRecursion (λ (k : Mark Turn). (upto (commits e.all) k.upto ≡ upto (commits k.seen) k.upto) × (k.upto ≤ n)) (marks p)) (sym sealed) (e.marks i p at);
  published = e.published;
  no_earlier = e.no_earlier;
  sealed = subst (λ n. e.published ≤ n) (sym sealed) e.stood.sealed;
  log = ap origin_of back.entry ∙ e.stood.log;
  stands = λ epoch first b. back.keeps.stands first epoch (commits e.all) (e.stood.stands epoch first b);
  epochs = counts_stay x room.room new.room (commits e.all) e.stood.epochs sealed (ap (λ (r : RoomState). r.waiting) back.room);
  places = ap (λ (r : RoomState). r.places) back.room ∙ e.stood.places;
  last = back.room ∙ ap (λ r. with_views r new.room) e.stood.last;
  becomes = subst (λ r. Becomes r new.room) e.stood.last back.keeps.becomes;
  board = names;
  no_eyes = none_open new whole names;
  no_job = ap (λ (r : RoomState). r.job) back.room ∙ e.no_job;
  whole = whole;
  high = let h = e.high in let b = back.high in omega (arith, h, b);
  low = ⊎_elim (λ b. ⊎_elim (λ l. inl (omega (arith, b, l))) (λ l. inr (let up = back.keeps.becomes.faults in omega (arith, l, up))) e.low) (λ b. inr b) back.low;
}
  where
    sealed : new.room.sealed ≡ room.room.sealed
    sealed = ap (λ (r : RoomState). r.sealed) back.room
