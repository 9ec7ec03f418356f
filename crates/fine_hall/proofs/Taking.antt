-- How a pass goes on as it takes the room.
use Rattle.std.proofs.Common.{◌≡◌, ℕ, ◌+◌, ◌-◌, ◌*◌, ◌≤◌, List, [], ◌∷◌, length, slice_get, Option, Some, refl, sym, ap, ◌∙◌, subst, arith, zero-le}
use lib.ListN.{length-replicate}
use Rattle.std.specs.List.{AllByRecursion}
use Rattle.std.specs.declared.snapshot.Snapshot.{Snapshot}
use Rattle.atomic_table.specs.Seated.{TableId}
use Rattle.fine_model.specs.declared.Entry.{Entry}
use Rattle.fine_model.specs.declared.Row.{Row}
use Rattle.fine_model.specs.declared.law.Origin.{Origin}
use Rattle.fine_model.specs.declared.law.RoomState.{RoomState}
use Rattle.fine_model.specs.declared.law.ViewState.{ViewState}
use Rattle.fine_model.specs.History.{Commit}
use Rattle.fine_model.specs.Jobs.{KeepsJob}
use Rattle.fine_model.specs.Nodes.{Content}
use Rattle.fine_places.specs.declared.model.Placed.{Placed}
use Rattle.fine_places.specs.History as places
use Rattle.fine_places.specs.History.{by_seat}
use Rattle.fine_places.specs.Telling.{TookIt}
use Rattle.fine_places.proofs.Lists.{zeros}
use Rattle.fine_boxes.specs.declared.model.TurnNote.{TurnNote}
use Rattle.fine_boxes.specs.declared.model.Reads.{Reads}
use Rattle.fine_boxes.specs.Boxes.{Learns, LearnsNote, taking, beginning}
use Rattle.fine_hall.specs.declared.turn.Turn.{Turn}
use Rattle.fine_hall.specs.declared.law.Beginning.{Beginning}
use Rattle.fine_hall.specs.declared.law.Load.{Load}
use Rattle.fine_hall.specs.declared.law.Load.TheVariants as load
use Rattle.fine_hall.specs.declared.pass.Pass.{Pass}
use Rattle.fine_hall.specs.Turns.{touches_bucket, room_after}
use Rattle.fine_hall.specs.Laws.{AreTurns, IsRoomFor, Stands, board_in, sealed_in, backs_in}
use Rattle.fine_hall.specs.Passes.{PassView, reads, turns, published, last_room, front_of, view_of, HasFront, IsHolder, IsPass}
use Rattle.fine_hall.specs.Halls.{SeesMore, Takes, Waits, TakesRoom, FindsHeld}
use Rattle.fine_hall.proofs.Meaning.{found_room}
use Rattle.fine_hall.proofs.Passing.{reads_is, at_the_room, found, sees_taken, taking_pass, taken_keeps_front, takes_place, reads', stood}
use Rattle.fine_hall.proofs.Turning.{keeps_job}

-- what a pass had told of its front as it was is told of it as it is
module _ {V : Type 0} (view : V → ViewState) (p : Pass V) (f : HasFront view p) where
  pub front_is : front_of view p ≡ view f.there
  front_is = ap (view_of view) f.is_there

  pub eye_is : (front_of view p).eye ≡ f.note.front.eye
  eye_is = ap (λ (w : ViewState). w.eye) (front_is ∙ f.front)

  pub upto_is : (front_of view p).upto ≡ f.note.front.upto
  upto_is = ap (λ (w : ViewState). w.upto) (front_is ∙ f.front)

module _ {R B V : Type 0} (state : R → RoomState) (origin : R → Origin) (stands_for : R → List Row → ℕ → List Commit → Type 0) (bucket : B → ℕ) (cached : B → ℕ → Option (Content × ℕ)) (is_settled : B → Type 0) where
  abbrev Meant : Beginning → ℕ → ℕ → Load R B V → List (Placed Turn) → Type 0
  Meant = Stands state origin stands_for bucket cached is_settled

  abbrev Takings : Reads Turn → Load R B V → Reads Turn
  Takings = taking (board_in state) (sealed_in state) backs_in

  abbrev Learnt : Beginning → Reads Turn → Load R B V → Type 0
  Learnt = Learns (λ (x : Beginning). x.seats) (board_in state) (sealed_in state) backs_in

  module _ (view : V → ViewState) (z : TableId) (x : Beginning) (p p' : Pass V) (k : ℕ) (thing : Load R B V) (v v' : PassView) (ok : IsPass view z x p) (e : p.badge.views ≡ v ∷ []) (e' : p'.badge.views ≡ v' ∷ []) (t' : p'.badge.table_id ≡ z) (n' : p'.number ≡ p.number)
      (front' : (p'.front ≡ p.front) × (p'.buffer ≡ p.buffer)) (took : TookIt Meant AreTurns touches_bucket Takings Learnt k v thing v')
      (is : k ≡ places.room) (room : R) (entry : Option (Snapshot Entry)) (epoch : ℕ) (backs : List ℕ) (this : thing ≡ load.Room room entry epoch backs) (backs' : p'.backs ≡ backs) where
    pub room_for : IsRoomFor state origin stands_for x (published p') room (turns p')
    room_for = found_room state origin stands_for bucket cached is_settled x k (published p') thing room entry epoch backs (turns p') is this (stood Meant Takings Learnt view z x p p' k thing v v' ok e e' t' n' front' took)

    abbrev whole_room : Load R B V
    whole_room = load.Room room entry epoch backs

    abbrev turn : TurnNote
    turn = beginning (board_in state) (sealed_in state) backs_in whole_room

    learnt : Learnt x (reads p) whole_room
    learnt = subst (Learnt x (reads p)) this (subst (λ y. Learnt x y thing) (sym (reads_is p v e)) ((found Meant Takings Learnt view z x p p' k thing v v' ok e e' t' n' front' took).learnt is))

    reads_now : reads p' ≡ Takings (reads p) whole_room
    reads_now = reads' Meant Takings Learnt view z x p p' k thing v v' ok e e' t' n' front' took ∙ (at_the_room k (Takings (reads p) thing) (reads p) is ∙ ap (Takings (reads p)) this)

    holds_turn : IsHolder x p' turn
    holds_turn = record {
      turn = ap (λ (y : Reads Turn). y.turn) reads_now;
      backs = backs';
      still = refl;
      long = (learnt.long.0, subst (λ n. x.seats ≤ n) (sym (length-replicate (length backs) 0)) learnt.long.0, learnt.long.1);
      posted = λ i lt. subst (λ n. n ≤ (state room).sealed) (sym (zeros (length backs) i)) zero-le;
      top = room_for.sealed;
      empty = learnt.empty;
    }

    notes_now : (reads p').notes ≡ (reads p).notes
    notes_now = ap (λ (y : Reads Turn). y.notes) reads_now

    pub room_pass : IsPass view z x p'
    room_pass = taking_pass Meant Takings Learnt view z x p p' k thing v v' ok e e' t' n' front' took (taken_keeps_front Meant Takings Learnt view z x p p' k thing v v' ok e e' t' n' front' took notes_now) (λ _. (turn, holds_turn))

    own_front : LearnsNote (board_in state) (sealed_in state) whole_room ok.front.note
    own_front = (subst (AllByRecursion (LearnsNote (board_in state) (sealed_in state) whole_room)) ok.front.one learnt.fronts).0

    place_is : 3 * own_front.i + ok.front.note.front.buffer ≡ 3 * (p.number - 1) + p.buffer
    place_is = let number = sym own_front.number ∙ ok.front.seat in let buffer = ok.front.place.1 in
        let i : own_front.i ≡ p.number - 1 = omega arith in λ j. 3 * i j + buffer j

    sees : SeesMore p p'
    sees = sees_taken Meant Takings Learnt view z x p p' k thing v v' ok e e' t' n' front' took

    job_kept : p.number ≡ 1 → KeepsJob (last_room x p) (state room)
    job_kept one = let more = sees.longer.0 in let all = sees.longer.1 in
        subst (KeepsJob (last_room x p)) (sym (room_for.last ∙ ap (room_after x.room) all))
        (keeps_job x.room (turns p) more (subst (λ l. AreTurns x l) all room_pass.lawful).rooms (subst (λ n. by_seat n more ≡ []) one sees.longer.2))

    pub takes_room : TakesRoom view x (state room) p p'
    takes_room = record {
      takes = subst (λ j. Takes j p p') is (takes_place Meant Takings Learnt view z x p p' k thing v v' ok e e' t' n' front' took notes_now (λ near. absurd (omega (arith, near, is))));
      turn = turn;
      is_turn = holds_turn;
      board = refl;
      top = refl;
      none_posted = refl;
      none_in_hand = refl;
      on_board = ap (slice_get (state room).board) (sym place_is) ∙ (own_front.on_board ∙ ap (λ eye. Some (Some eye)) (sym (eye_is view p ok.front)));
      front_sealed = subst (λ n. n ≤ (state room).sealed) (sym (upto_is view p ok.front)) own_front.upto;
      same_job = job_kept;
    }

-- ---- tries that found the room held

module _ {V : Type 0} where
  pub waited : (x : Beginning) (k owner : ℕ) (p p' : Pass V) → FindsHeld x k owner p p' → Waits p p'
  waited x k owner p p' f = record { tried = (record { place = k; owner = owner } ∷ [], f.tried); places = f.places; views = f.views }
