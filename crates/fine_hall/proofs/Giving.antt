-- How a pass goes on as it gives a place back.
use Rattle.std.proofs.Common.{◌≡◌, ◌⊎◌, ℕ, ◌+◌, ◌<◌, ◌≤◌, ◌==◌, true, false, cond, List, [], ◌∷◌, ◌++◌, length, set, Option, Some, None, option_map, refl, sym, ap, ◌∙◌, subst, arith, eq-eqb, append-nil, length-set, length-append, true≢false, le_trans}
use Rattle.std.proofs.lemmas.List.Elements.{filter-append}
use mathlib.Core.Option.{some-injective}
use lib.ListN.{get_elem?}
use Rattle.std.specs.declared.snapshot.Snapshot.{Snapshot}
use Rattle.atomic_table.specs.Seated.{TableId}
use Rattle.fine_model.specs.declared.Entry.{Entry}
use Rattle.fine_model.specs.declared.Row.{Row}
use Rattle.fine_model.specs.declared.law.Origin.{Origin}
use Rattle.fine_model.specs.declared.law.RoomState.{RoomState}
use Rattle.fine_model.specs.declared.law.ViewState.{ViewState}
use Rattle.fine_model.specs.Buckets.{Began, IsBucketFor}
use Rattle.fine_model.specs.Faults.{last_count}
use Rattle.fine_model.specs.History.{Commit, IsLegal}
use Rattle.fine_model.specs.Nodes.{Content}
use Rattle.fine_places.specs.declared.model.Placed.{Placed}
use Rattle.fine_places.specs.declared.model.Known.{Known}
use Rattle.fine_places.specs.History as places
use Rattle.fine_places.specs.History.{touching, by_seat}
use Rattle.fine_places.specs.Places.{share, placed, first_seat, grown, giving}
use Rattle.fine_places.specs.Telling.{GivesIt, given_back}
use Rattle.fine_places.proofs.Lists.{whole, set_at}
use Rattle.atomic_table.proofs.Lists.{set_else}
use Rattle.fine_boxes.specs.declared.model.TurnNote.{TurnNote}
use Rattle.fine_boxes.specs.declared.model.Reads.{Reads}
use Rattle.fine_boxes.specs.Boxes.{Owes, given}
use Rattle.fine_hall.specs.declared.turn.Turn.{Turn}
use Rattle.fine_hall.specs.declared.law.Beginning.{Beginning}
use Rattle.fine_hall.specs.declared.law.Load.{Load}
use Rattle.fine_hall.specs.declared.law.Load.TheVariants as load
use Rattle.fine_hall.specs.declared.pass.Pass.{Pass}
use Rattle.fine_hall.specs.Turns.{added, commits, is_some_in, touches_bucket, places_more, IsOfOpenEpoch, IsTurnFrom}
use Rattle.fine_hall.specs.Laws.{AreTurns, CountsEpochs, IsRoomFor, Stands, IsAbove, IsAboveEpoch, in_hand_of, adds, board_in, sealed_in, backs_in}
use Rattle.fine_hall.specs.Passes.{PassView, first_mine, known, reads, turns, own_turns, seen, published, last_room, HasPlace, IsHolder, IsPass}
use Rattle.fine_hall.specs.Halls.{turn_of, Gives, GivesRoom, MayGive, MayGiveRoom}
use Rattle.fine_hall.proofs.Bucket.{for_touching}
use Rattle.fine_hall.proofs.Turning.{after_last, rooms_more, commits_one, places_after}
use Rattle.fine_hall.proofs.Passing.{keeps_turns, known_is, reads_is, has, keeps_front, keeps_holder, alone, seen_is, published_is, next_pass, at_bucket, at_the_room}

module _ {R B V : Type 0} (state : R → RoomState) (origin : R → Origin) (stands_for : R → List Row → ℕ → List Commit → Type 0) (bucket : B → ℕ) (cached : B → ℕ → Option (Content × ℕ)) (is_settled : B → Type 0)
    (view : V → ViewState) (z : TableId) (x : Beginning) (p : Pass V) (v : PassView) (ok : IsPass view z x p) (e : p.badge.views ≡ v ∷ []) where
  abbrev Meant : Beginning → ℕ → ℕ → Load R B V → List (Placed Turn) → Type 0
  Meant = Stands state origin stands_for bucket cached is_settled

  abbrev Owed : Beginning → ℕ → List (Placed Turn) → Option Turn → Reads Turn → Load R B V → Type 0
  Owed = Owes (board_in state) (sealed_in state) backs_in IsAbove (λ turn. turn.returned)

  seen_here : v.places.seen ≡ turns p
  seen_here = seen_is view z x p v ok e

  published_here : v.places.published ≡ published p
  published_here = published_is view z x p v ok e

  -- ---- a bucket

  pub may_give_bucket : (k : ℕ) (b : B) → k < places.room → IsBucketFor bucket cached is_settled x.log k (published p) b (seen p) → GivesIt Meant AreTurns touches_bucket (adds state) Owed x k v (load.Bucket b)
  may_give_bucket k b near s = record {
    bucket = λ _. refl;
    item = tt;
    stood = (
      near,
      for_touching bucket cached is_settled x k v.places.published b v.places.seen near
          (subst (λ q. IsBucketFor bucket cached is_settled x.log k q b (commits v.places.seen)) (sym published_here) (subst (λ l. IsBucketFor bucket cached is_settled x.log k (published p) b (commits l)) (sym seen_here) s)),
    );
    owed = λ is. absurd (omega arith);
  }

  module _ (p' : Pass V) (t' : p'.badge.table_id ≡ z) (n' : p'.number ≡ p.number) (front' : (p'.front ≡ p.front) × (p'.buffer ≡ p.buffer) × (p'.backs ≡ p.backs)) where
    module _ (k : ℕ) (b : B) (near : k < places.room) (e' : p'.badge.views ≡ given_back {T = Load R B V} (adds state) (λ y thing. given y) v k (load.Bucket b) ∷ []) where
      now_known : known p' ≡ giving (known p) k None
      now_known = known_is p' _ e' ∙ ap (λ (u : Known Beginning Turn). giving u k None) (sym (known_is p v e))

      same_reads : reads p' ≡ reads p
      same_reads = reads_is p' _ e' ∙ (at_bucket k (given v.beside) v.beside (λ is. omega arith) ∙ sym (reads_is p v e))

      pub gives_bucket : Gives k p p'
      gives_bucket = record {
        held = ap (λ (u : Known Beginning Turn). u.held) now_known;
        same_published = ap (λ (u : Known Beginning Turn). u.published) now_known;
        keeps = keeps_turns p p' _ refl refl refl now_known same_reads front';
      }

      same_room : HasPlace p' places.room → HasPlace p places.room
      same_room h = sym (ap (λ (u : Known Beginning Turn). get_elem? u.held places.room) now_known ∙ set_else (known p).held k places.room false (λ is. omega arith)) ∙ h

      pub given_bucket_pass : IsPass view z x p'
      given_bucket_pass = next_pass view z x p v ok e p' _ e' n' (own_turns p) t' refl refl (alone view z x p v ok e) (length-set v.places.held k false)
          (subst (AreTurns x) (sym seen_here) ok.lawful) (ok.own ∙ ap (by_seat p.number) (sym seen_here))
          (keeps_front view p p' (ap (λ (y : Reads Turn). y.notes) same_reads) n' front'.0 front'.1 ok.front)
          (λ h. let t = ok.holder (same_room h) in (t.0, keeps_holder x p p' t.0 (ap (λ (y : Reads Turn). y.turn) same_reads) front'.2 gives_bucket.same_published t.1))

  -- ---- the room

  module _ (room : R) (note : Option (Snapshot Entry)) (epoch : ℕ) (backs : List ℕ) (backs_here : backs ≡ p.backs) (held : HasPlace p places.room) where
    abbrev entry : Option Entry
    entry = option_map (λ n. n.value) note

    abbrev thing : Load R B V
    thing = load.Room room note epoch backs

    abbrev item : Turn
    item = turn_of entry epoch (state room) (in_hand_of v.beside.turn)

    abbrev step : Placed Turn
    step = placed v.places.shares item

    module _ (t : TurnNote) (h : IsHolder x p t) where
      turn_here : v.beside.turn ≡ Some t
      turn_here = ap (λ (y : Reads Turn). y.turn) (sym (reads_is p v e)) ∙ h.turn

      hand_here : in_hand_of v.beside.turn ≡ t.in_hand
      hand_here = ap in_hand_of turn_here

      seat_here : step.seat ≡ p.number
      seat_here = ap first_seat (alone view z x p v ok e)

      step_is : step ≡ record { seat = p.number; item = turn_of entry epoch (state room) t.in_hand }
      step_is = λ i. record { seat = seat_here i; item = turn_of entry epoch (state room) (hand_here i) }

      module _ (m : MayGiveRoom state origin stands_for x room entry epoch t p) where
        legal_after : (o : Option Entry) → MayGive x (state room) o epoch p → (f : ℕ) (first : List Row) → Began x.log f first → IsLegal first (seen p ++ added o epoch)
        legal_after None may f first began = subst (IsLegal first) (sym (append-nil (seen p))) (ok.lawful.legal f first began)
        legal_after (Some y) may f first began = may.legal f first began

        held_after : (o : Option Entry) → MayGive x (state room) o epoch p → (j : ℕ) → j < places.room → is_some_in j o ≡ true → HasPlace p j
        held_after None may j near is = absurd (true≢false (sym is))
        held_after (Some y) may j near is = may.touched j near is

        open_after : (o : Option Entry) → MayGive x (state room) o epoch p → IsOfOpenEpoch item o
        open_after None may = tt
        open_after (Some y) may = may.open_epoch

        above_after : (o : Option Entry) → MayGive x (state room) o epoch p → IsAboveEpoch t.top epoch o
        above_after None may = tt
        above_after (Some y) may = let is = may.open_epoch in let top = m.top in omega arith

        goes_on : IsTurnFrom (last_room x p) step
        goes_on = record {
          becomes = m.becomes;
          job = λ other. m.job (λ is. other (seat_here ∙ is));
          counted = subst (λ n. ((last_room x p).faults + n ≤ (state room).faults) ⊎ (last_count ≤ (state room).faults)) (sym hand_here) m.counted;
          places = m.places;
          open_epoch = open_after entry m.commits;
        }

        abbrev later : List (Placed Turn)
        later = turns p ++ step ∷ []

        commits_after : commits later ≡ seen p ++ added entry epoch
        commits_after = commits_one (turns p) step

        places_of : (state room).places ≡ length (commits later)
        places_of = m.places ∙ (ap (λ n. places_more n entry) ok.lawful.places ∙ (places_after (length (seen p)) entry epoch ∙ (sym (length-append (seen p) (added entry epoch)) ∙ ap length (sym commits_after))))

        turns_after : AreTurns x later
        turns_after = record {
          legal = λ f first began. subst (IsLegal first) (sym commits_after) (legal_after entry m.commits f first began);
          rooms = rooms_more x.room (turns p) step ok.lawful.rooms goes_on;
          places = ap (λ (r : RoomState). r.places) (after_last x.room (turns p) step) ∙ places_of;
        }

        stands_after : IsRoomFor state origin stands_for x (published p) room later
        stands_after = record {
          log = m.log;
          last = sym (after_last x.room (turns p) step);
          stands = λ f first began. subst (stands_for room first f) (sym commits_after) (m.stands f first began);
          places = places_of;
          epochs = subst (CountsEpochs x (state room)) (sym commits_after) m.epochs;
          sealed = le_trans h.top m.top;
        }

        all_touch : (k : ℕ) → k ≡ places.room → (l : List (Placed Turn)) → touching touches_bucket k l ≡ l
        all_touch k is l = ap (λ j. touching touches_bucket j l) is ∙ whole touches_bucket l

        same_later : later ≡ v.places.seen ++ step ∷ []
        same_later = ap (λ l. l ++ step ∷ []) (sym seen_here)

        pub may_give_room : (k : ℕ) → k ≡ places.room → GivesIt Meant AreTurns touches_bucket (adds state) Owed x k v thing
        may_give_room k is = record {
          bucket = λ ne. absurd (ne is);
          item = record {
            lawful = subst (AreTurns x) same_later turns_after;
            room_held = has p v places.room e held;
            buckets_held = λ j near on. has p v j e (held_after entry m.commits j near on);
            seat = p.number;
            before = own_turns p;
            alone = alone view z x p v ok e;
          };
          stood = (
            is,
            subst (IsRoomFor state origin stands_for x v.places.published room) (sym (all_touch k is (v.places.seen ++ step ∷ [])))
                (subst (λ q. IsRoomFor state origin stands_for x q room (v.places.seen ++ step ∷ [])) (sym published_here) (subst (IsRoomFor state origin stands_for x (published p) room) same_later stands_after)),
          );
          owed = λ _. record {
            turn = t;
            is = turn_here;
            still = h.still;
            added = item;
            item_is = refl;
            board_is = m.board;
            backs_is = backs_here ∙ h.backs;
            top = m.top;
            later = above_after entry m.commits;
            counted = hand_here;
          };
        }

        module _ (p' : Pass V) (t' : p'.badge.table_id ≡ z) (n' : p'.number ≡ p.number) (front' : (p'.front ≡ p.front) × (p'.buffer ≡ p.buffer)) (k : ℕ) (is : k ≡ places.room)
            (e' : p'.badge.views ≡ given_back {T = Load R B V} (adds state) (λ y thing. given y) v k thing ∷ []) where
          now_room : known p' ≡ giving (known p) k (Some item)
          now_room = known_is p' _ e' ∙ ap (λ (u : Known Beginning Turn). giving u k (Some item)) (sym (known_is p v e))

          known_step : placed (known p).shares item ≡ step
          known_step = ap (λ (u : Known Beginning Turn). placed u.shares item) (known_is p v e)

          shares_after : v.places.shares ≡ share p.number (own_turns p) ∷ []
          shares_after = alone view z x p v ok e

          notes' : (reads p').notes ≡ (reads p).notes
          notes' = ap (λ (y : Reads Turn). y.notes) (reads_is p' _ e' ∙ at_the_room k (given v.beside) v.beside is) ∙ ap (λ (y : Reads Turn). y.notes) (sym (reads_is p v e))

          gone : ¬ HasPlace p' places.room
          gone hold = true≢false (some-injective _ _ (sym hold ∙ (ap (λ (u : Known Beginning Turn). get_elem? u.held places.room) now_room ∙ (ap (λ j. get_elem? (set (known p).held j false) places.room) is ∙ set_at (known p).held places.room true false held))))

          own_after : own_turns p' ≡ own_turns p ++ step ∷ []
          own_after = ap (λ (u : Known Beginning Turn). first_mine u.shares) (known_is p' _ e') ∙ ap (λ ss. first_mine (grown step ss)) shares_after

          by_more : by_seat p.number (turns p ++ step ∷ []) ≡ by_seat p.number (turns p) ++ step ∷ []
          by_more = filter-append (λ (t : Placed Turn). t.seat == p.number) (turns p) (step ∷ []) ∙ ap (λ b. by_seat p.number (turns p) ++ cond b (step ∷ []) []) (eq-eqb step.seat p.number seat_here)

          pub given_room_pass : IsPass view z x p'
          given_room_pass = next_pass view z x p v ok e p' _ e' n' (own_turns p ++ step ∷ []) t' refl refl (ap (grown step) shares_after) (length-set v.places.held k false)
              (subst (AreTurns x) same_later turns_after)
              (ap (λ l. l ++ step ∷ []) ok.own ∙ (sym by_more ∙ ap (by_seat p.number) same_later))
              (keeps_front view p p' notes' n' front'.0 front'.1 ok.front)
              (λ hold. absurd (gone hold))

          pub gives_room : GivesRoom (state room) entry epoch t p p'
          gives_room = record {
            held = ap (λ (u : Known Beginning Turn). u.held) now_room ∙ ap (λ j. set (known p).held j false) is;
            turns_more = ap (λ (u : Known Beginning Turn). u.seen) now_room ∙ ap (λ s. turns p ++ s ∷ []) (known_step ∙ step_is);
            own_more = own_after ∙ ap (λ s. own_turns p ++ s ∷ []) step_is;
            same_published = ap (λ (u : Known Beginning Turn). u.published) now_room;
            found = ap (λ (u : Known Beginning Turn). u.found) now_room;
            front = front';
            notes = notes';
          }
