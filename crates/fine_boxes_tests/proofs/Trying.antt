-- A turn of the one seat of the tests.
use Rattle.std.proofs.Common.{◌≡◌, ◌≢◌, ℕ, zero, suc, ◌+◌, ◌*◌, ◌<◌, ◌≤◌, List, [], ◌∷◌, slice_index, slice_set, Bool, true, false, Option, Some, None, Result, Ok, Err, sym, refl, ap, ◌∙◌, subst, arith, true≢false}
use lib.ListN.{get_elem?}
use Rattle.fine_model.specs.declared.law.ViewState.{ViewState}
use Rattle.fine_places.specs.declared.model.Placed.{Placed}
use Rattle.fine_places.specs.declared.model.Known.{Known}
use Rattle.fine_places.specs.declared.model.View.{View}
use Rattle.fine_places.specs.History.{room}
use Rattle.fine_places.specs.Places.{share, Holds}
use Rattle.fine_places.specs.Telling.{TookIt, GivesIt, at_room}
use Rattle.fine_boxes.specs.declared.model.TurnNote.{TurnNote}
use Rattle.fine_boxes.specs.declared.model.Reads.{Reads}
use Rattle.fine_boxes.specs.Boxes.{Learns, Owes, beginning, taking}
use Rattle.fine_boxes.specs.Telling.{posting, Posted}
use Rattle.fine_boxes.specs.Plays.{ReadIt, WroteIt, MayPostIt, MayPublish}
use Rattle.fine_boxes_tests.specs.Trial.{an_eye, state_in, trial_view, trial_board, trial_backs, TrialMe, Rests}
use Rattle.fine_places.proofs.Lists.{some_same, set_at}

abbrev U : Type 0
U = Unit {0}

abbrev TrialView : Type 0
TrialView = View U U (Reads U)

abbrev begun : ℕ → TurnNote
begun back = beginning trial_board (λ _. 5) trial_backs (Err back)

-- the seat has the room, in a turn that is this
pub record Turns (t : TurnNote) (v w : TrialView) : Type 0 where
  pub about : w.places.about ≡ Some tt
  pub still : w.places.moving ≡ None
  pub before : List (Placed U)
  pub alone : w.places.shares ≡ share 1 before ∷ []
  pub held : Holds w.places room
  pub notes : w.beside.notes ≡ v.beside.notes
  pub turn : w.beside.turn ≡ Some t

-- the places change in what the seat saw alone
turns_on : (t u : TurnNote) (v w z : TrialView) → Turns t v w → z.places.about ≡ w.places.about → z.places.moving ≡ w.places.moving → z.places.shares ≡ w.places.shares → z.places.held ≡ w.places.held → z.beside.notes ≡ w.beside.notes → z.beside.turn ≡ Some u → Turns u v z
turns_on t u v w z r about moving shares held notes turn = record {
  about = about ∙ r.about;
  still = moving ∙ r.still;
  before = r.before;
  alone = shares ∙ r.alone;
  held = ap (λ l. get_elem? l room) held ∙ r.held;
  notes = notes ∙ r.notes;
  turn = turn;
}

abbrev Took : TrialView → Result ℕ ℕ → TrialView → Type 0
Took = TookIt (λ _ _ _ _ _. Unit {0}) (λ _ _. Unit {0}) (λ _ _. false) (taking trial_board (λ _. 5) trial_backs) (Learns (λ _. 1) trial_board (λ _. 5) trial_backs) 256

pub after_take : (m : TrialMe) (thing : Result ℕ ℕ) (back : ℕ) (w : TrialView) → Rests m → Took m.0 thing w → thing ≡ Err back → Turns (begun back) m.0 w
unfolding at_room room
after_take m thing back w r t is =
    let beside : w.beside ≡ record m.0.beside { turn = Some (begun back) } = t.beside ∙ ap (λ (y : Result ℕ ℕ). taking trial_board (λ _. 5) trial_backs m.0.beside y) is in record {
      about = ap (λ (k : Known U U). k.about) t.places ∙ r.about;
      still = ap (λ (k : Known U U). k.moving) t.places;
      before = r.before;
      alone = ap (λ (k : Known U U). k.shares) t.places ∙ r.alone;
      held = ap (λ (k : Known U U). get_elem? k.held room) t.places ∙ set_at m.0.places.held room false true r.vacant;
      notes = ap (λ (y : Reads U). y.notes) beside;
      turn = ap (λ (y : Reads U). y.turn) beside;
    }

pub after_read : (t : TurnNote) (v w z : TrialView) (n : ℕ) → Turns t v w → ReadIt (λ _ _. Unit {0}) (λ _ _. false) n w z → Turns t v z
after_read t v w z n r d = turns_on t t v w z r (ap (λ (k : Known U U). k.about) d.places) (ap (λ (k : Known U U). k.moving) d.places) (ap (λ (k : Known U U). k.shares) d.places) (ap (λ (k : Known U U). k.held) d.places)
    (ap (λ (y : Reads U). y.notes) d.beside) (ap (λ (y : Reads U). y.turn) d.beside ∙ r.turn)

-- the back buffer is empty
pub may_post : (m : TrialMe) (thing : Result ℕ ℕ) (back : ℕ) (w z : TrialView) → Rests m → Took m.0 thing w → thing ≡ Err back → Turns (begun back) m.0 z → MayPostIt trial_view (λ _ _ _. Unit {0}) tt 1 back (Ok back) z
unfolding room
may_post m thing back w z r t is k =
    let learnt = subst (λ (y : Result ℕ ℕ). Learns (λ _. 1) trial_board (λ _. 5) trial_backs tt m.0.beside y) is ((t.found tt r.about).learnt refl) in
    let e = learnt.empty 0 (omega arith) in record {
      turn = begun back;
      is = k.turn;
      still = refl;
      known = refl;
      new = state_in back;
      is_new = refl;
      may = record { seat = refl; within = e.0; empty = e.1; shown = tt; clean = refl; later = omega arith };
    }

pub back_within : (m : TrialMe) (thing : Result ℕ ℕ) (back : ℕ) (w : TrialView) → Rests m → Took m.0 thing w → thing ≡ Err back → back < 3
unfolding room
back_within m thing back w r t is =
    let learnt = subst (λ (y : Result ℕ ℕ). Learns (λ _. 1) trial_board (λ _. 5) trial_backs tt m.0.beside y) is ((t.found tt r.about).learnt refl) in
    (learnt.empty 0 (omega arith)).0

pub after_post : (back : ℕ) (old : ViewState) (v w z : TrialView) → Turns (begun back) v w → Posted (begun back) 0 (state_in back) old w z → Turns (posting (begun back) 0 back (state_in back) old) v z
after_post back old v w z r p = turns_on (begun back) (posting (begun back) 0 back (state_in back) old) v w z r (ap (λ (k : Known U U). k.about) p.places) (ap (λ (k : Known U U). k.moving) p.places) (ap (λ (k : Known U U). k.shares) p.places)
    (ap (λ (k : Known U U). k.held) p.places) (ap (λ (y : Reads U). y.notes) p.beside) (ap (λ (y : Reads U). y.turn) p.beside)

pub may_publish : (back : ℕ) (old : ViewState) (v w : TrialView) → Turns (posting (begun back) 0 back (state_in back) old) v w → MayPublish 1 5 w.beside
may_publish back old v w r = record {
  turn = posting (begun back) 0 back (state_in back) old;
  is = r.turn;
  posted = λ i lt. let e : 0 ≡ i = omega arith in subst (λ j. 5 ≤ slice_index (5 ∷ []) j) e (omega arith);
}

pub after_publish : (t : TurnNote) (v w z : TrialView) (n : ℕ) → Turns t v w → WroteIt n w z → Turns t v z
after_publish t v w z n r d = turns_on t t v w z r (ap (λ (q : TrialView). q.places.about) d.is) (ap (λ (q : TrialView). q.places.moving) d.is) (ap (λ (q : TrialView). q.places.shares) d.is) (ap (λ (q : TrialView). q.places.held) d.is)
    (ap (λ (q : TrialView). q.beside.notes) d.is) (ap (λ (q : TrialView). q.beside.turn) d.is ∙ r.turn)

-- the board is that of a room whose back is the old middle's buffer
board_now : (a b : ℕ) → a < 3 → b < 3 → b ≢ a → trial_board (Err b) ≡ slice_set (slice_set (trial_board (Err a)) (3 * 0 + a) (Some an_eye)) (3 * 0 + b) None
board_now zero zero la lb ne = absurd (ne refl)
board_now zero (suc zero) la lb ne = refl
board_now zero (suc (suc zero)) la lb ne = refl
board_now zero (suc (suc (suc b))) la lb ne = absurd (omega arith)
board_now (suc zero) zero la lb ne = refl
board_now (suc zero) (suc zero) la lb ne = absurd (ne refl)
board_now (suc zero) (suc (suc zero)) la lb ne = refl
board_now (suc zero) (suc (suc (suc b))) la lb ne = absurd (omega arith)
board_now (suc (suc zero)) zero la lb ne = refl
board_now (suc (suc zero)) (suc zero) la lb ne = refl
board_now (suc (suc zero)) (suc (suc zero)) la lb ne = absurd (ne refl)
board_now (suc (suc zero)) (suc (suc (suc b))) la lb ne = absurd (omega arith)
board_now (suc (suc (suc a))) b la lb ne = absurd (omega arith)

no_faults : (r : Result ℕ ℕ) (old : ViewState) → trial_view r ≡ Some old → old.faults ≡ 0
no_faults (Ok b) old e = ap (λ (u : ViewState). u.faults) (sym (some_same (state_in b) old e))
no_faults (Err b) old e = absurd (none_is b old e)
  where
    test : Option ViewState → Bool
    test None = false
    test (Some v) = true

    none_is : (b : ℕ) (old : ViewState) → None ≢ Some old
    none_is b old e = true≢false (sym (ap test e))

pub may_give : (back : ℕ) (old : ViewState) (r : Result ℕ ℕ) (found : ℕ) (v w z : TrialView) → back < 3 → Posted (begun back) 0 (state_in back) old w z → trial_view r ≡ Some old → found ≡ old.buffer
    → (u : TrialView) → Turns (posting (begun back) 0 back (state_in back) old) v u
    → GivesIt (λ _ _ _ _ _. Unit {0}) (λ _ _. Unit {0}) (λ _ _. false) (λ _ _. Some tt) (Owes trial_board (λ _. 5) trial_backs (λ _ _. Unit {0}) (λ _. 0)) tt 256 u (Err found)
unfolding room
may_give back old r found v w z lt p is at u k = record {
  bucket = λ ne. absurd (ne refl);
  item = record { lawful = tt; room_held = k.held; buckets_held = λ j lt e. absurd (true≢false (sym e)); seat = 1; before = k.before; alone = k.alone };
  stood = tt;
  owed = λ _. record {
    turn = posting (begun back) 0 back (state_in back) old;
    is = k.turn;
    still = refl;
    added = tt;
    item_is = refl;
    board_is = ap (λ (b : ℕ). trial_board (Err b)) at ∙ board_now back old.buffer lt p.place.1 p.apart;
    backs_is = ap (λ (b : ℕ). b ∷ []) at;
    top = omega arith;
    later = tt;
    counted = (let f = no_faults r old is in omega arith);
  };
}
