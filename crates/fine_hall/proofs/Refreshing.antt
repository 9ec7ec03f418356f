-- How a pass goes on as it looks at its mailbox, and exchanges its front and its middle.
use Rattle.std.proofs.Common.{◌≡◌, ℕ, suc, ◌+◌, ◌-◌, ◌*◌, ◌≤◌, Bool, true, false, List, [], ◌∷◌, ◌++◌, length, Option, Some, None, refl, sym, ap, ◌∙◌, subst, arith, le_refl, le_trans, append_assoc}
use Rattle.std.specs.Prelude.{if◌then◌else◌, slice_get}
use lib.ListN.{get_elem?}
use Rattle.atomic_table.specs.Seated.{TableId}
use Rattle.fine_model.specs.declared.law.ViewState.{ViewState}
use Rattle.fine_model.specs.Views.{counting}
use Rattle.fine_places.specs.declared.model.Placed.{Placed}
use Rattle.fine_places.specs.declared.model.Known.{Known}
use Rattle.fine_places.specs.History as places
use Rattle.fine_places.specs.Places.{Holds, knowing}
use Rattle.fine_places.specs.Telling.{Sees}
use Rattle.fine_places.proofs.Lists.{some_same}
use Rattle.fine_boxes.specs.declared.model.BoxNote.{BoxNote}
use Rattle.fine_boxes.specs.declared.model.Reads.{Reads}
use Rattle.fine_boxes.specs.Boxes.{slot}
use Rattle.fine_boxes.specs.Plays.{MayRefresh}
use Rattle.fine_boxes.specs.Telling.{with_note, looking, landing, refreshing, Looked, Refreshed}
use Rattle.fine_hall.specs.declared.turn.Turn.{Turn}
use Rattle.fine_hall.specs.declared.law.Beginning.{Beginning}
use Rattle.fine_hall.specs.declared.law.Load.{Load}
use Rattle.fine_hall.specs.declared.law.Load.TheVariants as load
use Rattle.fine_hall.specs.declared.pass.Pass.{Pass}
use Rattle.fine_hall.specs.Turns.{commits, touches_bucket}
use Rattle.fine_hall.specs.Laws.{AreTurns, ShowsTurns, IsViewFor, view_in}
use Rattle.fine_hall.specs.Showing.{shows_anyway}
use Rattle.fine_hall.specs.Passes.{PassView, first_given, first_marks, first_looks, view_of, known, reads, seen, given_up, looks, marks, front_of, HasPlace, HasFront, IsPass}
use Rattle.fine_hall.specs.Halls.{Refreshes, FindsStale, IsAhead, LooksOnce, NamesFront}
use Rattle.fine_hall.proofs.Taking.{front_is, upto_is}
use Rattle.fine_hall.proofs.Passing.{known_is, reads_is, has, keeps_holder, about, still, seeing_pass, sees_more, same_number}

-- what was seen in two steps was seen
pub sees_twice : (x : Beginning) (q r : ℕ) (v : Known Beginning Turn) (log all : List (Placed Turn)) → Sees AreTurns touches_bucket x q v log → Sees AreTurns touches_bucket x r (knowing v log q) all → Sees AreTurns touches_bucket x r v all
sees_twice x q r v log all s t = record {
  lawful = t.lawful;
  longer = (s.longer.0 ++ t.longer.0, t.longer.1 ∙ (ap (λ l. l ++ t.longer.0) s.longer.1 ∙ append_assoc v.seen s.longer.0 t.longer.0));
  mine = t.mine;
  holds = λ k h. s.holds k h ∙ t.holds k h;
  holder = λ h. s.holder h ∙ t.holder h;
}

pub in_hand : {A : Type 0} (b : Bool) (l m : List A) → b ≡ true → m ≡ (if b then l else []) → m ≡ l
in_hand b l m is e = e ∙ ap (λ d. if d then l else []) is

module _ {V : Type 0} (view : V → ViewState) (z : TableId) (x : Beginning) (p : Pass V) (v : PassView) (ok : IsPass view z x p) (e : p.badge.views ≡ v ∷ []) where
  abbrev note : BoxNote Turn
  note = ok.front.note

  pub one_note : v.beside.notes ≡ ok.front.note ∷ []
  one_note = ap (λ (y : Reads Turn). y.notes) (sym (reads_is p v e)) ∙ ok.front.one

  turn_is : v.beside.turn ≡ (reads p).turn
  turn_is = ap (λ (y : Reads Turn). y.turn) (sym (reads_is p v e))

  looks_is : looks p ≡ note.looks
  looks_is = ap first_looks ok.front.one

  marks_is : marks p ≡ note.marks
  marks_is = ap first_marks ok.front.one

  given_is : given_up p ≡ note.given_up
  given_is = ap first_given ok.front.one

  own_number : ok.front.note.seat ≡ suc (p.number - 1)
  own_number = ok.front.seat ∙ (let low = ok.number.0 in omega arith)

  pub own_front : (front : V) → p.front ≡ Some front → Some (view front) ≡ Some (counting ok.front.note.front (view ok.front.there).faults)
  own_front front there = ap (λ (w : V). Some (view w)) (some_same front ok.front.there (sym there ∙ ok.front.is_there)) ∙ ap Some ok.front.front

  -- what a look tells, of the note of the pass
  pub own_look : (fresh : Bool) (w : PassView) (b : Bool) → b ≡ fresh → ((m : BoxNote Turn) → v.beside.notes ≡ m ∷ [] → Looked AreTurns touches_bucket ShowsTurns m b v w)
      → Looked AreTurns touches_bucket ShowsTurns ok.front.note fresh v w
  own_look fresh w b is looks = subst (λ d. Looked AreTurns touches_bucket ShowsTurns ok.front.note d v w) is (looks ok.front.note one_note)

  -- the mailbox was found not fresh
  module _ (p' : Pass V) (v' : PassView) (e' : p'.badge.views ≡ v' ∷ []) (t' : p'.badge.table_id ≡ z) (n' : p'.number ≡ p.number) (front' : (p'.front ≡ p.front) × (p'.buffer ≡ p.buffer) × (p'.backs ≡ p.backs))
      (l : Looked AreTurns touches_bucket ShowsTurns ok.front.note false v v') where
    told : Sees AreTurns touches_bucket x l.published v.places l.log × ShowsTurns x l.log note.front × (l.published ≤ note.front.upto)
    told = let s = l.sees x (about view z x p v ok e) in let t = s.1 refl in (s.0, t.0, t.1)

    stale_reads : reads p' ≡ with_note v.beside (looking note false)
    stale_reads = reads_is p' v' e' ∙ l.beside

    stale_notes : (reads p').notes ≡ looking note false ∷ []
    stale_notes = ap (λ (y : Reads Turn). y.notes) stale_reads

    stale_turn : (reads p').turn ≡ (reads p).turn
    stale_turn = ap (λ (y : Reads Turn). y.turn) stale_reads ∙ turn_is

    stale_known : known p' ≡ knowing (known p) l.log l.published
    stale_known = known_is p' v' e' ∙ (l.places ∙ ap (λ (u : Known Beginning Turn). knowing u l.log l.published) (sym (known_is p v e)))

    stale_held : (known p').held ≡ (known p).held
    stale_held = ap (λ (u : Known Beginning Turn). u.held) stale_known

    stale_front : HasFront view p'
    stale_front = record {
      note = looking note false;
      one = stale_notes;
      seat = ok.front.seat ∙ sym n';
      still = (refl, refl);
      there = ok.front.there;
      is_there = front'.0 ∙ ok.front.is_there;
      front = ok.front.front;
      no_lower = ok.front.no_lower;
      place = (ok.front.place.0 ∙ sym n', ok.front.place.1 ∙ sym front'.1);
    }

    stale_pass : IsPass view z x p'
    stale_pass = seeing_pass view z x p v ok e p' v' e' n' l.log l.published told.0 l.no_earlier (ap (λ (u : Known Beginning Turn). u.seen) l.places) (ap (λ (u : Known Beginning Turn). u.published) l.places) (ap (λ (u : Known Beginning Turn). u.shares) l.places) t'
        (ap (λ (u : Known Beginning Turn). u.about) l.places) (ap (λ (u : Known Beginning Turn). u.moving) l.places ∙ still view z x p v ok e) (ap (λ (u : Known Beginning Turn). length u.held) l.places) stale_front
        (λ h. let h' : HasPlace p places.room = sym (ap (λ l. get_elem? l places.room) stale_held) ∙ h in let t = ok.holder h' in
        (t.0, keeps_holder x p p' t.0 stale_turn front'.2 (same_number view z x p v ok e p' v' e' n' l.log l.published told.0 l.no_earlier (ap (λ (u : Known Beginning Turn). u.seen) l.places) (ap (λ (u : Known Beginning Turn). u.published) l.places) (ap (λ (u : Known Beginning Turn). u.shares) l.places) h') t.1))

    finds_stale : FindsStale p p'
    finds_stale = record {
      sees = sees_more view z x p v ok e p' v' e' n' l.log l.published told.0 l.no_earlier (ap (λ (u : Known Beginning Turn). u.seen) l.places) (ap (λ (u : Known Beginning Turn). u.published) l.places) (ap (λ (u : Known Beginning Turn). u.shares) l.places);
      same_held = stale_held;
      found = ap (λ (u : Known Beginning Turn). u.found) stale_known;
      looked = ap first_looks stale_notes ∙ ap (λ (l : List Bool). l ++ false ∷ []) (sym looks_is);
      same_marks = (ap first_marks stale_notes ∙ sym marks_is, ap first_given stale_notes ∙ sym given_is);
      turn = (stale_turn, front'.2);
      front = (front'.0, front'.1);
    }

    stale_ahead : IsAhead view x p'
    stale_ahead =
        let is : front_of view p' ≡ counting note.front (view ok.front.there).faults = ap (view_of view) (front'.0 ∙ ok.front.is_there) ∙ ok.front.front in record {
          shows = subst (IsViewFor x (seen p')) (sym is) (subst (λ (ts : List (Placed Turn)). IsViewFor x (commits ts) (counting note.front (view ok.front.there).faults)) (sym (ap (λ (u : Known Beginning Turn). u.seen) stale_known)) (shows_anyway x l.log note.front (view ok.front.there).faults told.1));
          reaches = subst (λ n. n ≤ (front_of view p').upto) (sym (ap (λ (u : Known Beginning Turn). u.published) stale_known)) (subst (λ (w : ViewState). l.published ≤ w.upto) (sym is) told.2);
        }

    stale_named : NamesFront view x p p'
    stale_named t held h =
        let named = l.on_board t (p.number - 1) (has p v places.room e held) (turn_is ∙ h.turn) own_number in
        let is : front_of view p' ≡ counting note.front (view ok.front.there).faults = ap (view_of view) (front'.0 ∙ ok.front.is_there) ∙ ok.front.front in (
          ap (λ b. slice_get t.board (3 * (p.number - 1) + b)) (front'.1 ∙ sym ok.front.place.1) ∙ (named.0 ∙ ap (λ (w : ViewState). Some (Some w.eye)) (sym is)),
          subst (λ (w : ViewState). w.upto ≤ t.top) (sym is) named.1,
        )

    pub stale_looks : LooksOnce view z x p p' false
    stale_looks = record { pass = (stale_pass, n'); answer = finds_stale; ahead = stale_ahead; on_board = stale_named }

  -- the mailbox was found fresh
  module _ (w : PassView) (l : Looked AreTurns touches_bucket ShowsTurns ok.front.note true v w) where
    pub fresh_note : w.beside.notes ≡ looking ok.front.note true ∷ []
    fresh_note = ap (λ (y : Reads Turn). y.notes) l.beside

    pub may_refresh : {R B : Type 0} (number buffer : ℕ) (front : V) (hand : List (ℕ × Option (Load R B V))) → number ≡ p.number → buffer ≡ p.buffer → p.front ≡ Some front → hand ≡ (slot (number - 1) ok.front.note.front.buffer, None) ∷ []
        → MayRefresh (view_in view) number buffer (load.View front) (w, hand)
    may_refresh number buffer front hand nb bb there is = record {
      note = looking note true;
      own = (fresh_note, ok.front.seat ∙ sym nb);
      count = (view ok.front.there).faults;
      is_front = own_front front there;
      at = ok.front.place.1 ∙ sym bb;
      found = refl;
      out = refl;
      hand = is ∙ ap (λ b. (slot (number - 1) b, None) ∷ []) (ok.front.place.1 ∙ sym bb);
    }

    module _ (n : ℕ) (counted : n ≡ (view ok.front.there).faults) (new : ViewState) (u : PassView) (r : Refreshed AreTurns touches_bucket ShowsTurns (landing (looking ok.front.note true)) n new w u)
        (p' : Pass V) (e' : p'.badge.views ≡ u ∷ []) (t' : p'.badge.table_id ≡ z) (n' : p'.number ≡ p.number) (there : V) (is_there : p'.front ≡ Some there) (is_new : view there ≡ new) (buffer' : p'.buffer ≡ new.buffer) (backs' : p'.backs ≡ p.backs) where
      places' : u.places ≡ knowing v.places r.log r.published
      places' = r.places ∙ ap (λ (u : Known Beginning Turn). knowing u r.log r.published) l.places

      second : Sees AreTurns touches_bucket x r.published v.places r.log × ShowsTurns x r.log new
      second = let s = r.sees x (ap (λ (u : Known Beginning Turn). u.about) l.places ∙ about view z x p v ok e) in
          (sees_twice x l.published r.published v.places l.log r.log (l.sees x (about view z x p v ok e)).0 (subst (λ (u : Known Beginning Turn). Sees AreTurns touches_bucket x r.published u r.log) l.places s.0), s.1)

      later : v.places.published ≤ r.published
      later = le_trans l.no_earlier (subst (λ (u : Known Beginning Turn). u.published ≤ r.published) l.places r.no_earlier)

      abbrev now : BoxNote Turn
      now = refreshing (landing (looking note true)) new n r.log

      fresh_reads : reads p' ≡ with_note v.beside now
      fresh_reads = reads_is p' u e' ∙ (r.beside ∙ ap (λ (y : Reads Turn). with_note y now) l.beside)

      fresh_notes : (reads p').notes ≡ now ∷ []
      fresh_notes = ap (λ (y : Reads Turn). y.notes) fresh_reads

      fresh_turn : (reads p').turn ≡ (reads p).turn
      fresh_turn = ap (λ (y : Reads Turn). y.turn) fresh_reads ∙ turn_is

      fresh_known : known p' ≡ knowing (known p) r.log r.published
      fresh_known = known_is p' u e' ∙ (places' ∙ ap (λ (u : Known Beginning Turn). knowing u r.log r.published) (sym (known_is p v e)))

      fresh_held : (known p').held ≡ (known p).held
      fresh_held = ap (λ (u : Known Beginning Turn). u.held) fresh_known

      fresh_front : HasFront view p'
      fresh_front = record {
        note = now;
        one = fresh_notes;
        seat = ok.front.seat ∙ sym n';
        still = (refl, refl);
        there = there;
        is_there = is_there;
        front = is_new ∙ ap (λ (w : ViewState). counting new w.faults) (sym is_new);
        no_lower = subst (λ (w : ViewState). new.faults ≤ w.faults) (sym is_new) (le_refl new.faults);
        place = (r.place.0 ∙ (ok.front.seat ∙ sym n'), sym buffer');
      }

      fresh_pass : IsPass view z x p'
      fresh_pass = seeing_pass view z x p v ok e p' u e' n' r.log r.published second.0 later (ap (λ (u : Known Beginning Turn). u.seen) places') (ap (λ (u : Known Beginning Turn). u.published) places') (ap (λ (u : Known Beginning Turn). u.shares) places') t'
          (ap (λ (u : Known Beginning Turn). u.about) places') (ap (λ (u : Known Beginning Turn). u.moving) places' ∙ still view z x p v ok e) (ap (λ (u : Known Beginning Turn). length u.held) places') fresh_front
          (λ h. let h' : HasPlace p places.room = sym (ap (λ l. get_elem? l places.room) fresh_held) ∙ h in let t = ok.holder h' in
          (t.0, keeps_holder x p p' t.0 fresh_turn backs' (same_number view z x p v ok e p' u e' n' r.log r.published second.0 later (ap (λ (u : Known Beginning Turn). u.seen) places') (ap (λ (u : Known Beginning Turn). u.published) places') (ap (λ (u : Known Beginning Turn). u.shares) places') h') t.1))

      front_now : front_of view p' ≡ new
      front_now = ap (view_of view) is_there ∙ is_new

      fresh_refreshes : Refreshes view x p p'
      fresh_refreshes = record {
        sees = sees_more view z x p v ok e p' u e' n' r.log r.published second.0 later (ap (λ (u : Known Beginning Turn). u.seen) places') (ap (λ (u : Known Beginning Turn). u.published) places') (ap (λ (u : Known Beginning Turn). u.shares) places');
        same_held = fresh_held;
        found = ap (λ (u : Known Beginning Turn). u.found) fresh_known;
        later = subst (λ k. k ≤ (front_of view p').upto) (sym (upto_is view p ok.front)) (subst (λ (w : ViewState). note.front.upto ≤ w.upto) (sym front_now) r.later);
        clean = ap (λ (w : ViewState). w.faults) front_now ∙ r.clean;
        given_more = ap first_given fresh_notes ∙ ((λ i. sym given_is i + counted i) ∙ ap (λ (w : ViewState). given_up p + w.faults) (sym (front_is view p ok.front)));
        marked = ap first_marks fresh_notes ∙ (λ i. record { upto = (sym front_now i).upto; seen = sym (ap (λ (u : Known Beginning Turn). u.seen) fresh_known) i } ∷ sym marks_is i);
        looked = ap first_looks fresh_notes ∙ ap (λ (l : List Bool). l ++ true ∷ []) (sym looks_is);
        turn = (fresh_turn, backs');
      }

      fresh_ahead : IsAhead view x p'
      fresh_ahead = record {
        shows = subst (IsViewFor x (seen p')) (sym front_now) (subst (λ (ts : List (Placed Turn)). IsViewFor x (commits ts) new) (sym (ap (λ (u : Known Beginning Turn). u.seen) fresh_known)) second.1);
        reaches = subst (λ k. k ≤ (front_of view p').upto) (sym (ap (λ (u : Known Beginning Turn). u.published) fresh_known)) (subst (λ (w : ViewState). r.published ≤ w.upto) (sym front_now) r.reaches);
      }

      fresh_named : NamesFront view x p p'
      fresh_named t held h =
          let named = r.on_board t (p.number - 1) (subst (λ (k : Known Beginning Turn). Holds k places.room) (sym l.places) (has p v places.room e held)) (ap (λ (y : Reads Turn). y.turn) l.beside ∙ (turn_is ∙ h.turn)) own_number in (
            ap (λ b. slice_get t.board (3 * (p.number - 1) + b)) buffer' ∙ (named.0 ∙ ap (λ (w : ViewState). Some (Some w.eye)) (sym front_now)),
            subst (λ (w : ViewState). w.upto ≤ t.top) (sym front_now) named.1,
          )

      pub fresh_looks : LooksOnce view z x p p' true
      fresh_looks = record { pass = (fresh_pass, n'); answer = fresh_refreshes; ahead = fresh_ahead; on_board = fresh_named }
