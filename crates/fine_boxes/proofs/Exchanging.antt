-- What is told of a refresh and of a post as a whole, by what its steps tell.
use Rattle.std.proofs.Common.{◌≡◌, ℕ, suc, ◌+◌, ◌-◌, ◌*◌, ◌<◌, List, [], ◌∷◌, length, slice_index, Bool, Option, Some, None, sym, refl, ap, ◌∙◌, subst, get_or-set_same}
use mathlib.Core.Option.{none}
use Rattle.atomic_table.specs.Table.{Me, Step, step, rest}
use Rattle.fine_model.specs.declared.law.ViewState.{ViewState}
use Rattle.fine_model.specs.Views.{counting}
use Rattle.fine_places.specs.declared.model.Placed.{Placed}
use Rattle.fine_places.specs.declared.model.View.{View}
use Rattle.fine_boxes.specs.declared.model.BoxNote.{BoxNote}
use Rattle.fine_boxes.specs.declared.model.TurnNote.{TurnNote}
use Rattle.fine_boxes.specs.declared.model.Reads.{Reads}
use Rattle.fine_boxes.specs.Boxes.{bit, mailbox, slot}
use Rattle.fine_boxes.specs.Telling.{with_note, refreshing, landing, posting, Refreshed, FetchedBack, MayPost, Posted}
use Rattle.fine_boxes.specs.Plays.{MayPostIt, fetched_back, swapped, landed, posted, landed_back}

module _ {T X N : Type 0} (legal : X → List (Placed N) → Type 0) (touches : ℕ → N → Bool) (view : T → Option ViewState) (shows : X → List (Placed N) → ViewState → Type 0) where
  abbrev M : Type 0
  M = Me (Option T) (View X N (Reads N))

  -- what is told does not depend on the step
  abbrev any : Step (Option T)
  any = step 0 0 0 0 none

  -- what the swap of a refresh tells of the seat as it was before its front was moved into the slot
  pub swap_tells : (before me after : M) (k h r : ℕ) (y : T) → me ≡ (before.0, (k, Some y) ∷ rest before.1) → before.1 ≡ (h, None) ∷ [] → swapped legal touches view shows any me r after
      → (m : BoxNote N) (i n : ℕ) → before.0.beside.notes ≡ m ∷ [] → m.seat ≡ suc i → k ≡ slot i m.front.buffer → view y ≡ Some (counting m.front n)
      → (z : T) × (new : ViewState) × (view z ≡ Some new) × (r ≡ 2 * new.buffer + 1) × Refreshed legal touches shows m n new before.0 after.0 × (after.1 ≡ (slot i new.buffer, Some z) ∷ [])
  swap_tells before me after k h r y moved hand told m i n is number there shown =
      subst (λ (z : M). swapped legal touches view shows any z r after) (moved ∙ ap (λ (l : List (ℕ × Option T)). (before.0, (k, Some y) ∷ rest l)) hand) told m i n y is number shown (λ j. (there j, Some y) ∷ [])

  -- the slot went home too
  pub refreshed_whole : (v w : View X N (Reads N)) (me after : M) (m : BoxNote N) (n : ℕ) (new : ViewState) → Refreshed legal touches shows m n new v w → me.0 ≡ w → landed any me 0 after
      → Refreshed legal touches shows (landing m) n new v after.0
  refreshed_whole v w me after m n new t same told =
      let l = told (refreshing m new n t.log) (ap (λ (z : View X N (Reads N)). z.beside.notes) same ∙ ap (λ (y : Reads N). y.notes) t.beside) in
      let beside = ap (λ (z : View X N (Reads N)). z.beside) same ∙ t.beside in record {
        log = t.log;
        published = t.published;
        no_earlier = t.no_earlier;
        places = ap (λ (z : View X N (Reads N)). z.places) l.0 ∙ (ap (λ (z : View X N (Reads N)). z.places) same ∙ t.places);
        beside = ap (λ (z : View X N (Reads N)). z.beside) l.0 ∙ ap (λ (y : Reads N). with_note y (landing (refreshing m new n t.log))) beside;
        place = t.place;
        clean = t.clean;
        later = t.later;
        reaches = t.reaches;
        sees = t.sees;
        on_board = t.on_board;
      }

  -- ---- posting

  -- a view may be posted as well once the back slot is in hand
  pub may_still : (x : X) (t : TurnNote) (i : ℕ) (seen : List (Placed N)) (new : ViewState) (o : Option ℕ) → MayPost shows x t i seen new → MayPost shows x (record t { out = o }) i seen new
  may_still x t i seen new o m = record { seat = m.seat; within = m.within; empty = m.empty; shown = m.shown; clean = m.clean; later = m.later }

  -- once the back slot is in hand, it is that of the new view's buffer
  pub fetch_tells : (x : X) (start loaded : M) (n w number back : ℕ) (y : T) (o : MayPostIt view shows x number back y start.0) → start.1 ≡ [] → w ≡ mailbox (number - 1) → fetched_back (step n w 0 0 none) start 0 loaded
      → FetchedBack o.turn (number - 1) start.0 loaded.0 × (loaded.1 ≡ (slot (number - 1) (slice_index o.turn.backs (number - 1)), None) ∷ []) × (o.new.buffer ≡ back)
  fetch_tells x start loaded n w number back y o still word told =
      let f = told o.turn (number - 1) o.is word in
      (f.0, f.1 ∙ ap (λ (l : List (ℕ × Option T)). (slot (number - 1) (slice_index o.turn.backs (number - 1)), None) ∷ l) still, f.0.only o.new.buffer o.may.within o.may.empty ∙ o.known)

  -- what the load and the swap of a post tell together
  pub record PostTold (t : TurnNote) (i back r : ℕ) (new : ViewState) (start loaded after : M) : Type 0 where
    pub fetched : FetchedBack t i start.0 loaded.0
    pub hand : loaded.1 ≡ (slot i (slice_index t.backs i), None) ∷ []
    pub buffer : new.buffer ≡ back
    pub thing : T
    pub old : ViewState
    pub fresh : Bool
    pub is_old : view thing ≡ Some old
    pub found : r ≡ 2 * old.buffer + bit fresh
    pub told : Posted (record t { out = Some i }) i new old loaded.0 after.0
    pub in_hand : after.1 ≡ (slot i old.buffer, Some thing) ∷ []

  pub post_tells : (x : X) (start loaded filled after : M) (n w k r number back : ℕ) (y : T) (o : MayPostIt view shows x number back y start.0) → start.1 ≡ [] → w ≡ mailbox (number - 1) → fetched_back (step n w 0 0 none) start 0 loaded
      → k ≡ slot (number - 1) back → filled ≡ (loaded.0, (k, Some y) ∷ rest loaded.1) → posted view any filled r after
      → PostTold o.turn (number - 1) back r o.new start loaded after
  post_tells x start loaded filled after n w k r number back y o still word fetch there moved post =
      let i : ℕ = number - 1 in
      let f = fetch_tells x start loaded n w number back y o still word fetch in
      let at_new : k ≡ slot i o.new.buffer = there ∙ ap (slot i) (sym f.2) in
      let p = subst (λ (z : M). posted view any z r after) (moved ∙ ap (λ (l : List (ℕ × Option T)). (loaded.0, (k, Some y) ∷ rest l)) f.1) post (record o.turn { out = Some i }) i y o.new
      (ap (λ (z : Reads N). z.turn) f.0.beside) refl o.is_new (λ j. (at_new j, Some y) ∷ []) in record {
        fetched = f.0;
        hand = f.1;
        buffer = f.2;
        thing = p.0;
        old = p.1;
        fresh = p.2;
        is_old = p.3;
        found = p.4;
        told = p.5;
        in_hand = p.6;
      }

  -- the back of the seat is the old middle's buffer
  pub back_now : (t : TurnNote) (i b : ℕ) (new old : ViewState) → i < length t.backs → slice_index (posting t i b new old).backs i ≡ old.buffer
  back_now t i b new old lt = get_or-set_same t.backs i old.buffer 0 lt

  pub posted_whole : (v w u : View X N (Reads N)) (me after : M) (t : TurnNote) (i : ℕ) (new old : ViewState) → t.out ≡ None → FetchedBack t i v w → Posted (record t { out = Some i }) i new old w u → me.0 ≡ u → landed_back any me 0 after
      → Posted t i new old v after.0
  posted_whole v w u me after t i new old still f q same told =
      let t₁ : TurnNote = record t { out = Some i } in
      let turn : me.0.beside ≡ record v.beside { turn = Some (posting t₁ i new.buffer new old) } = ap (λ (z : View X N (Reads N)). z.beside) same ∙ (q.beside ∙ ap (λ (y : Reads N). record y { turn = Some (posting t₁ i new.buffer new old) }) f.beside) in
      let l = told (posting t₁ i new.buffer new old) (ap (λ (y : Reads N). y.turn) turn) in record {
        places = ap (λ (z : View X N (Reads N)). z.places) l.0 ∙ (ap (λ (z : View X N (Reads N)). z.places) same ∙ (q.places ∙ f.places));
        beside = ap (λ (z : View X N (Reads N)). z.beside) l.0 ∙ (ap (λ (y : Reads N). record y { turn = Some (record (posting t₁ i new.buffer new old) { out = None }) }) turn
            ∙ ap (λ (o : Option ℕ). record v.beside { turn = Some (record (posting t i new.buffer new old) { out = o }) }) (sym still));
        place = q.place;
        on_board = q.on_board;
        apart = q.apart;
      }
