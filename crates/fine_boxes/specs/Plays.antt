-- What each step at a mailbox tells its caller, of any note and any turn that the seat has.
use Rattle.std.specs.Prelude.{◌≡◌, ℕ, suc, ◌+◌, ◌-◌, ◌*◌, ◌<◌, ◌≤◌, List, [], ◌∷◌, slice_index, Bool, true, Option, Some, None, if◌then◌else◌}
use Rattle.atomic_table.specs.Table.{Me, Step, rest}
use Rattle.atomic_table.specs.Seated.{TableId}
use Rattle.fine_model.specs.declared.law.ViewState.{ViewState}
use Rattle.fine_model.specs.Views.{counting}
use Rattle.fine_places.specs.declared.model.Placed.{Placed}
use Rattle.fine_places.specs.declared.model.View.{View}
use Rattle.fine_places.specs.History.{room}
use Rattle.fine_places.specs.Places.{knowing}
use Rattle.fine_places.specs.Telling.{Sees}
use Rattle.fine_boxes.specs.declared.model.BoxNote.{BoxNote}
use Rattle.fine_boxes.specs.declared.model.TurnNote.{TurnNote}
use Rattle.fine_boxes.specs.declared.model.Reads.{Reads}
use Rattle.fine_boxes.specs.Boxes.{bit, mailbox, slot}
use Rattle.fine_boxes.specs.Telling.{with_note, landing, Looked, Refreshed, FetchedBack, MayPost, Posted}

-- the table has the words and the slots of so many seats' boxes
abbrev pub HasBoxes : ℕ → TableId → Type 0
HasBoxes seats z = (suc (suc room) + seats ≤ z.words) × (suc room + 3 * seats ≤ z.slots)

-- a seat has one number, and this note of it
abbrev pub HasNote : {N : Type 0} → Reads N → ℕ → BoxNote N → Type 0
HasNote y number m = (y.notes ≡ m ∷ []) × (m.seat ≡ number)

-- What a refresh asks: the mailbox was found fresh, the slot of the front is in hand, and of the front at most the count of faults changed.
pub record MayRefresh {T X N : Type 0} (view : T → Option ViewState) (number buffer : ℕ) (thing : T) (me : Me (Option T) (View X N (Reads N))) : Type 0 where
  pub note : BoxNote N
  pub own : HasNote me.0.beside number note
  pub count : ℕ
  pub is_front : view thing ≡ Some (counting note.front count)
  pub at : note.front.buffer ≡ buffer
  pub found : note.found_fresh ≡ true
  pub out : note.is_out ≡ true
  pub hand : me.1 ≡ (slot (number - 1) buffer, None) ∷ []

-- What a post asks of who holds the room, which knows the back of the seat, and of the view.
pub record MayPostIt {T X N : Type 0} (view : T → Option ViewState) (shows : X → List (Placed N) → ViewState → Type 0) (x : X) (number back : ℕ) (thing : T) (v : View X N (Reads N)) : Type 0 where
  pub turn : TurnNote
  pub is : v.beside.turn ≡ Some turn
  pub still : turn.out ≡ None
  pub known : slice_index turn.backs (number - 1) ≡ back
  pub new : ViewState
  pub is_new : view thing ≡ Some new
  pub may : MayPost shows x turn (number - 1) v.places.seen new

-- a view up to the number was posted to each seat in this turn
pub record MayPublish {N : Type 0} (seats number : ℕ) (y : Reads N) : Type 0 where
  pub turn : TurnNote
  pub is : y.turn ≡ Some turn
  pub posted : (i : ℕ) → i < seats → number ≤ slice_index turn.posted i

-- the published number was read, and the history so far seen
pub record ReadIt {X N : Type 0} (legal : X → List (Placed N) → Type 0) (touches : ℕ → N → Bool) (number : ℕ) (v w : View X N (Reads N)) : Type 0 where
  pub log : List (Placed N)
  pub no_earlier : v.places.published ≤ number
  pub places : w.places ≡ knowing v.places log number
  pub beside : w.beside ≡ v.beside
  pub sees : (x : X) → v.places.about ≡ Some x → Sees legal touches x number v.places log

-- the published number was written, which is none above the top of the turn
pub record WroteIt {X N : Type 0} (number : ℕ) (v w : View X N (Reads N)) : Type 0 where
  pub is : w ≡ record { places = record v.places { published = number }; beside = v.beside }
  pub top : (t : TurnNote) → v.beside.turn ≡ Some t → number ≤ t.top

module _ {T X N : Type 0} (legal : X → List (Placed N) → Type 0) (touches : ℕ → N → Bool) (view : T → Option ViewState) (shows : X → List (Placed N) → ViewState → Type 0) where
  abbrev pub M : Type 0
  M = Me (Option T) (View X N (Reads N))

  abbrev pub looked : Step (Option T) → M → ℕ → M → Type 0
  looked st me r me' = (m : BoxNote N) (i : ℕ) → me.0.beside.notes ≡ m ∷ [] → m.seat ≡ suc i
      → (middle : ℕ) × (fresh : Bool) × (r ≡ 2 * middle + bit fresh) × (middle < 3) × Looked legal touches shows m fresh me.0 me'.0 × (me'.1 ≡ (if fresh then (slot i m.front.buffer, None) ∷ me.1 else me.1))

  abbrev pub swapped : Step (Option T) → M → ℕ → M → Type 0
  swapped st me r me' = (m : BoxNote N) (i n : ℕ) (y : T) → me.0.beside.notes ≡ m ∷ [] → m.seat ≡ suc i → view y ≡ Some (counting m.front n) → me.1 ≡ (slot i m.front.buffer, Some y) ∷ rest me.1
      → (z : T) × (new : ViewState) × (view z ≡ Some new) × (r ≡ 2 * new.buffer + 1) × Refreshed legal touches shows m n new me.0 me'.0 × (me'.1 ≡ (slot i new.buffer, Some z) ∷ rest me.1)

module _ {T X N : Type 0} where
  abbrev pub landed : Step (Option T) → Me (Option T) (View X N (Reads N)) → ℕ → Me (Option T) (View X N (Reads N)) → Type 0
  landed st me r me' = (m : BoxNote N) → me.0.beside.notes ≡ m ∷ [] → (me'.0 ≡ record { places = me.0.places; beside = with_note me.0.beside (landing m) }) × (me'.1 ≡ rest me.1)

  abbrev pub fetched_back : Step (Option T) → Me (Option T) (View X N (Reads N)) → ℕ → Me (Option T) (View X N (Reads N)) → Type 0
  fetched_back st me r me' = (t : TurnNote) (i : ℕ) → me.0.beside.turn ≡ Some t → st.word ≡ mailbox i → FetchedBack t i me.0 me'.0 × (me'.1 ≡ (slot i (slice_index t.backs i), None) ∷ me.1)

  abbrev pub posted : (T → Option ViewState) → Step (Option T) → Me (Option T) (View X N (Reads N)) → ℕ → Me (Option T) (View X N (Reads N)) → Type 0
  posted view st me r me' = (t : TurnNote) (i : ℕ) (y : T) (new : ViewState) → me.0.beside.turn ≡ Some t → t.out ≡ Some i → view y ≡ Some new → me.1 ≡ (slot i new.buffer, Some y) ∷ rest me.1
      → (z : T) × (old : ViewState) × (fresh : Bool) × (view z ≡ Some old) × (r ≡ 2 * old.buffer + bit fresh) × Posted t i new old me.0 me'.0 × (me'.1 ≡ (slot i old.buffer, Some z) ∷ rest me.1)

  abbrev pub landed_back : Step (Option T) → Me (Option T) (View X N (Reads N)) → ℕ → Me (Option T) (View X N (Reads N)) → Type 0
  landed_back st me r me' = (t : TurnNote) → me.0.beside.turn ≡ Some t → (me'.0 ≡ record { places = me.0.places; beside = record me.0.beside { turn = Some (record t { out = None }) } }) × (me'.1 ≡ rest me.1)

  abbrev pub published : Step (Option T) → Me (Option T) (View X N (Reads N)) → ℕ → Me (Option T) (View X N (Reads N)) → Type 0
  published st me r me' = WroteIt st.first me.0 me'.0 × (me'.1 ≡ me.1)

  abbrev pub read : (X → List (Placed N) → Type 0) → (ℕ → N → Bool) → Step (Option T) → Me (Option T) (View X N (Reads N)) → ℕ → Me (Option T) (View X N (Reads N)) → Type 0
  read legal touches st me r me' = ReadIt legal touches r me.0 me'.0 × (me'.1 ≡ me.1)
