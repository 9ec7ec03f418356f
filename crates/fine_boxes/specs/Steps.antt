-- What each step at a mailbox, and at the published word, is allowed: the statements of the step lemmas.
use Rattle.std.specs.Prelude.{◌≡◌, ℕ, suc, ◌+◌, ◌*◌, ◌<◌, ◌≤◌, List, [], ◌∷◌, slice_index, Bool, true, false, Option, Some, None, if◌then◌else◌}
use Rattle.atomic_table.specs.Table.{State}
use Rattle.fine_model.specs.declared.law.ViewState.{ViewState}
use Rattle.fine_model.specs.declared.law.OpenedEye.{OpenedEye}
use Rattle.fine_model.specs.Views.{counting}
use Rattle.fine_places.specs.declared.model.Placed.{Placed}
use Rattle.fine_places.specs.declared.model.View.{View}
use Rattle.fine_places.specs.History.{room}
use Rattle.fine_places.specs.Places.{Holds, knowing}
use Rattle.fine_places.specs.Beside.{AllowsBeside, Stays, Takes, Gives, Splits, Joins}
use Rattle.fine_places.specs.Telling.{Sees}
use Rattle.fine_boxes.specs.declared.model.BoxNote.{BoxNote}
use Rattle.fine_boxes.specs.declared.model.TurnNote.{TurnNote}
use Rattle.fine_boxes.specs.declared.model.Reads.{Reads}
use Rattle.fine_boxes.specs.Boxes.{bit, mailbox, slot, published_word, Keeps, Learns, Owes, taking, given, cut_left, cut_right, both, nothing}
use Rattle.fine_boxes.specs.Telling.{with_note, landing, Looked, Refreshed, FetchedBack, MayPost, Posted}

module _ {T X N : Type 0} (kept : X → ℕ → List (Placed N) → State (Option T) (View X N (Reads N)) → Type 0) (legal : X → List (Placed N) → Type 0) (touches : ℕ → N → Bool)
    (seats : X → ℕ) (view : T → Option ViewState) (shows : X → List (Placed N) → ViewState → Type 0) (x : X) (slots id : ℕ) where
  -- kind 10: the own mailbox is looked at; where it is fresh, the empty slot of the front comes into hand
  abbrev pub LooksStep : Type 0
  LooksStep = (v : View X N (Reads N)) (c : List (ℕ × Option T)) (m : BoxNote N) (i : ℕ) → v.beside.notes ≡ m ∷ [] → m.seat ≡ suc i → m.is_out ≡ false
      → AllowsBeside legal touches kept x slots id (v, c) (mailbox i) (λ n. n) (λ r after. (middle : ℕ) × (fresh : Bool) × (r ≡ 2 * middle + bit fresh) × (middle < 3)
      × Looked legal touches shows m fresh v after.0 × (after.1 ≡ (if fresh then (slot i m.front.buffer, None) ∷ c else c)))

  -- kind 11: the front, which is in the slot in hand, and the middle are exchanged
  abbrev pub SwapsStep : Type 0
  SwapsStep = (v : View X N (Reads N)) (y : T) (c : List (ℕ × Option T)) (m : BoxNote N) (i n : ℕ) → v.beside.notes ≡ m ∷ [] → m.seat ≡ suc i → m.found_fresh ≡ true → m.is_out ≡ true → view y ≡ Some (counting m.front n)
      → AllowsBeside legal touches kept x slots id (v, (slot i m.front.buffer, Some y) ∷ c) (mailbox i) (λ _. 2 * m.front.buffer) (λ r after. (z : T) × (new : ViewState) × (view z ≡ Some new) × (r ≡ 2 * new.buffer + 1)
      × Refreshed legal touches shows m n new v after.0 × (after.1 ≡ (slot i new.buffer, Some z) ∷ c))

  -- kind 6 at a view's slot: the empty slot of the front goes home
  abbrev pub LandsStep : Type 0
  LandsStep = (v : View X N (Reads N)) (c : List (ℕ × Option T)) (m : BoxNote N) (i : ℕ) → v.beside.notes ≡ m ∷ [] → m.seat ≡ suc i → m.is_out ≡ true
      → AllowsBeside legal touches kept x slots id (v, (slot i m.front.buffer, None) ∷ c) (mailbox i) (λ n. n) (λ _ after. (after.0 ≡ record { places = v.places; beside = with_note v.beside (landing m) }) × (after.1 ≡ c))

  -- kind 5: the back slot of a seat comes into the hand of who holds the room
  abbrev pub FetchesBackStep : Type 0
  FetchesBackStep = (v : View X N (Reads N)) (c : List (ℕ × Option T)) (t : TurnNote) (i : ℕ) → Holds v.places room → v.beside.turn ≡ Some t → t.out ≡ None → i < seats x
      → AllowsBeside legal touches kept x slots id (v, c) (mailbox i) (λ n. n) (λ _ after. FetchedBack t i v after.0 × (after.1 ≡ (slot i (slice_index t.backs i), None) ∷ c))

  -- kind 9: the view in hand is posted, and the old middle is in hand
  abbrev pub PostsStep : Type 0
  PostsStep = (v : View X N (Reads N)) (y : T) (new : ViewState) (c : List (ℕ × Option T)) (t : TurnNote) (i : ℕ) → i < seats x → Holds v.places room → v.beside.turn ≡ Some t → t.out ≡ Some i → view y ≡ Some new → MayPost shows x t i v.places.seen new
      → AllowsBeside legal touches kept x slots id (v, (slot i new.buffer, Some y) ∷ c) (mailbox i) (λ _. 2 * new.buffer + 1) (λ r after. (z : T) × (old : ViewState) × (fresh : Bool) × (view z ≡ Some old) × (r ≡ 2 * old.buffer + bit fresh)
      × Posted t i new old v after.0 × (after.1 ≡ (slot i old.buffer, Some z) ∷ c))

  -- kind 6 at a back slot: the empty slot goes home
  abbrev pub LandsBackStep : Type 0
  LandsBackStep = (v : View X N (Reads N)) (c : List (ℕ × Option T)) (t : TurnNote) (i : ℕ) → i < seats x → Holds v.places room → v.beside.turn ≡ Some t → t.out ≡ Some i
      → AllowsBeside legal touches kept x slots id (v, (slot i (slice_index t.backs i), None) ∷ c) (mailbox i) (λ n. n) (λ _ after. (after.0 ≡ record { places = v.places; beside = record v.beside { turn = Some (record t { out = None }) } }) × (after.1 ≡ c))

  -- kind 12: the published number is written by who holds the room, after each seat was posted a view up to it
  abbrev pub PublishesStep : Type 0
  PublishesStep = (v : View X N (Reads N)) (c : List (ℕ × Option T)) (t : TurnNote) (e : ℕ) → Holds v.places room → v.beside.turn ≡ Some t → v.places.published ≤ e → 0 < seats x → ((i : ℕ) → i < seats x → e ≤ slice_index t.posted i)
      → AllowsBeside legal touches kept x slots id (v, c) published_word (λ _. e) (λ _ after. (after.0 ≡ record { places = record v.places { published = e }; beside = v.beside }) × (after.1 ≡ c) × (e ≤ t.top))

  -- kind 13: it is read, and the history so far was seen
  abbrev pub ReadsStep : Type 0
  ReadsStep = (v : View X N (Reads N)) (c : List (ℕ × Option T))
      → AllowsBeside legal touches kept x slots id (v, c) published_word (λ n. n) (λ r after. (log : List (Placed N)) × (v.places.published ≤ r) × ((z : X) → v.places.about ≡ Some z → Sees legal touches z r v.places log) × (after.0 ≡ record { places = knowing v.places log r; beside = v.beside }) × (after.1 ≡ c))

  -- all of them
  pub record AllSteps : Type 0 where
    pub looks : LooksStep
    pub swaps : SwapsStep
    pub lands : LandsStep
    pub fetches_back : FetchesBackStep
    pub posts : PostsStep
    pub lands_back : LandsBackStep
    pub publishes : PublishesStep
    pub reads : ReadsStep

-- ---- the steps at the places, and all steps, for what the views keep

module _ {T X N : Type 0} (seats : X → ℕ) (view : T → Option ViewState) (board : T → List (Option OpenedEye)) (sealed : T → ℕ) (backs : T → List ℕ)
    (shows : X → List (Placed N) → ViewState → Type 0) (above : ℕ → N → Type 0) (returned : N → ℕ) where
  abbrev pub Kept : X → ℕ → List (Placed N) → State (Option T) (View X N (Reads N)) → Type 0
  Kept = Keeps seats view board sealed backs shows above returned

  pub record BoxesLaws : Type 0 where
    pub stays : Stays Kept
    pub takes : Takes Kept (taking board sealed backs) (Learns seats board sealed backs)
    pub gives : Gives Kept (λ y thing. given y) (Owes board sealed backs above returned)
    pub splits : Splits Kept cut_left cut_right
    pub joins : Joins Kept both nothing

  abbrev pub StepsLaw : (X → List (Placed N) → Type 0) → (ℕ → N → Bool) → Type 0
  StepsLaw legal touches = (x : X) (slots id : ℕ) → AllSteps Kept legal touches seats view shows x slots id
