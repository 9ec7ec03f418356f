-- What each step at a mailbox tells, and what it asks.
use Rattle.std.specs.Prelude.{◌≡◌, ◌≢◌, ℕ, suc, ◌+◌, ◌*◌, ◌<◌, ◌≤◌, List, [], ◌∷◌, ◌++◌, length, slice_index, slice_set, slice_get, Bool, false, Some, None}
use Rattle.fine_model.specs.declared.law.ViewState.{ViewState}
use Rattle.fine_places.specs.declared.model.Placed.{Placed}
use Rattle.fine_places.specs.declared.model.View.{View}
use Rattle.fine_places.specs.History.{room}
use Rattle.fine_places.specs.Places.{Holds, knowing}
use Rattle.fine_places.specs.Telling.{Sees}
use Rattle.fine_boxes.specs.declared.model.BoxNote.{BoxNote}
use Rattle.fine_boxes.specs.declared.model.TurnNote.{TurnNote}
use Rattle.fine_boxes.specs.declared.model.Reads.{Reads}

module _ {N : Type 0} where
  -- the own note, where a seat has one
  abbrev pub with_note : Reads N → BoxNote N → Reads N
  with_note y m = record y { notes = m ∷ [] }

  -- the mailbox was found fresh or not, and where it was, the slot of the front came into hand
  abbrev pub looking : BoxNote N → Bool → BoxNote N
  looking m fresh = record m { found_fresh = fresh; is_out = fresh; looks = m.looks ++ fresh ∷ [] }

  -- the middle became the front, and the old front, whose count then was n, was given up
  abbrev pub refreshing : BoxNote N → ViewState → ℕ → List (Placed N) → BoxNote N
  refreshing m v n log = record m { front = v; found_fresh = false; given_up = m.given_up + n; marks = record { upto = v.upto; seen = log } ∷ m.marks }

  abbrev pub landing : BoxNote N → BoxNote N
  landing m = record m { is_out = false }

-- a view was posted to the box i, into its buffer b, and the old middle came back
abbrev pub posting : TurnNote → ℕ → ℕ → ViewState → ViewState → TurnNote
posting t i b new old = record t {
  backs = slice_set t.backs i old.buffer;
  posted = slice_set t.posted i new.upto;
  top = new.upto;
  board = slice_set (slice_set t.board (3 * i + b) (Some new.eye)) (3 * i + old.buffer) None;
  in_hand = t.in_hand + old.faults;
}

-- the board of a turn names the view of a seat, which shows no epoch above the top of the turn
abbrev pub IsNamed : TurnNote → ℕ → ViewState → Type 0
IsNamed t i v = (slice_get t.board (3 * i + v.buffer) ≡ Some (Some v.eye)) × (v.upto ≤ t.top)

module _ {X N : Type 0} (legal : X → List (Placed N) → Type 0) (touches : ℕ → N → Bool) (shows : X → List (Placed N) → ViewState → Type 0) where
  -- A look at the own mailbox: the history and the published number were seen. Where it was not fresh, the front shows this history up
  -- to an epoch that is not below the published one. In a turn of the seat the board names its front.
  pub record Looked (m : BoxNote N) (fresh : Bool) (v w : View X N (Reads N)) : Type 0 where
    pub log : List (Placed N)
    pub published : ℕ
    pub no_earlier : v.places.published ≤ published
    pub places : w.places ≡ knowing v.places log published
    pub beside : w.beside ≡ with_note v.beside (looking m fresh)
    pub sees : (x : X) → v.places.about ≡ Some x → Sees legal touches x published v.places log × (fresh ≡ false → shows x log m.front × (published ≤ m.front.upto))
    pub on_board : (t : TurnNote) (i : ℕ) → Holds v.places room → v.beside.turn ≡ Some t → m.seat ≡ suc i → IsNamed t i m.front

  -- The front and the middle were exchanged. In a turn of the seat the board names the new front.
  pub record Refreshed (m : BoxNote N) (count : ℕ) (new : ViewState) (v w : View X N (Reads N)) : Type 0 where
    pub log : List (Placed N)
    pub published : ℕ
    pub no_earlier : v.places.published ≤ published
    pub places : w.places ≡ knowing v.places log published
    pub beside : w.beside ≡ with_note v.beside (refreshing m new count log)
    pub place : (new.seat ≡ m.seat) × (new.buffer < 3)
    pub clean : new.faults ≡ 0
    pub later : m.front.upto ≤ new.upto
    pub reaches : published ≤ new.upto
    pub sees : (x : X) → v.places.about ≡ Some x → Sees legal touches x published v.places log × shows x log new
    pub on_board : (t : TurnNote) (i : ℕ) → Holds v.places room → v.beside.turn ≡ Some t → m.seat ≡ suc i → IsNamed t i new

-- The back slot of the box i came into hand: a buffer of the seat that the board leaves empty is the back buffer, which the turn knows.
pub record FetchedBack {X N : Type 0} (t : TurnNote) (i : ℕ) (v w : View X N (Reads N)) : Type 0 where
  pub places : w.places ≡ v.places
  pub beside : w.beside ≡ record v.beside { turn = Some (record t { out = Some i }) }
  pub known : i < length t.backs
  pub is_empty : slice_get t.board (3 * i + slice_index t.backs i) ≡ Some None
  pub only : (j : ℕ) → j < 3 → slice_get t.board (3 * i + j) ≡ Some None → j ≡ slice_index t.backs i

-- what posting asks of a view: it is for the buffer of its seat that the board leaves empty, and shows the history up to no earlier
-- epoch than all others
pub record MayPost {X N : Type 0} (shows : X → List (Placed N) → ViewState → Type 0) (x : X) (t : TurnNote) (i : ℕ) (seen : List (Placed N)) (new : ViewState) : Type 0 where
  pub seat : new.seat ≡ suc i
  pub within : new.buffer < 3
  pub empty : slice_get t.board (3 * i + new.buffer) ≡ Some None
  pub shown : shows x seen new
  pub clean : new.faults ≡ 0
  pub later : t.top ≤ new.upto

-- a view was posted
pub record Posted {X N : Type 0} (t : TurnNote) (i : ℕ) (new old : ViewState) (v w : View X N (Reads N)) : Type 0 where
  pub places : w.places ≡ v.places
  pub beside : w.beside ≡ record v.beside { turn = Some (posting t i new.buffer new old) }
  pub place : (old.seat ≡ suc i) × (old.buffer < 3)
  pub on_board : slice_get t.board (3 * i + old.buffer) ≡ Some (Some old.eye)
  pub apart : old.buffer ≢ new.buffer
