-- What the rule of the mailboxes asks of a new table, and what it gives of one that ended.
use Rattle.std.specs.Prelude.{◌∷◌, ◌≡◌, ℕ, suc, ◌+◌, ◌*◌, ◌<◌, ◌≤◌, List, [], map, length, slice_index, slice_get, sum_by, false, Option, Some, None}
use Rattle.std.specs.List.{AllByRecursion}
use mathlib.Core.Option.{some}
use lib.ListN.{get_elem?}
use Rattle.fine_model.specs.declared.law.OpenedEye.{OpenedEye}
use Rattle.fine_model.specs.declared.law.ViewState.{ViewState}
use Rattle.fine_places.specs.declared.model.Placed.{Placed}
use Rattle.fine_places.specs.declared.model.View.{View}
use Rattle.fine_places.specs.History.{room}
use Rattle.fine_boxes.specs.declared.model.BoxNote.{BoxNote}
use Rattle.fine_boxes.specs.declared.model.Mark.{Mark}
use Rattle.fine_boxes.specs.declared.model.Reads.{Reads}
use Rattle.fine_boxes.specs.Boxes.{Cell, Apart, Reaches, IsAt, IsMark, published_word, mailbox, slot, named, sum_below, given_of}

-- ---- the beginning

-- A seat of a new table: its front, which lies in none of its slots, is that of the buffer 0, its middle, which is not fresh, lies in
-- the slot 1, and the back is 2. Both show the empty history up to an epoch that is sealed.
pub record OpensSeat {T : Type 0} (view : T → Option ViewState) (tells : ViewState → Type 0) (fronts : List ViewState) (board : List (Option OpenedEye)) (sealed : ℕ) (backs : List ℕ) (p : ℕ) (words : List ℕ) (slots : List (Option T)) (i : ℕ) : Type 0 where
  pub word : slice_index words (mailbox i) ≡ 2
  pub front : ViewState
  pub is_front : get_elem? fronts i ≡ some front
  pub front_at : IsAt i 0 front
  pub front_tells : tells front
  pub front_upto : (p ≤ front.upto) × (front.upto ≤ sealed)
  pub thing : T
  pub there : get_elem? slots (slot i 1) ≡ some (Some thing)
  pub middle : ViewState
  pub is_middle : view thing ≡ Some middle
  pub middle_at : IsAt i 1 middle
  pub middle_tells : tells middle
  pub middle_upto : middle.upto ≤ sealed
  pub clean : middle.faults ≡ 0
  pub empty : (get_elem? slots (slot i 0) ≡ some None) × (get_elem? slots (slot i 2) ≡ some None)
  pub back : slice_index backs i ≡ 2
  pub names_front : slice_get board (3 * i + 0) ≡ Some (Some front.eye)
  pub names_middle : slice_get board (3 * i + 1) ≡ Some (Some middle.eye)
  pub names_back : slice_get board (3 * i + 2) ≡ Some None

-- a new table
pub record Opens {T X N : Type 0} (seats : X → ℕ) (fronts : X → List ViewState) (view : T → Option ViewState) (board : T → List (Option OpenedEye)) (sealed : T → ℕ) (backs : T → List ℕ)
    (shows : X → List (Placed N) → ViewState → Type 0) (x : X) (p : ℕ) (words : List ℕ) (slots : List (Option T)) : Type 0 where
  pub wide : length words ≡ suc (suc room) + seats x
  pub deep : length slots ≡ suc room + 3 * seats x
  pub number : slice_index words published_word ≡ p
  pub count : length (fronts x) ≡ seats x
  pub home : T
  pub at_room : get_elem? slots room ≡ some (Some home)
  pub long : (seats x ≤ length (backs home)) × (length (board home) ≡ 3 * seats x)
  pub below : p ≤ sealed home
  pub each : (i : ℕ) → i < seats x → OpensSeat view (shows x []) (fronts x) (board home) (sealed home) (backs home) p words slots i

-- ---- the end

-- A seat of a table that ended: its middle lies in a slot, and its back's slot is empty. The front and the middle show the history
-- up to an epoch that is sealed, and are on the board, which leaves the back's buffer empty.
pub record EndsSeat {T N : Type 0} (view : T → Option ViewState) (tells : List (Placed N) → ViewState → Type 0) (board : List (Option OpenedEye)) (sealed : ℕ) (p : ℕ) (log : List (Placed N)) (slots : List (Option T)) (i : ℕ) (c : Cell) : Type 0 where
  pub apart : Apart c
  pub thing : T
  pub there : get_elem? slots (slot i c.middle) ≡ some (Some thing)
  pub is_middle : view thing ≡ Some c.ahead
  pub front_at : IsAt i c.front c.shown
  pub middle_at : IsAt i c.middle c.ahead
  pub front_shows : tells log c.shown
  pub middle_shows : tells log c.ahead
  pub reaches : Reaches c p
  pub sealed_all : (c.shown.upto ≤ sealed) × (c.ahead.upto ≤ sealed)
  pub empty_back : get_elem? slots (slot i c.back) ≡ some None
  pub names : (j : ℕ) → j < 3 → slice_get board (3 * i + j) ≡ Some (named c j)

-- A note of a number of the last seat: its front is that of the cell, and each front that the number had showed, up to its epoch, what
-- the history has up to it.
pub record EndsNote {T N : Type 0} (count : ℕ) (above : ℕ → N → Type 0) (sealed : ℕ) (cells : ℕ → Cell) (log : List (Placed N)) (slots : List (Option T)) (m : BoxNote N) : Type 0 where
  pub i : ℕ
  pub number : m.seat ≡ suc i
  pub within : i < count
  pub front : (cells i).shown ≡ m.front
  pub marks : AllByRecursion (IsMark above log m.front.upto) m.marks
  pub first : (had : List (Placed N)) × (rest : List (Mark N)) × (m.marks ≡ record { upto = m.front.upto; seen = had } ∷ rest)
  pub upto : m.front.upto ≤ sealed
  pub emptied : m.is_out ≡ false → get_elem? slots (slot i m.front.buffer) ≡ some None

-- A table that ended, whose last seat has the numbers of all.
pub record Ends {T X N : Type 0} (seats : X → ℕ) (view : T → Option ViewState) (board : T → List (Option OpenedEye)) (sealed : T → ℕ) (backs : T → List ℕ)
    (shows : X → List (Placed N) → ViewState → Type 0) (above : ℕ → N → Type 0) (returned : N → ℕ) (x : X) (p : ℕ) (log : List (Placed N)) (v : View X N (Reads N)) (slots : List (Option T)) : Type 0 where
  pub home : T
  pub at_room : get_elem? slots room ≡ some (Some home)
  pub below : p ≤ sealed home
  pub long : (seats x ≤ length (backs home)) × (length (board home) ≡ 3 * seats x)
  pub cells : ℕ → Cell
  pub each : (i : ℕ) → i < seats x → EndsSeat view (shows x) (board home) (sealed home) p log slots i (cells i)
  pub numbers : map (λ m. m.seat) v.beside.notes ≡ map (λ s. s.seat) v.places.shares
  pub notes : AllByRecursion (EndsNote (seats x) above (sealed home) cells log slots) v.beside.notes
  pub counts : sum_by (λ (e : Placed N). returned e.item) log + sum_below (seats x) (λ i. (cells i).ahead.faults) ≡ given_of v.beside
