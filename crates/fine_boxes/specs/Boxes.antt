-- The rule of the mailboxes: which buffer of a seat is which, and what its views show.
use Rattle.std.specs.Prelude.{◌≡◌, ◌≢◌, ℕ, zero, suc, ◌+◌, ◌*◌, ◌<◌, ◌≤◌, ◌==◌, List, [], ◌∷◌, ◌++◌, length, map, reverse, take, drop, sum_by, slice_index, slice_get, replicate, Bool, true, false, if◌then◌else◌, Option, Some, None}
use Rattle.std.specs.List.{AllByRecursion}
use mathlib.Core.Option.{some}
use lib.ListN.{get_elem?}
use Rattle.atomic_table.specs.Table.{State}
use Rattle.fine_model.specs.declared.law.OpenedEye.{OpenedEye}
use Rattle.fine_model.specs.declared.law.ViewState.{ViewState}
use Rattle.fine_model.specs.Views.{counting}
use Rattle.fine_places.specs.declared.model.Placed.{Placed}
use Rattle.fine_places.specs.declared.model.View.{View}
use Rattle.fine_places.specs.History.{room}
use Rattle.fine_places.specs.Places.{Holds, Homes, Emptied}
use Rattle.fine_boxes.specs.declared.model.BoxNote.{BoxNote}
use Rattle.fine_boxes.specs.declared.model.Mark.{Mark}
use Rattle.fine_boxes.specs.declared.model.TurnNote.{TurnNote}
use Rattle.fine_boxes.specs.declared.model.Reads.{Reads}

-- ---- laws

abbrev pub ShowsMore : {X N : Type 0} → (X → List (Placed N) → ViewState → Type 0) → (ℕ → N → Type 0) → Type 0
ShowsMore {X} {N} shows above = (x : X) (log : List (Placed N)) (t : Placed N) (v : ViewState) → above v.upto t.item → shows x log v → shows x (log ++ t ∷ []) v

abbrev pub ShowsAnyway : {X N : Type 0} → (X → List (Placed N) → ViewState → Type 0) → Type 0
ShowsAnyway {X} {N} shows = (x : X) (log : List (Placed N)) (v : ViewState) (n : ℕ) → shows x log v → shows x log (counting v n)

abbrev pub Lower : {N : Type 0} → (ℕ → N → Type 0) → Type 0
Lower {N} above = (a b : ℕ) (n : N) → a ≤ b → above b n → above a n

-- ---- words and slots

-- the published word stands behind the room's, the mailbox of the seat i + 1 and its three slots behind these
unfoldable pub published_word : ℕ
published_word = suc room

unfoldable pub mailbox : ℕ → ℕ
mailbox i = suc (suc room) + i

unfoldable pub slot : ℕ → ℕ → ℕ
slot i j = suc room + (3 * i + j)

abbrev pub bit : Bool → ℕ
bit true = 1
bit false = 0

-- which buffer of a seat is which, and its front and its middle
pub record Cell : Type 0 where
  pub front : ℕ
  pub middle : ℕ
  pub back : ℕ
  pub fresh : Bool
  pub shown : ViewState
  pub ahead : ViewState

pub record Apart (c : Cell) : Type 0 where
  pub front_in : c.front < 3
  pub middle_in : c.middle < 3
  pub back_in : c.back < 3
  pub front_middle : c.front ≢ c.middle
  pub front_back : c.front ≢ c.back
  pub middle_back : c.middle ≢ c.back

-- the first two sentences of freshness hold for a number
pub record Reaches (c : Cell) (p : ℕ) : Type 0 where
  pub fresh : c.fresh ≡ true → p ≤ c.ahead.upto
  pub stale : c.fresh ≡ false → p ≤ c.shown.upto

-- what the board names of a buffer
abbrev pub named : Cell → ℕ → Option OpenedEye
named c j = if j == c.front then Some c.shown.eye else if j == c.middle then Some c.ahead.eye else None

pub record IsAt (i j : ℕ) (v : ViewState) : Type 0 where
  pub seat : v.seat ≡ suc i
  pub buffer : v.buffer ≡ j

pub record Covers {N : Type 0} (above : ℕ → N → Type 0) (u : ℕ) (log seen : List (Placed N)) : Type 0 where
  pub more : List (Placed N)
  pub is_front : log ≡ seen ++ more
  pub later : AllByRecursion (λ t. above u t.item) more

abbrev pub sum_below : ℕ → (ℕ → ℕ) → ℕ
sum_below zero f = 0
sum_below (suc n) f = sum_below n f + f n

-- the turn that begins as a thing is taken from the room's place
abbrev pub beginning : {T : Type 0} → (T → List (Option OpenedEye)) → (T → ℕ) → (T → List ℕ) → T → TurnNote
beginning board sealed backs thing = record { backs = backs thing; out = None; posted = replicate (length (backs thing)) 0; top = sealed thing; board = board thing; in_hand = 0 }

-- what a seat knows of views at the start, after it was split in two or joined, and after it took the room and gave it back
abbrev pub note_of : {N : Type 0} → ViewState → BoxNote N
note_of v = record { seat = v.seat; front = v; found_fresh = false; is_out = false; given_up = 0; marks = record { upto = v.upto; seen = [] } ∷ []; looks = [] }

abbrev pub first_notes : {N : Type 0} → List ViewState → Reads N
first_notes fronts = record { notes = reverse (map note_of fronts); turn = None }

abbrev pub cut_left : {N : Type 0} → Reads N → Reads N
cut_left y = record y { notes = drop 1 y.notes }

abbrev pub cut_right : {N : Type 0} → Reads N → Reads N
cut_right y = record { notes = take 1 y.notes; turn = None }

abbrev pub both : {N : Type 0} → Reads N → Reads N → Reads N
both y z = record { notes = y.notes ++ z.notes; turn = None }

abbrev pub nothing : {N : Type 0} → Reads N
nothing = record { notes = []; turn = None }

abbrev pub taking : {T N : Type 0} → (T → List (Option OpenedEye)) → (T → ℕ) → (T → List ℕ) → Reads N → T → Reads N
taking board sealed backs y thing = record y { turn = Some (beginning board sealed backs thing) }

abbrev pub given : {N : Type 0} → Reads N → Reads N
given y = record y { turn = None }

-- what is owed of the room as it is given back
pub record Owes {T X N : Type 0} (board : T → List (Option OpenedEye)) (sealed : T → ℕ) (backs : T → List ℕ) (above : ℕ → N → Type 0) (returned : N → ℕ)
    (x : X) (p : ℕ) (log : List (Placed N)) (item : Option N) (y : Reads N) (thing : T) : Type 0 where
  pub turn : TurnNote
  pub is : y.turn ≡ Some turn
  pub still : turn.out ≡ None
  pub added : N
  pub item_is : item ≡ Some added
  pub board_is : board thing ≡ turn.board
  pub backs_is : backs thing ≡ turn.backs
  pub top : turn.top ≤ sealed thing
  pub later : above turn.top added
  pub counted : returned added ≡ turn.in_hand

-- what a seat learns of the room as it takes it: the board names a front that the seat has, which shows no epoch that is not sealed
pub record LearnsNote {T N : Type 0} (board : T → List (Option OpenedEye)) (sealed : T → ℕ) (thing : T) (m : BoxNote N) : Type 0 where
  pub i : ℕ
  pub number : m.seat ≡ suc i
  pub on_board : slice_get (board thing) (3 * i + m.front.buffer) ≡ Some (Some m.front.eye)
  pub upto : m.front.upto ≤ sealed thing

-- And the board has three buffers for each seat, of which it leaves the back one empty.
pub record Learns {T X N : Type 0} (seats : X → ℕ) (board : T → List (Option OpenedEye)) (sealed : T → ℕ) (backs : T → List ℕ) (x : X) (y : Reads N) (thing : T) : Type 0 where
  pub fronts : AllByRecursion (LearnsNote board sealed thing) y.notes
  pub long : (seats x ≤ length (backs thing)) × (length (board thing) ≡ 3 * seats x)
  pub empty : (i : ℕ) → i < seats x → (slice_index (backs thing) i < 3) × (slice_get (board thing) (3 * i + slice_index (backs thing) i) ≡ Some None)

-- ---- the rule

-- the mailbox and the middle of a seat
pub record BoxOk {T N : Type 0} (view : T → Option ViewState) (tells : List (Placed N) → ViewState → Type 0) (p : ℕ) (log : List (Placed N)) (words : List ℕ) (homes : Homes T) (i : ℕ) (c : Cell) : Type 0 where
  pub apart : Apart c
  pub word : slice_index words (mailbox i) ≡ 2 * c.middle + bit c.fresh
  pub thing : T
  pub there : get_elem? homes (slot i c.middle) ≡ some (some (Some thing))
  pub is_view : view thing ≡ Some c.ahead
  pub front_at : IsAt i c.front c.shown
  pub middle_at : IsAt i c.middle c.ahead
  pub front_shows : tells log c.shown
  pub middle_shows : tells log c.ahead
  pub later : c.fresh ≡ true → c.shown.upto ≤ c.ahead.upto
  pub clean : c.fresh ≡ true → c.ahead.faults ≡ 0
  pub reaches : Reaches c p

-- a front that a seat had showed, up to some epoch that is no later than the present front's, what the history has up to that epoch
abbrev pub IsMark : {N : Type 0} → (ℕ → N → Type 0) → List (Placed N) → ℕ → Mark N → Type 0
IsMark above log upto k = Covers above k.upto log k.seen × (k.upto ≤ upto)

-- what holds of the seat of a number
pub record NoteHere {T N : Type 0} (count : ℕ) (above : ℕ → N → Type 0) (cells : ℕ → Cell) (log : List (Placed N)) (homes : Homes T) (i : ℕ) (m : BoxNote N) : Type 0 where
  pub within : i < count
  pub front : (cells i).shown ≡ m.front
  pub found : m.found_fresh ≡ true → (cells i).fresh ≡ true
  pub marks : AllByRecursion (IsMark above log m.front.upto) m.marks
  pub first : (had : List (Placed N)) × (rest : List (Mark N)) × (m.marks ≡ record { upto = m.front.upto; seen = had } ∷ rest)
  pub emptied : m.is_out ≡ false → Emptied homes (slot i (cells i).front)

-- what the seat of a number knows is so
pub record NoteOk {T N : Type 0} (count : ℕ) (above : ℕ → N → Type 0) (cells : ℕ → Cell) (log : List (Placed N)) (homes : Homes T) (m : BoxNote N) : Type 0 where
  pub i : ℕ
  pub number : m.seat ≡ suc i
  pub here : NoteHere count above cells log homes i m

-- the counts of the fronts that were given up, of all seats
abbrev pub given_of : {N : Type 0} → Reads N → ℕ
given_of y = sum_by (λ m. m.given_up) y.notes

abbrev pub given_by : {X N : Type 0} → List (View X N (Reads N)) → ℕ
given_by views = sum_by (λ v. given_of v.beside) views

-- what holds of the room at home, or of a turn of the room as its holder records it
pub record TurnOk {T N : Type 0} (count : ℕ) (returned : N → ℕ) (p : ℕ) (cells : ℕ → Cell) (log : List (Placed N)) (homes : Homes T) (all_given : ℕ) (t : TurnNote) : Type 0 where
  pub long : (count ≤ length t.backs) × (count ≤ length t.posted) × (length t.board ≡ 3 * count)
  pub back : (i : ℕ) → i < count → slice_index t.backs i ≡ (cells i).back
  pub emptied : (i : ℕ) → i < count → t.out ≢ Some i → Emptied homes (slot i (cells i).back)
  pub reaches : (i : ℕ) → i < count → Reaches (cells i) (slice_index t.posted i)
  pub posted_below : (i : ℕ) → i < count → slice_index t.posted i ≤ t.top
  pub below : (i : ℕ) → i < count → ((cells i).shown.upto ≤ t.top) × ((cells i).ahead.upto ≤ t.top)
  pub published : p ≤ t.top
  pub names : (i j : ℕ) → i < count → j < 3 → slice_get t.board (3 * i + j) ≡ Some (named (cells i) j)
  pub counts : (sum_by (λ (e : Placed N). returned e.item) log + t.in_hand) + sum_below count (λ i. (cells i).ahead.faults) ≡ all_given

-- who holds the room records its turn
pub record HoldsTurn {T N : Type 0} (count : ℕ) (returned : N → ℕ) (p : ℕ) (cells : ℕ → Cell) (log : List (Placed N)) (homes : Homes T) (all_given : ℕ) (y : Reads N) : Type 0 where
  pub turn : TurnNote
  pub is : y.turn ≡ Some turn
  pub ok : TurnOk count returned p cells log homes all_given turn

-- what a seat knows is so: a note for each of its numbers, and the turn while it holds the room
pub record ViewOk {T X N : Type 0} (count : ℕ) (above : ℕ → N → Type 0) (returned : N → ℕ) (p : ℕ) (cells : ℕ → Cell) (log : List (Placed N)) (homes : Homes T) (all_given : ℕ) (v : View X N (Reads N)) : Type 0 where
  pub numbers : map (λ m. m.seat) v.beside.notes ≡ map (λ s. s.seat) v.places.shares
  pub notes : AllByRecursion (NoteOk count above cells log homes) v.beside.notes
  pub turning : Holds v.places room → HoldsTurn count returned p cells log homes all_given v.beside

pub record AtHome {T N : Type 0} (count : ℕ) (board : T → List (Option OpenedEye)) (sealed : T → ℕ) (backs : T → List ℕ) (returned : N → ℕ) (p : ℕ) (cells : ℕ → Cell) (log : List (Placed N)) (homes : Homes T) (all_given : ℕ) : Type 0 where
  pub thing : T
  pub there : get_elem? homes room ≡ some (some (Some thing))
  pub ok : TurnOk count returned p cells log homes all_given (beginning board sealed backs thing)

-- the words, the slots and what each seat knows
abbrev pub BoxState : Type 0 → Type 0 → Type 0 → Type 0
BoxState T X N = State (Option T) (View X N (Reads N))

-- The rule of the mailboxes, at a published number and a history: the number is that of its word, each mailbox and middle is so, and
-- what each seat knows. The room at home, as the turn of who holds it, knows all backs.
pub record Keeps {T X N : Type 0} (seats : X → ℕ) (view : T → Option ViewState) (board : T → List (Option OpenedEye)) (sealed : T → ℕ) (backs : T → List ℕ)
    (shows : X → List (Placed N) → ViewState → Type 0) (above : ℕ → N → Type 0) (returned : N → ℕ)
    (x : X) (p : ℕ) (log : List (Placed N)) (s : BoxState T X N) : Type 0 where
  pub cells : ℕ → Cell
  pub wide : length s.words ≡ suc (suc room) + seats x
  pub deep : length s.homes ≡ suc room + 3 * seats x
  pub published : slice_index s.words published_word ≡ p
  pub each_box : (i : ℕ) → i < seats x → BoxOk view (shows x) p log s.words s.homes i (cells i)
  pub each_view : (j : ℕ) (v : View X N (Reads N)) → get_elem? s.views j ≡ some v → ViewOk (seats x) above returned p cells log s.homes (given_by s.views) v
  pub home : slice_index s.words room ≡ 0 → AtHome (seats x) board sealed backs returned p cells log s.homes (given_by s.views)
