-- What a seat knows of the places, how each step changes it, and the rule of the places.
use Rattle.std.specs.List.{AllByRecursion}
use Rattle.std.specs.Prelude.{◌≡◌, ◌≢◌, ℕ, zero, suc, ◌<◌, ◌≤◌, max, List, [], ◌∷◌, ◌++◌, ◌⊎◌, length, slice_index, slice_set, replicate, Bool, true, false, Option, Some, None, All}
use mathlib.Core.Option.{some}
use mathlib.Core.Option as maybe
use lib.ListN.{get_elem?}
use Rattle.atomic_table.specs.Table.{State}
use Rattle.fine_places.specs.declared.model.Placed.{Placed}
use Rattle.fine_places.specs.declared.model.Share.{Share}
use Rattle.fine_places.specs.declared.model.Known.{Known}
use Rattle.fine_places.specs.declared.model.View.{View}
use Rattle.fine_places.specs.History.{room, most_seats, touching, by_seat, StartsWith, longer, Owns, Owned}

-- ---- shares

abbrev pub share : {N : Type 0} → ℕ → List (Placed N) → Share N
share n ms = record { seat = n; mine = ms }

-- the shares of the seats n to 1, which added nothing yet
abbrev pub shares_of : {N : Type 0} → ℕ → List (Share N)
shares_of zero = []
shares_of (suc n) = share (suc n) [] ∷ shares_of n

abbrev pub tail_of : {N : Type 0} → List (Share N) → List (Share N)
tail_of [] = []
tail_of (p ∷ ps) = ps

abbrev pub head_of : {N : Type 0} → List (Share N) → List (Share N)
head_of [] = []
head_of (p ∷ ps) = p ∷ []

abbrev pub first_seat : {N : Type 0} → List (Share N) → ℕ
first_seat [] = 0
first_seat (p ∷ ps) = p.seat

-- the first share grows by the item
abbrev pub grown : {N : Type 0} → Placed N → List (Share N) → List (Share N)
grown e [] = []
grown e (p ∷ ps) = share p.seat (p.mine ++ e ∷ []) ∷ ps

-- the item, added by the seat of the first share
abbrev pub placed : {N : Type 0} → List (Share N) → N → Placed N
placed shares n = record { seat = first_seat shares; item = n }

-- ---- what a seat knows after each step

module _ {X N : Type 0} where
  -- the first seat, which has the numbers n to 1
  abbrev pub opening_seat : ℕ → ℕ → X → Known X N
  opening_seat n p x = record { about = Some x; shares = shares_of n; seen = []; fronts = []; held = replicate (suc room) false; found = []; moving = None; published = p }

  abbrev pub spent : Known X N
  spent = record { about = None; shares = []; seen = []; fronts = []; held = []; found = []; moving = None; published = 0 }

  abbrev pub without_first : Known X N → Known X N
  without_first v = record v { shares = tail_of v.shares }

  abbrev pub only_first : Known X N → Known X N
  only_first v = record v { shares = head_of v.shares; held = replicate (suc room) false; found = []; moving = None }

  abbrev pub joined : Known X N → Known X N → Known X N
  joined v w = record v { shares = v.shares ++ w.shares; seen = longer v.seen w.seen; fronts = v.seen ∷ w.seen ∷ (v.fronts ++ w.fronts); published = max v.published w.published }

  abbrev pub Holds : Known X N → ℕ → Type 0
  Holds v k = get_elem? v.held k ≡ some true

  -- the place was taken, and its slot is in hand
  abbrev pub taking : Known X N → ℕ → List (Placed N) → ℕ → Known X N
  taking v k log p = record v { seen = log; held = slice_set v.held k true; moving = Some k; published = p }

  -- the seat holds the place from now on, and knows the history and the published number of that step
  abbrev pub having : Known X N → ℕ → List (Placed N) → ℕ → Known X N
  having v k log p = record v { seen = log; held = slice_set v.held k true; moving = None; published = p }

  -- the place was found held
  abbrev pub finding : Known X N → ℕ → ℕ → Known X N
  finding v k owner = record v { found = v.found ++ record { place = k; owner = owner } ∷ [] }

  abbrev pub moving : Known X N → Option ℕ → Known X N
  moving v o = record v { moving = o }

  -- the history and the published number were seen
  abbrev pub knowing : Known X N → List (Placed N) → ℕ → Known X N
  knowing v log p = record v { seen = log; published = p }

  -- the place was given back, with an item that joins the history or none
  abbrev pub giving : Known X N → ℕ → Option N → Known X N
  giving v k None = record v { held = slice_set v.held k false; moving = None }
  giving v k (Some n) = record v { shares = grown (placed v.shares n) v.shares; seen = v.seen ++ placed v.shares n ∷ []; held = slice_set v.held k false; moving = None }

-- ---- the rule

abbrev pub Homes : Type 0 → Type 0
Homes T = List (maybe.Option (Option T))

abbrev pub PlaceState : Type 0 → Type 0 → Type 0 → Type 0 → Type 0
PlaceState T X N Y = State (Option T) (View X N Y)

-- the slot is at home, and empty
abbrev pub Emptied : {T : Type 0} → Homes T → ℕ → Type 0
Emptied {T} homes k = get_elem? homes k ≡ some (some None)

-- A place that a seat holds: the seat saw each item that touches it, the word has one of the seat's numbers, and the slot is
-- at home and empty while the seat does not move it.
pub record HoldOk {T X N : Type 0} (touches : ℕ → N → Bool) (log : List (Placed N)) (words : List ℕ) (homes : Homes T) (v : Known X N) (k : ℕ) : Type 0 where
  pub within : k ≤ room
  pub same : touching touches k v.seen ≡ touching touches k log
  pub owner : Owned v.shares (slice_index words k)
  pub emptied : v.moving ≢ Some k → Emptied homes k

-- what a seat knows is so
pub record Fits {T X N : Type 0} (touches : ℕ → N → Bool) (seats : ℕ) (x : X) (p : ℕ) (log : List (Placed N)) (words : List ℕ) (homes : Homes T) (v : Known X N) : Type 0 where
  pub about : (y : X) → v.about ≡ Some y → y ≡ x
  pub seen : StartsWith log v.seen
  pub mine : (n : ℕ) (ms : List (Placed N)) → Owns v.shares n ms → (ms ≡ by_seat n log) × (0 < n) × (n ≤ seats)
  pub fronts : AllByRecursion (StartsWith log) v.fronts
  pub holds : (k : ℕ) → Holds v k → HoldOk touches log words homes v k
  pub published : v.published ≤ p
  pub holder : Holds v room → v.published ≡ p

-- the thing at home stands for the items that touch the place
pub record Home {T X N : Type 0} (stands : X → ℕ → ℕ → T → List (Placed N) → Type 0) (touches : ℕ → N → Bool) (x : X) (p : ℕ) (log : List (Placed N)) (words : List ℕ) (homes : Homes T) (k : ℕ) : Type 0 where
  pub word : slice_index words k ≡ 0
  pub thing : T
  pub there : get_elem? homes k ≡ some (some (Some thing))
  pub stood : stands x k p thing (touching touches k log)

-- some seat holds the place
pub record Away {X N Y : Type 0} (views : List (View X N Y)) (k : ℕ) : Type 0 where
  pub who : ℕ
  pub view : View X N Y
  pub there : get_elem? views who ≡ some view
  pub holds : Holds view.places k

-- The rule of the places, at a history and a published number. The history is legal, each of its items is of one of the
-- seats, and some seat that has a number saw all of it. What each seat knows is so; each number has one seat, and each seat other numbers.
-- Each place is at home or held.
pub record Keeps {T X N Y : Type 0} (stands : X → ℕ → ℕ → T → List (Placed N) → Type 0) (legal : X → List (Placed N) → Type 0) (seats : X → ℕ) (touches : ℕ → N → Bool)
    (x : X) (p : ℕ) (log : List (Placed N)) (s : PlaceState T X N Y) : Type 0 where
  pub wide : suc room ≤ length s.words
  pub deep : suc room ≤ length s.homes
  pub few : (0 < seats x) × (seats x ≤ most_seats)
  pub is_legal : legal x log
  pub authors : All (λ e. (0 < e.seat) × (e.seat ≤ seats x)) log
  pub each_view : (i : ℕ) (v : View X N Y) → get_elem? s.views i ≡ some v → Fits touches (seats x) x p log s.words s.homes v.places
  pub each_number : (n : ℕ) → 0 < n → n ≤ seats x → (i : ℕ) × (v : View X N Y) × (get_elem? s.views i ≡ some v) × Owned v.places.shares n
  pub apart : (i j n : ℕ) (v u : View X N Y) → get_elem? s.views i ≡ some v → get_elem? s.views j ≡ some u → Owned v.places.shares n → Owned u.places.shares n → i ≡ j
  pub longest : (i : ℕ) × (v : View X N Y) × (get_elem? s.views i ≡ some v) × (v.places.seen ≡ log) × ((n : ℕ) × Owned v.places.shares n)
  pub each_place : (k : ℕ) → k ≤ room → Home stands touches x p log s.words s.homes k ⊎ Away s.views k

-- the rule of a table: that of the places, and what it keeps beside them
pub record Rules {T X N Y : Type 0} (stands : X → ℕ → ℕ → T → List (Placed N) → Type 0) (legal : X → List (Placed N) → Type 0) (seats : X → ℕ) (touches : ℕ → N → Bool)
    (keeps : X → ℕ → List (Placed N) → PlaceState T X N Y → Type 0) (x : X) (s : PlaceState T X N Y) : Type 0 where
  pub log : List (Placed N)
  pub published : ℕ
  pub places : Keeps stands legal seats touches x published log s
  pub beside : keeps x published log s
