-- What each step at a place asks of what a table keeps beside its places.
use Rattle.std.specs.Prelude.{Bool, ◌≡◌, ◌≢◌, ℕ, suc, length, false, ◌<◌, ◌≤◌, List, [], ◌∷◌, ◌++◌, ◌⊎◌, slice_index, slice_set, Option, Some}
use mathlib.Core.Option.{some, none}
use mathlib.Core.Option as maybe
use lib.ListN.{get_elem?}
use Rattle.atomic_table.specs.Table.{State, Me, Step, Act, keeps, takes, gives, chain, Valid, Allows, stepped, carried_after}
use Rattle.fine_places.specs.declared.model.Placed.{Placed}
use Rattle.fine_places.specs.declared.model.Known.{Known}
use Rattle.fine_places.specs.declared.model.View.{View}
use Rattle.fine_places.specs.Telling.{Sees}
use Rattle.fine_places.specs.History.{room, StartsWith, Owned}
use Rattle.fine_places.specs.Places.{Rules, Holds, taking, giving, spent, without_first, only_first, joined, shares_of}

-- a word, a slot and a seat's view have changed
abbrev pub changed : {T X N Y : Type 0} → State (Option T) (View X N Y) → ℕ → ℕ → maybe.Option (Option T) → ℕ → View X N Y → State (Option T) (View X N Y)
changed s k n h id v = record { words = slice_set s.words k n; homes = slice_set s.homes k h; views = slice_set s.views id v }

-- What the places say of all seats between two steps: each saw a front of the history and no later published number, a place
-- has one holder, and its word is not 0 then.
pub record Around {T X N Y : Type 0} (p : ℕ) (log : List (Placed N)) (s : State (Option T) (View X N Y)) : Type 0 where
  pub wide : suc room ≤ length s.words
  pub deep : suc room ≤ length s.homes
  pub seen : (i : ℕ) (v : View X N Y) → get_elem? s.views i ≡ some v → StartsWith log v.places.seen
  pub published : (i : ℕ) (v : View X N Y) → get_elem? s.views i ≡ some v → v.places.published ≤ p
  pub one_holder : (i j k : ℕ) (v u : View X N Y) → get_elem? s.views i ≡ some v → get_elem? s.views j ≡ some u → Holds v.places k → Holds u.places k → i ≡ j
  pub apart : (i j n : ℕ) (v u : View X N Y) → get_elem? s.views i ≡ some v → get_elem? s.views j ≡ some u → Owned v.places.shares n → Owned u.places.shares n → i ≡ j
  pub holder : (i : ℕ) (v : View X N Y) → get_elem? s.views i ≡ some v → Holds v.places room → (v.places.seen ≡ log) × (v.places.published ≡ p)
  pub busy : (i k : ℕ) (v : View X N Y) → get_elem? s.views i ≡ some v → Holds v.places k → 0 < slice_index s.words k

-- A step that changes no turn of the room: at a bucket, or at the room's word or slot while the room is held. The seat saw no
-- less of the history and of the published number after it.
pub record IsBeside {T X N Y : Type 0} (s : State (Option T) (View X N Y)) (k n : ℕ) (id : ℕ) (v : View X N Y) (w : Known X N) : Type 0 where
  pub there : get_elem? s.views id ≡ some v
  pub where_it_is : (k < room) ⊎ ((k ≡ room) × (slice_index s.words room ≢ 0) × (n ≡ slice_index s.words room))
  pub same_room : get_elem? w.held room ≡ get_elem? v.places.held room
  pub about : w.about ≡ v.places.about
  pub shares : w.shares ≡ v.places.shares
  pub seen : StartsWith w.seen v.places.seen
  pub published : v.places.published ≤ w.published

module _ {T X N Y : Type 0} (keeps : X → ℕ → List (Placed N) → State (Option T) (View X N Y) → Type 0) where
  abbrev pub Stays : Type 0
  Stays = (x : X) (p : ℕ) (log : List (Placed N)) (s : State (Option T) (View X N Y)) → keeps x p log s → Around p log s → (k n : ℕ) (h : maybe.Option (Option T)) (id : ℕ) (v : View X N Y) (w : Known X N)
      → IsBeside s k n id v w → w.published ≤ p → StartsWith log w.seen → keeps x p log (changed s k n h id (record { places = w; beside = v.beside }))

  -- the room is taken by a seat that learns what `learns` says
  abbrev pub Takes : (Y → T → Y) → (X → Y → T → Type 0) → Type 0
  Takes taken learns = (x : X) (p : ℕ) (log : List (Placed N)) (s : State (Option T) (View X N Y)) → keeps x p log s → Around p log s → (n id : ℕ) (v : View X N Y) (thing : T)
      → get_elem? s.views id ≡ some v → Owned v.places.shares n → 0 < n → get_elem? v.places.held room ≡ some false → slice_index s.words room ≡ 0 → get_elem? s.homes room ≡ some (some (Some thing))
      → keeps x p log (changed s room n none id (record { places = taking v.places room log p; beside = taken v.beside thing })) × learns x v.beside thing

  -- the room is given back by the seat that holds it, with an item or none
  abbrev pub Gives : (Y → T → Y) → (X → ℕ → List (Placed N) → Option N → Y → T → Type 0) → Type 0
  Gives given owes = (x : X) (p : ℕ) (log : List (Placed N)) (s : State (Option T) (View X N Y)) → keeps x p log s → Around p log s → (id : ℕ) (v : View X N Y) (thing : T) (item : Option N)
      → get_elem? s.views id ≡ some v → Holds v.places room → v.places.seen ≡ log → owes x p v.places.seen item v.beside thing
      → keeps x p (giving v.places room item).seen (changed s room 0 (some (Some thing)) id (record { places = giving v.places room item; beside = given v.beside thing }))

  -- a seat that holds nothing is split in two
  abbrev pub Splits : (Y → Y) → (Y → Y) → Type 0
  Splits left right = (x : X) (p : ℕ) (log : List (Placed N)) (s : State (Option T) (View X N Y)) → keeps x p log s → Around p log s → (id n : ℕ) (v : View X N Y)
      → get_elem? s.views id ≡ some v → ((k : ℕ) → ¬ Holds v.places k) → v.places.shares ≡ shares_of (suc (suc n))
      → keeps x p log record { words = s.words; homes = s.homes; views = slice_set s.views id (record { places = without_first v.places; beside = left v.beside }) ++ record { places = only_first v.places; beside = right v.beside } ∷ [] }

  -- a seat takes over what another knows, and both hold nothing
  abbrev pub Joins : (Y → Y → Y) → Y → Type 0
  Joins both end = (x : X) (p : ℕ) (log : List (Placed N)) (s : State (Option T) (View X N Y)) → keeps x p log s → Around p log s → (id : ℕ) (v : View X N Y) (other : ℕ) (w : View X N Y)
      → get_elem? s.views id ≡ some v → get_elem? s.views other ≡ some w → other ≢ id → ((k : ℕ) → ¬ Holds v.places k) → ((k : ℕ) → ¬ Holds w.places k)
      → keeps x p log record { words = s.words; homes = s.homes; views = slice_set (slice_set s.views id (record { places = joined v.places w.places; beside = both v.beside w.beside })) other (record { places = spent; beside = end }) }

-- ---- steps at words behind the places

-- What a seat may learn and change at a word or a slot behind the places: it sees the history and the published number of that
-- step, which only the holder of the room may raise.
pub record GoesBeside {X N : Type 0} (p q : ℕ) (log : List (Placed N)) (v w : Known X N) : Type 0 where
  pub rise : p ≤ q
  pub raised : (q ≡ p) ⊎ Holds v room
  pub seen : (w.seen ≡ v.seen) ⊎ (w.seen ≡ log)
  pub published : (w.published ≤ q) × (v.published ≤ w.published) × (Holds v room → w.published ≡ q)
  pub about : w.about ≡ v.about
  pub shares : w.shares ≡ v.shares
  pub fronts : w.fronts ≡ v.fronts
  pub held : w.held ≡ v.held
  pub found : w.found ≡ v.found
  pub moving : w.moving ≡ v.moving

-- each slot in hand, and each that an act takes, lies behind the places
abbrev pub IsBehind : {T : Type 0} → List (ℕ × Option T) → Type 0
IsBehind [] = Unit {0}
IsBehind (x ∷ xs) = (room < x.0) × IsBehind xs

abbrev pub TakesBehind : {T : Type 0} → Act (Option T) → Type 0
TakesBehind keeps = Unit {0}
TakesBehind (takes k y) = room < k
TakesBehind gives = Unit {0}
TakesBehind (chain a b) = TakesBehind a × TakesBehind b

-- Such a step, whatever the table is: there are a new view and an act that keep what is kept beside the places. How the table began and
-- what the seat may see of the history is given.
abbrev pub AllowsBeside : {T X N Y : Type 0} → (X → List (Placed N) → Type 0) → (ℕ → N → Bool) → (X → ℕ → List (Placed N) → State (Option T) (View X N Y) → Type 0) → X → ℕ → ℕ → Me (Option T) (View X N Y) → ℕ → (ℕ → ℕ) → (ℕ → Me (Option T) (View X N Y) → Type 0) → Type 0
AllowsBeside {T} {X} {N} {Y} legal touches kept x slots id me i f then = (p : ℕ) (log : List (Placed N)) (s : State (Option T) (View X N Y)) → kept x p log s → Around p log s → length s.homes ≡ slots
    → get_elem? s.views id ≡ some me.0 → slice_index s.words i < 18446744073709551616
    → ((z : X) → me.0.places.about ≡ Some z → z ≡ x) → Sees legal touches x p me.0.places log
    → (q : ℕ) × (w : View X N Y) × (a : Act (Option T)) × GoesBeside p q log me.0.places w.places × TakesBehind a × Valid s.homes me.1 a
    × kept x q log (stepped s i (f (slice_index s.words i)) id me.1 w a) × then (slice_index s.words i) (w, carried_after me.1 a)

-- A step at a word behind the places that keeps what is kept beside them keeps the rule of the table, and tells what it tells.
abbrev pub StepsBeside : {T X N Y : Type 0} → (X → ℕ → ℕ → T → List (Placed N) → Type 0) → (X → List (Placed N) → Type 0) → (X → ℕ) → (ℕ → N → Bool) → (X → ℕ → List (Placed N) → State (Option T) (View X N Y) → Type 0)
    → (Step (Option T) → Me (Option T) (View X N Y) → ℕ → Me (Option T) (View X N Y) → Type 0) → Type 0
StepsBeside {T} {X} {N} {Y} stands legal seats touches kept then = (x : X) (slots id : ℕ) (me : Me (Option T) (View X N Y)) (i : ℕ) (f : ℕ → ℕ) (st : Step (Option T))
    → room < i → IsBehind me.1 → AllowsBeside legal touches kept x slots id me i f (then st me) → Allows (Rules stands legal seats touches kept x) slots id me i f (then st me)
