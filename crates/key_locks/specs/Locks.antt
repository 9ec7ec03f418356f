-- The buckets that a set holds, and how it and its pass go on.
use Rattle.std.specs.Prelude.{◌≡◌, ◌⊎◌, ℕ, ◌<◌, ◌≤◌, Bool, List, Option, Some, None, slice_get, slice_set}
use lib.ListN.{get_elem?}
use Rattle.fine_places.specs.History as places
use Rattle.fine_model.specs.Nodes.{Content}
use Rattle.fine_model.specs.declared.law.Origin.{Origin}
use Rattle.fine_model.specs.Buckets.{IsBucketFor}
use Rattle.fine_hall.specs.declared.law.Beginning.{Beginning}
use Rattle.fine_hall.specs.declared.pass.Pass.{Pass}
use Rattle.fine_hall.specs.Passes.{seen, published, known, turns, own_turns, found_held, HasPlace, LacksPlace}
use Rattle.fine_hall.specs.Halls.{Takes, SeesMore, KeepsViews, FindsHeld}

module _ {B : Type 0} where
  -- the set has the content of a bucket, or has none
  abbrev pub HasLock : List (Option B) → ℕ → B → Type 0
  HasLock locks k b = slice_get locks k ≡ Some (Some b)

  abbrev pub LacksLock : List (Option B) → ℕ → Type 0
  LacksLock locks k = slice_get locks k ≡ Some None

  -- all buckets below a number are in the set
  abbrev pub HasAllBelow : ℕ → List (Option B) → Type 0
  HasAllBelow upto locks = (k : ℕ) → k < upto → (b : B) × HasLock locks k b

  -- the places from a number on are as they were
  abbrev pub StayFrom : ℕ → List (Option B) → List (Option B) → Type 0
  StayFrom from locks locks' = (k : ℕ) → from ≤ k → slice_get locks' k ≡ slice_get locks k

-- the pass saw no turn more, and did none
pub record KeepsTurns {V : Type 0} (p p' : Pass V) : Type 0 where
  pub same_turns : turns p' ≡ turns p
  pub same_own : own_turns p' ≡ own_turns p
  pub same_published : published p' ≡ published p

module _ {V B : Type 0} where
  -- the set has the contents of just the buckets that the pass holds
  abbrev pub AreLocksOf : List (Option B) → Pass V → Type 0
  AreLocksOf locks p = (k : ℕ) → k < 256 → (LacksLock locks k × LacksPlace p k) ⊎ (((b : B) × HasLock locks k b) × HasPlace p k)

  -- Buckets were given back: the set has no others than before, and the pass knows what it knew, and holds the room where it did.
  pub record Releases (locks locks' : List (Option B)) (p p' : Pass V) : Type 0 where
    pub fewer : (k : ℕ) → LacksLock locks k → LacksLock locks' k
    pub room : get_elem? (known p').held places.room ≡ get_elem? (known p).held places.room
    pub kept : KeepsTurns p p'
    pub open kept use *
    pub found : found_held p' ≡ found_held p
    pub views : KeepsViews p p'

module _ {V B : Type 0} (bucket : B → ℕ) (cached : B → ℕ → Option (Content × ℕ)) (is_settled : B → Type 0) where
  -- a bucket was taken, whose content stands for the whole history; all else is as it was
  pub record TakesLock (log : Origin) (k : ℕ) (locks locks' : List (Option B)) (p p' : Pass V) : Type 0 where
    pub content : B
    pub locked : locks' ≡ slice_set locks k (Some content)
    pub stands : IsBucketFor bucket cached is_settled log k (published p') content (seen p')
    pub takes : Takes k p p'

  -- a bucket is in the set: it was before, and nothing changed, or it was taken
  abbrev pub Wants : Origin → ℕ → List (Option B) → List (Option B) → Pass V → Pass V → Type 0
  Wants log k locks locks' p p' = (((b : B) × HasLock locks k b) × (locks' ≡ locks) × (p' ≡ p)) ⊎ TakesLock log k locks locks' p p'

  -- each content in the set stands for the whole history that the pass saw
  abbrev pub AllStand : Origin → List (Option B) → Pass V → Type 0
  AllStand log locks p = (k : ℕ) (b : B) → k < 256 → HasLock locks k b → IsBucketFor bucket cached is_settled log k (published p) b (seen p)

  -- Buckets were taken: the set has what it had, and each other content stands for the whole history, which the pass saw. No bucket was
  -- found held, and the pass holds the room where it did.
  pub record Gathers (log : Origin) (locks locks' : List (Option B)) (p p' : Pass V) : Type 0 where
    pub kept : (k : ℕ) (b : B) → HasLock locks k b → HasLock locks' k b
    pub stands : (k : ℕ) (b : B) → k < 256 → HasLock locks' k b → HasLock locks k b ⊎ IsBucketFor bucket cached is_settled log k (published p') b (seen p')
    pub sees : SeesMore p p'
    pub room : get_elem? (known p').held places.room ≡ get_elem? (known p).held places.room
    pub found : found_held p' ≡ found_held p
    pub views : KeepsViews p p'

  -- All buckets were to be taken, in ascending order, and this one was found held. Those below it are in the set, and the others are as
  -- they were; the one try that found a bucket held was the last.
  pub record StopsAt (x : Beginning) (stop owner : ℕ) (locks locks' : List (Option B)) (p p' : Pass V) : Type 0 where
    pub within : stop < 256
    pub below : HasAllBelow stop locks'
    pub stay : StayFrom stop locks locks'
    pub lacks : LacksLock locks stop
    pub between : Pass V
    pub same_number : between.number ≡ p.number
    pub gathers : Gathers x.log locks locks' p between
    pub finds : FindsHeld x stop owner between p'

-- what was gathered stands wherever the pass saw more, while it held the buckets
abbrev pub StandLaw : Type 0 → {B : Type 0} → (B → ℕ) → (B → ℕ → Option (Content × ℕ)) → (B → Type 0) → Type 0
StandLaw V {B} bucket cached is_settled =
    (x : Beginning) (locks : List (Option B)) (p p' : Pass V) → AreLocksOf locks p → AllStand bucket cached is_settled x.log locks p → SeesMore p p' → AllStand bucket cached is_settled x.log locks p'

-- the set goes with its pass wherever that holds the same buckets
abbrev pub HoldLaw : Type 0 → Type 0 → Type 0
HoldLaw V B = (locks : List (Option B)) (p p' : Pass V) → AreLocksOf locks p → ((k : ℕ) → k < 256 → get_elem? (known p').held k ≡ get_elem? (known p).held k) → AreLocksOf locks p'

-- also where it took the room or gave it back
abbrev pub HoldRoomLaw : Type 0 → Type 0 → Type 0
HoldRoomLaw V B = (locks : List (Option B)) (p p' : Pass V) (taken : Bool) → AreLocksOf locks p → (known p').held ≡ slice_set (known p).held places.room taken → AreLocksOf locks p'
