-- Places of which some are filled, with the numbers of these.
use Rattle.std.specs.Prelude.{◌≡◌, ℕ, suc, ◌<◌, ◌≤◌, List, [], ◌∷◌, length, Option, Some, None, slice_get, slice_set}
use Rattle.std.specs.Borrow.{MutBor}
use denote.Param.Members.{Shared}
use Rattle.fine_model.proofs.Ordered.Times.{times}

-- a call at a value may leave the other there
pub record LeavesAt {F T : Type 0} (g : Shared F (MutBor T × Unit {0}) (Unit {0} × (MutBor T × Unit {0}))) (f : F) (x y : T) : Type 0 where
  pub shown : MutBor T
  pub shows : shown.now ≡ x
  pub left : MutBor T
  pub met : g.post f (shown, tt) (tt, (left, tt))
  pub leaves : left.now ≡ y

module _ {T : Type 0} where
  abbrev pub IsFilled : List (Option T) → ℕ → T → Type 0
  IsFilled places k x = slice_get places k ≡ Some (Some x)

  abbrev pub IsEmpty : List (Option T) → ℕ → Type 0
  IsEmpty places k = slice_get places k ≡ Some None

  -- 1 for a place that is filled
  unfoldable pub here : Option (Option T) → ℕ
  here (Some (Some x)) = 1
  here _ = 0

  unfoldable pub number_filled : List (Option T) → ℕ
  number_filled [] = 0
  number_filled (None ∷ places) = number_filled places
  number_filled (Some x ∷ places) = suc (number_filled places)

  -- how often each number stands in a list is 1 for a place that is filled, and 0 for any other
  abbrev pub AreCounted : List ℕ → List (Option T) → Type 0
  AreCounted numbers places = (k : ℕ) → times k numbers ≡ here (slice_get places k)

  -- There are 256 places. The list has the number of each filled one once, and no other, and memory for just 256.
  pub record AreNumbered (places : List (Option T)) (numbers : List ℕ) (room : ℕ) : Type 0 where
    pub all : length places ≡ 256
    pub once : AreCounted numbers places
    pub as_many : length numbers ≡ number_filled places
    pub reserved : room ≡ 256

  -- And the places have memory for just 256 too, so that both lists are as long in memory as they were made.
  pub record AreReserved (places : List (Option T)) (numbers : List ℕ) (of_places of_numbers : ℕ) : Type 0 where
    pub numbered : AreNumbered places numbers of_numbers
    pub kept : of_places ≡ 256

  -- the place was filled, and is empty; all else is as it was
  pub record Empties (places places' : List (Option T)) (k : ℕ) (x : T) : Type 0 where
    pub within : k < 256
    pub was : IsFilled places k x
    pub gone : places' ≡ slice_set places k None
    pub fewer : number_filled places' < number_filled places

  -- what a filled place has is made into another by P, and the empty ones stay empty
  pub record EachBy (P : T → T → Type 0) (places places' : List (Option T)) : Type 0 where
    pub empty : (k : ℕ) → IsEmpty places k → IsEmpty places' k
    pub filled : (k : ℕ) (x : T) → IsFilled places k x → (y : T) × IsFilled places' k y × P x y

  -- what one filled place has is made into another
  pub record ChangesAt (P : T → T → Type 0) (k : ℕ) (places places' : List (Option T)) : Type 0 where
    pub old : T
    pub new : T
    pub was : IsFilled places k old
    pub by : P old new
    pub is : places' ≡ slice_set places k (Some new)
