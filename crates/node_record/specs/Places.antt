-- Where a key stands, or belongs, among items in the order of their keys.
use Rattle.std.specs.Prelude.{◌≡◌, ℕ, suc, ◌<◌, ◌≤◌, List, length, take, drop, filter, slice_get, Some}
use Rattle.fine_model.specs.Map.{is_below}

-- the item at this place has the key, those before it have lower keys, and those behind it higher ones
pub record StandsAt {A : Type 0} (name : A → List ℕ) (key : List ℕ) (items : List A) (i : ℕ) : Type 0 where
  pub within : i < length items
  pub here : (item : A) × (slice_get items i ≡ Some item) × (name item ≡ key)
  pub lower : filter (λ x. is_below (name x) key) items ≡ take i items
  pub higher : filter (λ x. is_below key (name x)) items ≡ drop (suc i) items

-- no item has the key: those before this place have lower keys, and the others higher ones
pub record BelongsAt {A : Type 0} (name : A → List ℕ) (key : List ℕ) (items : List A) (i : ℕ) : Type 0 where
  pub within : i ≤ length items
  pub lower : filter (λ x. is_below (name x) key) items ≡ take i items
  pub higher : filter (λ x. is_below key (name x)) items ≡ drop i items
