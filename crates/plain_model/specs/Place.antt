-- The place of a key among pairs in order.
use Rattle.std.specs.Prelude.{◌≡◌, ℕ, ◌≤◌, true, false, List, length, take, map, slice_get, Some, IsTrue}
use Rattle.std.specs.List.{AllByRecursion}
use Rattle.fine_model.specs.Map.{Pair, is_below, is_ascending}

-- the keys ascend
pub record Ascends (pairs : List Pair) : Type 0 where
  pub keys : IsTrue (is_ascending (map (λ p. p.0) pairs))

-- the pairs before a place have lower keys, and the pair at the place, if there is one, has none
pub record IsPlace (key : List ℕ) (pairs : List Pair) (i : ℕ) : Type 0 where
  pub within : i ≤ length pairs
  pub below : AllByRecursion (λ p. is_below p.0 key ≡ true) (take i pairs)
  pub here : (p : Pair) → slice_get pairs i ≡ Some p → is_below p.0 key ≡ false
