-- Laws of what stands in the buckets that a pass holds while others commit, each the contract of a function.
use Rattle.std.specs.Prelude.{◌≡◌, ◌≢◌, ℕ, ◌<◌, ◌==◌, false, List, [], ◌++◌, filter, Option, Some}
use Rattle.std.specs.List.{AllByRecursion}
use Rattle.fine_model.specs.declared.Entry.{Entry}
use Rattle.fine_model.specs.declared.Row.{Row}
use Rattle.fine_model.specs.Buckets.{IsBucketFor}
use Rattle.fine_model.specs.History.{Commit, all_rows}
use Rattle.fine_model.specs.Nodes.{Content}
use Rattle.fine_places.specs.History as places
use Rattle.fine_hall.specs.declared.law.Beginning.{Beginning}
use Rattle.fine_hall.specs.declared.pass.Pass.{Pass}
use Rattle.fine_hall.specs.Turns.{added, is_in}
use Rattle.fine_hall.specs.Passes.{published, seen, HasPlace}
use Rattle.fine_hall.specs.Halls.{SeesMore}

-- The rows of what a pass saw more are behind those that it saw, and none is of a bucket that it holds.
pub record AddsElsewhere {V : Type 0} (p p' : Pass V) : Type 0 where
  pub more : List Row
  pub behind : all_rows (seen p') ≡ all_rows (seen p) ++ more
  pub elsewhere : (k : ℕ) → k < places.room → HasPlace p k → AllByRecursion (λ row. row.node.bucket ≢ k) more
  pub none : (k : ℕ) → k < places.room → HasPlace p k → filter (λ row. row.node.bucket == k) more ≡ []

abbrev pub RowsElsewhere : Type 0 → Type 0
RowsElsewhere V = (p p' : Pass V) → SeesMore p p' → AddsElsewhere p p'

module _ {B : Type 0} (bucket : B → ℕ) (cached : B → ℕ → Option (Content × ℕ)) (is_settled : B → Type 0) where
  -- what a bucket that the pass holds stood for it stands for once the pass saw more
  abbrev pub HeldStands : Type 0 → Type 0
  HeldStands V =
      (x : Beginning) (p p' : Pass V) (k : ℕ) (b : B) → k < places.room → HasPlace p k → SeesMore p p'
      → IsBucketFor bucket cached is_settled x.log k (published p) b (seen p) → IsBucketFor bucket cached is_settled x.log k (published p') b (seen p')

  -- and so it does with an entry more that is not in it
  abbrev pub BesideStands : Type 0
  BesideStands =
      (x : Beginning) (k published : ℕ) (b : B) (history : List Commit) (entry : Entry) (epoch : ℕ) → is_in k entry ≡ false
      → IsBucketFor bucket cached is_settled x.log k published b history → IsBucketFor bucket cached is_settled x.log k published b (history ++ added (Some entry) epoch)
