-- A lane as a worker has it.
use Rattle.std.specs.Prelude.{◌≡◌, ◌<◌, Bool, true, false, List, [], ◌∷◌, ◌++◌, length, slice_get, Option, Some, ℕ}
use Rattle.fine_model.specs.declared.Outcome.{Outcome}
use Rattle.fine_model.specs.declared.RunFault.{RunFault}
use Rattle.fine_model.specs.declared.ScriptTxn.{ScriptTxn}
use Rattle.lane_laws.specs.Lanes.{LaneValue, places_in}
use Rattle.lane_runs.specs.declared.run.Stop.{Stop}
use Rattle.lane_runs.specs.declared.run.Stop.TheVariants as stop

-- a lane of a script, of which nothing was run
abbrev pub new_lane : List ScriptTxn → ℕ → LaneValue
new_lane script lane = record { lane = lane; work = record { at = places_in script lane; done = []; left = [] } }

-- the place of its next transaction in the script, from 0
abbrev pub next_of : LaneValue → Option ℕ
next_of w = slice_get w.work.at (length w.work.done)

-- with an outcome more
abbrev pub with_outcome : LaneValue → Outcome → LaneValue
with_outcome w o = record { lane = w.lane; work = record { at = w.work.at; done = w.work.done ++ o ∷ []; left = w.work.left } }

-- ended by a fault
abbrev pub with_fault : LaneValue → RunFault → LaneValue
with_fault w fault = record { lane = w.lane; work = record { at = w.work.at; done = w.work.done; left = fault ∷ [] } }

-- a worker stopped with transactions that are left
abbrev pub is_aside : Stop → Bool
is_aside stop.Aside = true
is_aside stop.Done = false

-- no place stands twice in a list
abbrev pub AreApart : List ℕ → Type 0
AreApart at = (j m i : ℕ) → slice_get at j ≡ Some i → slice_get at m ≡ Some i → j ≡ m

-- The outcomes of what a lane ran are moved to their places in a list. All other items of the list stay.
pub record MovesDone (w : LaneValue) (old new : List Outcome) : Type 0 where
  pub count : length new ≡ length old
  pub done : (j i : ℕ) (o : Outcome) → slice_get w.work.at j ≡ Some i → slice_get w.work.done j ≡ Some o → slice_get new i ≡ Some o
  pub others : (i : ℕ) → ((j : ℕ) → j < length w.work.done → slice_get w.work.at j ≡ Some i → ⊥) → slice_get new i ≡ slice_get old i
