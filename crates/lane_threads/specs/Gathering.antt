-- Parts whose outcomes can be put together.
use Rattle.std.specs.Prelude.{◌≡◌, ℕ, ◌≤◌, List, length, slice_get, Some}
use Rattle.fine_model.specs.declared.ScriptTxn.{ScriptTxn}
use Rattle.lane_laws.specs.Lanes.{places_in}
use Rattle.lane_threads.specs.declared.worker.Part.{Part}

-- Each is of another lane, and has the places of its lane in the script, of which it ran the first.
pub record AreOfScript (script : List ScriptTxn) (parts : List Part) : Type 0 where
  pub apart : (j k : ℕ) (p q : Part) → slice_get parts j ≡ Some p → slice_get parts k ≡ Some q → p.lane.lane ≡ q.lane.lane → j ≡ k
  pub at : (k : ℕ) (p : Part) → slice_get parts k ≡ Some p → p.lane.work.at ≡ places_in script p.lane.lane
  pub count : (k : ℕ) (p : Part) → slice_get parts k ≡ Some p → length p.lane.work.done ≤ length p.lane.work.at
