-- What a run takes before its hall.
use Rattle.std.specs.Prelude.{◌≡◌, ℕ, ◌+◌, ◌≤◌, ◌==◌, Bool, List, [], length, map, filter, replicate, slice_get, Some, vec_capacity}
use Rattle.std.specs.List.{list_any, range_with_len}
use Rattle.fine_model.specs.declared.Outcome.TheVariants as outcome
use Rattle.fine_model.specs.declared.ScriptTxn.{ScriptTxn}
use Rattle.run_laws.specs.Lanes.{most_lanes}
use Rattle.txn_engine.specs.Txns.{IsBlankTxn}
use Rattle.lane_runs.specs.Lane.{new_lane}
use Rattle.lane_threads.specs.declared.means.Means.{Means}
use Rattle.lane_threads.specs.declared.worker.Part.{Part}

-- a script has a transaction of a lane
abbrev pub names : List ScriptTxn → ℕ → Bool
names script lane = list_any (λ (txn : ScriptTxn). txn.lane == lane) script

-- the lanes of a script, in ascending order
unfoldable pub lanes_of : List ScriptTxn → List ℕ
lanes_of script = filter (names script) (range_with_len 1 most_lanes)

-- the part of a lane, of which nothing was run
abbrev pub IsNewPart : List ScriptTxn → ℕ → Part → Type 0
IsNewPart script lane part = (part.lane ≡ new_lane script lane) × IsBlankTxn part.txn

-- one for each lane of the script
pub record AreNewParts (script : List ScriptTxn) (parts : List Part) : Type 0 where
  pub lanes : map (λ (p : Part). p.lane.lane) parts ≡ lanes_of script
  pub each : (k : ℕ) (p : Part) → slice_get parts k ≡ Some p → IsNewPart script p.lane.lane p

-- all of it
pub record HasMeans {D E : Type 0} (script : List ScriptTxn) (m : Means D E) : Type 0 where
  pub outcomes : m.outcomes ≡ replicate (length script) outcome.NotRun
  pub parts : AreNewParts script m.parts.items
  pub workers : (m.workers.items ≡ []) × (length m.parts.items ≤ vec_capacity m.workers)
  pub stopped : (m.stopped.items ≡ []) × (length m.parts.items ≤ vec_capacity m.stopped)
  pub passes : (m.passes.items ≡ []) × (length m.parts.items + 2 ≤ vec_capacity m.passes)
