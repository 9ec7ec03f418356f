-- A generated script, as far as it was made.
use Rattle.std.specs.Prelude.{◌≡◌, ℕ, ◌+◌, ◌-◌, ◌≤◌, List, ◌++◌, length}
use Rattle.std.specs.List.{AllByRecursion}
use Rattle.fine_model.specs.declared.ScriptTxn.{ScriptTxn}
use Rattle.fine_model.specs.Bounds.{FitsTxn}
use Rattle.fine_model.specs.Generator.{generated, txns_from}

-- the first i of count transactions are there, and the generator is in this state
pub record IsMade (start count lanes i : ℕ) (script : List ScriptTxn) (state : ℕ) : Type 0 where
  pub within : i ≤ count
  pub made : script ++ txns_from (count - i) lanes (i + 1) state ≡ generated start count lanes
  pub many : length script ≡ i
  pub fits : AllByRecursion FitsTxn script
