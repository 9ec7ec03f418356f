use Rattle.std.proofs.Common.{◌≡◌, ℕ, ◌+◌, ◌≤◌, List, [], ◌++◌, drop}
use Rattle.fine_model.specs.Map.{Pair}
use Rattle.fine_model.specs.declared.Outcome.{Outcome}
use Rattle.fine_model.specs.declared.ScriptTxn.{ScriptTxn}
use Rattle.plain_model.specs.Place.{Ascends}
use Rattle.plain_model.specs.Plain.{outcomes_on}
use Rattle.plain_model.proofs.run.outcomes_of.Given as goal

-- the outcomes so far, and those of the transactions that are left, are the outcomes of all
pub record RanSoFar (pairs : List Pair) (turn next : ℕ) (script left : List ScriptTxn) (outcomes : List Outcome) : Type 0 where
  pub order : Ascends pairs
  pub place : next ≤ turn
  pub so_far : outcomes ++ outcomes_on pairs turn next left ≡ outcomes_on [] 1 1 script

abbrev pub invariant-loop-i : goal.invariant-loop-i
invariant-loop-i l = RanSoFar l.pairs (l.i + 1) l.place l.script (drop l.i l.script) l.outcomes
