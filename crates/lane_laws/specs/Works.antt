-- What those that run transactions of a script share: lanes, lanes beside snapshots, and a pool.
use Rattle.std.specs.Prelude.{◌≡◌, ◌⊎◌, ℕ, ◌+◌, ◌<◌, ◌≤◌, List, length, slice_get, Option, Some, None, Contains}
use Rattle.std.specs.List.{AllByRecursion, AllZip, filter_map}
use Rattle.fine_model.specs.declared.Outcome.{Outcome}
use Rattle.fine_model.specs.declared.Outcome.TheVariants as outcome
use Rattle.fine_model.specs.declared.RunFault.{RunFault}
use Rattle.fine_model.specs.declared.ScriptTxn.{ScriptTxn}
use Rattle.fine_model.specs.History.{Commit}
use Rattle.fine_model.specs.Outcomes.{HasRun, IsHistoryOf, IsOutcomeOf}

-- ---- one that runs transactions by one pass

-- The transactions at some places of the script, from 0, what became of the first of them, in the order in which they were run, and the faults that ended it or left a
-- transaction. A lane has the places of its lane, and one fault at most; a worker of a pool has the places of those that it took and ran.
pub record Work : Type 0 where
  pub at : List ℕ
  pub done : List Outcome
  pub left : List RunFault

-- the commits of outcomes, with the places that they tell
abbrev pub placed_in : Outcome → Option (ℕ × Commit)
placed_in (outcome.Committed place epoch entry) = Some (place, record { entry = entry; epoch = epoch })
placed_in _ = None

abbrev pub placed_of : List Outcome → List (ℕ × Commit)
placed_of outcomes = filter_map placed_in outcomes

-- Each outcome is one of its transaction, which was run, and what was committed is all that its pass committed, at the places that it has in the history (`placed`).
pub record HasDone (script : List ScriptTxn) (placed : List (ℕ × Commit)) (w : Work) : Type 0 where
  pub count : length w.done ≤ length w.at
  pub within : AllByRecursion (λ i. i < length script) w.at
  pub each : (j i : ℕ) (txn : ScriptTxn) (next : Outcome) → slice_get w.at j ≡ Some i → slice_get script i ≡ Some txn → slice_get w.done j ≡ Some next → IsOutcomeOf txn next × HasRun next
  pub places : placed ≡ placed_of w.done
  pub numbered : (j i place : ℕ) (c : Commit) → slice_get w.at j ≡ Some i → slice_get w.done j ≡ Some (outcome.Committed place c.epoch c.entry) → c.entry.turn ≡ i + 1

-- ---- all of them

-- some work did the transaction at a place of the script, with this outcome
pub record IsDone (works : List Work) (i : ℕ) (next : Outcome) : Type 0 where
  pub work : ℕ
  pub place : ℕ
  pub is : Work
  pub there : slice_get works work ≡ Some is
  pub at : slice_get is.at place ≡ Some i
  pub done : slice_get is.done place ≡ Some next

-- the outcomes, put together by their places in the script: what some work did has its outcome, and any other transaction was not run
pub record Gathers (script : List ScriptTxn) (works : List Work) (outcomes : List Outcome) : Type 0 where
  pub count : length outcomes ≡ length script
  pub done : (i : ℕ) (next : Outcome) → IsDone works i next → slice_get outcomes i ≡ Some next
  pub only : (i : ℕ) (next : Outcome) → slice_get outcomes i ≡ Some next → (next ≡ outcome.NotRun) ⊎ IsDone works i next

-- the commits of works are those of the history, each once, at their places
pub record ArePlaced (history : List Commit) (placed : List (List (ℕ × Commit))) : Type 0 where
  pub there : (k place : ℕ) (c : Commit) (own : List (ℕ × Commit)) → slice_get placed k ≡ Some own → Contains own (place, c) → (before : ℕ) × (place ≡ before + 1) × (slice_get history before ≡ Some c)
  pub all : (place : ℕ) (c : Commit) → slice_get history place ≡ Some c → (k : ℕ) × (own : List (ℕ × Commit)) × (slice_get placed k ≡ Some own) × Contains own (place + 1, c)

-- Then the outcomes are those of this history, whoever ran them, and in whatever order.
abbrev pub WorksLaw : Type 0
WorksLaw =
    (script : List ScriptTxn) (history : List Commit) (placed : List (List (ℕ × Commit))) (works : List Work) (outcomes : List Outcome) → AllZip (HasDone script) placed works → ArePlaced history placed
    → Gathers script works outcomes → AllZip IsOutcomeOf script outcomes × IsHistoryOf outcomes history

-- a history with such outcomes has at most one commit a transaction
abbrev pub FewLaw : Type 0
FewLaw = (outcomes : List Outcome) (history : List Commit) → IsHistoryOf outcomes history → length history ≤ length outcomes
