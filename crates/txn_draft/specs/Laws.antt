-- What the laws of drafts say. Each is the contract of a function of its name.
use Rattle.std.specs.Prelude.{◌≡◌, ◌≢◌, ℕ, ◌≤◌, ◌==◌, true, List, [], ◌++◌, filter, All}
use Rattle.std.specs.List.{AllByRecursion, list_any}
use Rattle.fine_model.specs.declared.Call.{Call}
use Rattle.fine_model.specs.declared.Row.{Row}
use Rattle.fine_model.specs.History.{Commit, IsLegal, IsNext, all_rows}
use Rattle.fine_model.specs.Laws.{AreSmall}
use Rattle.fine_model.specs.Trees.{IsSound}
use Rattle.node_cache.specs.Cache.{Cache, IsResting}
use Rattle.btree_nodes.specs.Trees.{Holds, Restores}
use Rattle.txn_draft.specs.Drafts.{DraftValue, IsAnswered, blank, entry_of, is_here}
use Rattle.txn_draft.specs.Uses.{IsUsed}

-- a draft without calls is answered on sound rows
abbrev pub BlankLaw : Type 0
BlankLaw = (lane turn : ℕ) (rows : List Row) → AreSmall rows → IsSound rows → IsAnswered rows (blank lane turn)

-- a draft that is answered on a legal history may follow on it
abbrev pub NextLaw : Type 0
NextLaw = (first : List Row) (history : List Commit) (d : DraftValue) (epoch : ℕ) → AreSmall first → IsSound first → IsLegal first history → All (λ b. b.epoch ≤ epoch) history
    → IsAnswered (first ++ all_rows history) d → IsNext first history (record { entry = entry_of d; epoch = epoch })

-- a bucket at rest is as it was taken
abbrev pub TakenLaw : Type 0
TakenLaw = (low : ℕ) (b : Cache) → IsResting b → IsUsed low b b []

-- no row is of a bucket
abbrev pub AreElsewhere : Cache → List Row → Type 0
AreElsewhere b own = AllByRecursion (λ row. row.node.bucket ≢ b.bucket) own

-- rows of other buckets, which the transaction pushes, leave what a bucket holds
abbrev pub OthersLaw : Type 0
OthersLaw = (b : Cache) (rows log own : List Row) → Holds b rows log → AreElsewhere b own → Holds b rows (log ++ own)

-- and those that others commit meanwhile, behind the rows that it stands on
abbrev pub BetweenLaw : Type 0
BetweenLaw = (b : Cache) (rows log own : List Row) → Holds b rows log → AreElsewhere b own → Holds b (rows ++ own) log

-- they leave what undoing restores
abbrev pub RestoredLaw : Type 0
RestoredLaw = (b : Cache) (rows own : List Row) → Restores b rows → AreElsewhere b own → Restores b (rows ++ own)

-- rows of other buckets leave what was done to a bucket since it was taken
abbrev pub UsedLaw : Type 0
UsedLaw = (low : ℕ) (taken b : Cache) (rows own : List Row) → IsUsed low taken b rows → AreElsewhere b own → IsUsed low taken b (rows ++ own)

-- two lists of rows have the same rows in each bucket of some calls
pub record SameIn (calls : List Call) (rows rows' : List Row) : Type 0 where
  pub each : (k : ℕ) → list_any (is_here k) calls ≡ true → filter (λ row. row.node.bucket == k) rows' ≡ filter (λ row. row.node.bucket == k) rows

-- an answer depends on the rows in the buckets of its calls alone
abbrev pub LocalLaw : Type 0
LocalLaw = (rows rows' : List Row) (d : DraftValue) → AreSmall rows → AreSmall rows' → IsSound rows → IsSound rows' → SameIn d.calls rows rows' → IsAnswered rows d → IsAnswered rows' d
