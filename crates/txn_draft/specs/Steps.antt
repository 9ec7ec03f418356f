-- One call in a bucket, without the lists of its transaction.
use Rattle.std.specs.Prelude.{◌≡◌, Bool, true, List, ◌++◌, Option, ℕ, Result, Ok, Err}
use Rattle.std.specs.Option.{option_to_list}
use Rattle.fine_model.specs.declared.Call.{Call}
use Rattle.fine_model.specs.declared.FetchFault.{FetchFault}
use Rattle.fine_model.specs.declared.Reply.{Reply}
use Rattle.fine_model.specs.declared.Row.{Row}
use Rattle.fine_model.specs.declared.Write.{Write}
use Rattle.fine_model.specs.Map.{Pair}
use Rattle.fine_model.specs.Pushed.{key_of}
use Rattle.fine_model.specs.Store.{answer}
use Rattle.fine_model.specs.Trees.{map_of, IsSound}
use Rattle.node_cache.specs.Cache.{Cache}
use Rattle.node_cache.specs.Given.{Finds}
use Rattle.btree_nodes.specs.declared.fault.TreeFault.{TreeFault}
use Rattle.btree_nodes.specs.declared.fault.TreeFault.TheVariants.{NoMemory}
use Rattle.btree_nodes.specs.Trees.{Serves, Holds, pairs_in}
use Rattle.btree_nodes.specs.Calls.{IsChange, SoundOutcome}
use Rattle.txn_draft.specs.Drafts.{DraftValue, noted}

-- a reply with what is written
abbrev pub Made : Type 0
Made = Reply × Option Write

-- it is the store's on some pairs
abbrev pub IsMade : List Pair → Call → Made → Type 0
IsMade pairs c made = (made.0, option_to_list made.1) ≡ answer pairs c

-- The call was done in a bucket, or refused: a change of its tree, answered on the pairs of the key's leaf, and on sound rows the store's
-- answer.
pub record IsStep {A : Type 0} (tells : List Row → Type 0) (finds : Finds) (upper : ℕ) (old new : Cache) (log log' : List Row) (c : Call) (P : List Pair → A → Type 0) (Failed : FetchFault → Type 0) (r : Result A TreeFault) : Type 0 where
  pub change : IsChange tells finds upper old new log log' c (λ mid. P (pairs_in mid (key_of c))) Failed r
  pub sound : (rows : List Row) → Serves tells old rows → Holds old rows log → IsSound (rows ++ log) → SoundOutcome rows log log' new c (P (map_of (rows ++ log))) r

-- an answer is want of memory
abbrev pub wants_memory : {A : Type 0} → Result A TreeFault → Bool → Bool
wants_memory (Err NoMemory) before = true
wants_memory _ before = before

-- A call was tried for a draft: with Ok it is kept with the step's reply and writes. A refusal but want of memory leaves the draft.
abbrev pub IsTried : (List Row → Type 0) → Finds → ℕ → Cache → Cache → DraftValue → DraftValue → Call → (FetchFault → Type 0) → Result (Unit {0}) TreeFault → Type 0
IsTried tells finds upper b b' d d' c Failed (Ok done) =
    (made : Made) × (d' ≡ noted (record d { rows = d'.rows }) c made.0 (option_to_list made.1)) × IsStep tells finds upper b b' d.rows d'.rows c (λ pairs. IsMade pairs c) Failed (Ok made)
IsTried tells finds upper b b' d d' c Failed (Err NoMemory) = IsStep {A = Made} tells finds upper b b' d.rows d'.rows c (λ pairs. IsMade pairs c) Failed (Err NoMemory)
IsTried tells finds upper b b' d d' c Failed (Err fault) = IsStep {A = Made} tells finds upper b b' d.rows d'.rows c (λ pairs. IsMade pairs c) Failed (Err fault) × (d' ≡ d)
