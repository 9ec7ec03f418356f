-- A run of a script on an empty store in memory, one transaction after another.
use Rattle.std.specs.Prelude.{ℕ, ◌+◌, if◌then◌else◌, false, List, [], ◌∷◌, None, Result, Ok, Err}
use Rattle.std.specs.List.{list_any}
use Rattle.fine_model.specs.declared.Ending.{Ending}
use Rattle.fine_model.specs.declared.Ending.TheVariants as ending
use Rattle.fine_model.specs.declared.Entry.{Entry}
use Rattle.fine_model.specs.declared.Outcome.{Outcome}
use Rattle.fine_model.specs.declared.Outcome.TheVariants as outcome
use Rattle.fine_model.specs.declared.Ran.{Ran}
use Rattle.fine_model.specs.declared.Reason.TheVariants as reason
use Rattle.fine_model.specs.declared.ScriptTxn.{ScriptTxn}
use Rattle.fine_model.specs.Map.{Pair, map_after}
use Rattle.fine_model.specs.Script.{is_commit}
use Rattle.fine_model.specs.Report.{report, reason_bytes}
use Rattle.fine_model.specs.Script.{Refusal, many, too_long, bad_line, script_of}
use Rattle.fine_model.specs.Store.{replies_to, writes_of}

-- the entry of a transaction on a map; it has no rows, as no log is written
abbrev pub entry_on : List Pair → ℕ → ScriptTxn → Entry
entry_on m turn txn = record { lane = txn.lane; turn = turn; calls = txn.calls; replies = replies_to m txn.calls; writes = writes_of m txn.calls; rows = [] }

-- what becomes of a transaction at the next place: all that is committed is in epoch 1
abbrev pub outcome_at : Ending → ℕ → Entry → Outcome
outcome_at ending.Commit place entry = outcome.Committed place 1 entry
outcome_at ending.Abort place entry = outcome.Aborted

-- the map that it leaves, and the next place behind it
abbrev pub map_behind : Ending → List Pair → ScriptTxn → List Pair
map_behind ending.Commit m txn = map_after m (writes_of m txn.calls)
map_behind ending.Abort m txn = m

abbrev pub place_behind : Ending → ℕ → ℕ
place_behind ending.Commit place = place + 1
place_behind ending.Abort place = place

-- the outcomes of transactions on a map, from a turn and a next place on
unfoldable pub outcomes_on : List Pair → ℕ → ℕ → List ScriptTxn → List Outcome
outcomes_on m turn place [] = []
outcomes_on m turn place (txn ∷ txns) =
    outcome_at txn.ending place (entry_on m turn txn) ∷ outcomes_on (map_behind txn.ending m txn) (turn + 1) (place_behind txn.ending place) txns

-- the last epoch of a script's run: 1 where some transaction is committed
abbrev pub last_epoch : List ScriptTxn → ℕ
last_epoch script = if list_any (λ txn. is_commit txn.ending) script then 1 else 0

abbrev pub plain_run : List ScriptTxn → Ran
plain_run script = record { outcomes = outcomes_on [] 1 1 script; durable = last_epoch script; fault = None; unsealed = false }

-- what is printed of a script that was read or refused
abbrev pub printed : Result (List ScriptTxn) Refusal → List ℕ
printed (Ok script) = report script (plain_run script)
printed (Err (many line)) = reason_bytes (reason.Script line)
printed (Err (too_long line)) = reason_bytes (reason.Script line)
printed (Err (bad_line line)) = reason_bytes (reason.Script line)

-- the text that a script's bytes give
unfoldable pub plain_output : List ℕ → List ℕ
plain_output bytes = printed (script_of bytes)
