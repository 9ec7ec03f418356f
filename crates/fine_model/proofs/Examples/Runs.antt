-- Whole runs of one lane, from the bytes of the script to the bytes of the report.
use Rattle.std.proofs.Common.{◌≡◌, ℕ, ◌+◌, false, List, [], ◌∷◌, ◌++◌, None, Ok, Err, refl, map}
use Rattle.std.specs.Prelude.{◌==◌, if◌then◌else◌, codes, Result, flat_map}
use Rattle.std.specs.Fmt.{digits}
use Rattle.fine_model.specs.Types.{ScriptTxn, Outcome, Ending}
use Rattle.fine_model.specs.Types.ending
use Rattle.fine_model.specs.Types.outcome
use Rattle.fine_model.specs.Map.{Pair, map_after, get, set, unset, between}
use Rattle.fine_model.specs.Store.{replies_to, writes_of, number_at, sum_answer, add_answer, answer}
use Rattle.fine_model.specs.Script.{Refusal, script_of, many, too_long, bad_line, script_from, lines, line_added, meaning, pieces, without_return, said}
use Rattle.fine_model.specs.Report.{report, script_line, fault_lines, reply_lines, txn_lines}
use Rattle.fine_model.proofs.Examples.Splits.{keys}
use Rattle.fine_model.specs.NumberText.{number_text, number_of}

-- a text with `|` for each line feed
abbrev text : List ℕ → List ℕ
text bytes = map (λ b. if b == 124 then 10 else b) bytes

-- the outcome of a transaction at a place
abbrev committed : (ℕ → ℕ) → List Pair → ℕ → ℕ → ScriptTxn → Outcome
committed epochs m turn place t = outcome.Committed place (epochs place) (record { lane = t.lane; turn = turn; calls = t.calls; replies = replies_to m t.calls; writes = writes_of m t.calls; rows = [] })

abbrev by_ending : {A : Type 0} → Ending → A → A → A
by_ending ending.Commit a b = a
by_ending ending.Abort a b = b

-- the outcomes of transactions one after another, at the places from one on, with the epoch of each place
abbrev outcomes_of : (ℕ → ℕ) → List Pair → ℕ → ℕ → List ScriptTxn → List Outcome
outcomes_of epochs m turn place [] = []
outcomes_of epochs m turn place (t ∷ ts) =
    by_ending t.ending (committed epochs m turn place t) outcome.Aborted
    ∷ outcomes_of epochs (by_ending t.ending (map_after m (writes_of m t.calls)) m) (turn + 1) (by_ending t.ending (place + 1) place) ts

abbrev printed : (ℕ → ℕ) → ℕ → Result (List ScriptTxn) Refusal → List ℕ
printed epochs durable (Ok script) = report script (record { outcomes = outcomes_of epochs [] 1 1 script; durable = durable; fault = None; unsealed = false })
printed epochs durable (Err (many n)) = script_line n
printed epochs durable (Err (too_long n)) = script_line n
printed epochs durable (Err (bad_line n)) = script_line n

abbrev output : List ℕ → List ℕ
output bytes = printed (λ place. 1) 1 (script_of (text bytes))

pub nothing_committed : printed (λ place. 1) 0 (script_of []) ≡ text (codes "durable 0|")
unfolding digits number_text number_of number_at sum_answer add_answer answer replies_to writes_of get set unset between map_after lines without_return pieces said meaning line_added script_from script_of reply_lines txn_lines fault_lines report
nothing_committed = refl

-- scripts, and the reports of their runs
abbrev Print : List (List ℕ × List ℕ) → Type 0
Print table = map (λ row. output row.0) table ≡ map (λ row. text row.1) table

-- transactions that commit or abort, without calls, and with each kind of call; a lane that is none, and scripts that end within a transaction or without a line feed
pub runs_print : Print (
    (codes "txn 1|put a 1|get a|commit|", codes "txn 1 commit 1 epoch 1|put a|get a = 1|durable 1|")
    ∷ (codes "txn 1|commit|txn 1|get x|commit|", codes "txn 1 commit 1 epoch 1|txn 2 commit 2 epoch 1|get x none|durable 1|")
    ∷ (codes "txn 1|put a none|get a|get b|commit|", codes "txn 1 commit 1 epoch 1|put a|get a = none|get b none|durable 1|")
    ∷ (codes "txn 1|put a 1|commit|txn 1|put a 2|abort|txn 1|get a|commit|", codes "txn 1 commit 1 epoch 1|put a|txn 2 abort|txn 3 commit 2 epoch 1|get a = 1|durable 1|")
    ∷ (codes "txn 1|del b|put b 5|del b|del b|put b 6|get b|commit|", codes "txn 1 commit 1 epoch 1|del b none|put b|del b|del b none|put b|get b = 6|durable 1|")
    ∷ (codes "txn 1|add c 5|put t x|add t 1|put m 9223372036854775807|add m 1|get m|add m -9223372036854775808|commit|", codes "txn 1 commit 1 epoch 1|add c = 5|put t|add t text|put m|add m range|get m = 9223372036854775807|add m = -1|durable 1|")
    ∷ (codes "txn 1|put b 2|put aa 1|put a 0|scan a a 5|scan a z 0|scan a c 10|commit|", codes "txn 1 commit 1 epoch 1|put b|put aa|put a|scan a a 0|scan a z 0|scan a c 3|pair a = 0|pair aa = 1|pair b = 2|durable 1|")
    ∷ (codes "txn 1|put acct:alice 100|put acct:bob 50|commit|txn 1|add acct:alice -30|add acct:bob 30|commit|txn 1|scan acct: acct; 10|commit|", codes "txn 1 commit 1 epoch 1|put acct:alice|put acct:bob|txn 2 commit 2 epoch 1|add acct:alice = 70|add acct:bob = 80|txn 3 commit 3 epoch 1|scan acct: acct; 2|pair acct:alice = 70|pair acct:bob = 80|durable 1|")
    ∷ (codes "txn 17|", codes "script line 1|")
    ∷ (codes "txn 1|put a 1|", codes "script line 3|")
    ∷ (codes "txn 1|put a 1", codes "script line 3|")
    ∷ (codes "txn 1|put a 1|get a|commit", codes "txn 1 commit 1 epoch 1|put a|get a = 1|durable 1|")
    ∷ [])
unfolding digits number_text number_of number_at sum_answer add_answer answer replies_to writes_of get set unset between map_after lines without_return pieces said meaning line_added script_from script_of reply_lines txn_lines fault_lines report
runs_print = refl

-- `&` for a carriage return
abbrev with_returns : List ℕ → List ℕ
with_returns bytes = map (λ b. if b == 38 then 13 else b) bytes

pub returns_dropped : output (with_returns (codes "txn 1&|put a 1&|get a&|commit&|")) ≡ text (codes "txn 1 commit 1 epoch 1|put a|get a = 1|durable 1|")
unfolding digits number_text number_of number_at sum_answer add_answer answer replies_to writes_of get set unset between map_after lines without_return pieces said meaning line_added script_from script_of reply_lines txn_lines fault_lines report
returns_dropped = refl

-- 33 keys in three transactions, each in an epoch of its own
abbrev many_puts : List ℕ
many_puts = codes "txn 1|" ++ flat_map (λ k. codes "put " ++ k ++ codes " 1|") keys ++ codes "commit|txn 1|put AaAaAaAaC# 1|commit|txn 1|scan AaBBBBBBBB BBAaAaAaBB 9|commit|"

pub one_from_each_leaf : printed (λ place. place) 3 (script_of (text many_puts))
    ≡ text (codes "txn 1 commit 1 epoch 1|" ++ flat_map (λ k. codes "put " ++ k ++ codes "|") keys
    ++ codes "txn 2 commit 2 epoch 2|put AaAaAaAaC#|txn 3 commit 3 epoch 3|scan AaBBBBBBBB BBAaAaAaBB 2|pair AaBBBBBBBB = 1|pair BBAaAaAaAa = 1|durable 3|")
unfolding digits number_text number_of number_at sum_answer add_answer answer replies_to writes_of get set unset between map_after lines without_return pieces said meaning line_added script_from script_of reply_lines txn_lines fault_lines report
one_from_each_leaf = refl
