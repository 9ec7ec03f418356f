-- Reports, part by part.
use Rattle.std.proofs.Common.{◌≡◌, ℕ, ◌+◌, ◌-◌, ◌≤◌, ◌<◌, List, [], ◌∷◌, ◌++◌, length, take, replicate, get_or, flat_map, map, zip, sym, ap, ◌∙◌, subst, arith, Bor}
use Rattle.std.specs.List.{enumerate_from}
use Rattle.std.proofs.lemmas.List.Folds.{flat_map-map}
use Rattle.std.proofs.lemmas.List.{append-nil, take_more, length-take-le, replicate-append-replicate, length-replicate}
use Rattle.std.proofs.lemmas.List.Concat.{flat_map-append}
use Rattle.fine_model.specs.declared.Call.{Call}
use Rattle.fine_model.specs.declared.Reply.{Reply}
use Rattle.fine_model.specs.declared.Outcome.{Outcome}
use Rattle.fine_model.specs.declared.Outcome.TheVariants as outcome
use Rattle.fine_model.specs.declared.ScriptTxn.{ScriptTxn}
use Rattle.fine_model.specs.declared.Ran.{Ran}
use Rattle.fine_model.specs.Report.{report, txn_lines, line, fault_lines, reply_lines}
use Rattle.std.specs.Prelude.{codes, decimal}
use Rattle.script_text.specs.Pages.{Desk, Sends}
use Rattle.script_text.specs.Reports.{txns_from}
use Rattle.script_text.proofs.Paging.{sends_then}

enumerate_append : {X : Type 0} (n : ℕ) (xs ys : List X) → enumerate_from n (xs ++ ys) ≡ enumerate_from n xs ++ enumerate_from (n + length xs) ys
enumerate_append n [] ys = ap (λ m. enumerate_from m ys) (omega arith)
enumerate_append n (x ∷ xs) ys =
    ap (λ t. (n, x) ∷ t) (enumerate_append (n + 1) xs ys ∙ ap (λ m. enumerate_from (n + 1) xs ++ enumerate_from m ys) (omega arith))

pub txns_append : (n : ℕ) (xs ys : List Outcome) → txns_from n (xs ++ ys) ≡ txns_from n xs ++ txns_from (n + length xs) ys
txns_append n xs ys =
    ap (flat_map (λ e. txn_lines e.0 e.1)) (enumerate_append n xs ys) ∙ flat_map-append (λ e. txn_lines e.0 e.1) (enumerate_from n xs) (enumerate_from (n + length xs) ys)

-- one more transaction
pub sends_txn : (n : ℕ) (xs ys : List Outcome) (x : Outcome) (turn : ℕ) (a b c : Desk) → ys ≡ xs ++ x ∷ [] → turn ≡ n + length xs
    → Sends (txns_from n xs) a b → Sends (txn_lines turn x) b c → Sends (txns_from n ys) a c
sends_txn n xs ys x turn a b c e t p q =
    subst (λ s. Sends s a c)
    (ap (λ s. txns_from n xs ++ s) (sym (append-nil (txn_lines turn x)) ∙ ap (λ m. txn_lines m x ++ []) t) ∙ sym (txns_append n xs (x ∷ [])) ∙ ap (txns_from n) (sym e))
    (sends_then (txns_from n xs) (txn_lines turn x) a b c p q)

pub sends_outcome : (xs : List Outcome) (i : ℕ) (x : Outcome) (a b c : Desk) → i < length xs → x ≡ get_or xs i x
    → Sends (txns_from 1 (take i xs)) a b → Sends (txn_lines (i + 1) x) b c → Sends (txns_from 1 (take (i + 1) xs)) a c
sends_outcome xs i x a b c l e p q =
    sends_txn 1 (take i xs) (take (i + 1) xs) x (i + 1) a b c
    (take_more xs i x l ∙ ap (λ y. take i xs ++ y ∷ []) (sym e))
    (sym (ap (λ m. 1 + m) (length-take-le i xs (omega arith)) ∙ omega arith)) p q

pub sends_not_run : (done i : ℕ) (a b c : Desk) → done ≤ i
    → Sends (txns_from (done + 1) (replicate (i - done) outcome.NotRun)) a b → Sends (txn_lines (i + 1) outcome.NotRun) b c
    → Sends (txns_from (done + 1) (replicate (i + 1 - done) outcome.NotRun)) a c
sends_not_run done i a b c l p q =
    sends_txn (done + 1) (replicate (i - done) outcome.NotRun) (replicate (i + 1 - done) outcome.NotRun) outcome.NotRun (i + 1) a b c
    (ap (λ m. replicate m outcome.NotRun) (omega arith) ∙ sym (replicate-append-replicate (i - done) 1 outcome.NotRun))
    (sym (ap (λ m. done + 1 + m) (length-replicate (i - done) outcome.NotRun) ∙ omega arith)) p q

-- the three parts of a report
pub sends_report : (script : List ScriptTxn) (ran : Ran) (faults : List ℕ) (a b c d e : Desk) → faults ≡ fault_lines ran.fault
    → Sends (txns_from 1 ran.outcomes) a b
    → Sends (txns_from (length ran.outcomes + 1) (replicate (length script - length ran.outcomes) outcome.NotRun)) b c
    → Sends (line (codes "durable" ∷ decimal ran.durable ∷ [])) c d
    → Sends faults d e
    → Sends (report script ran) a e
unfolding report
sends_report script ran faults a b c d e f p q r s =
    let rest = replicate (length script - length ran.outcomes) outcome.NotRun in
    let all : txns_from 1 ran.outcomes ++ txns_from (length ran.outcomes + 1) rest ≡ txns_from 1 (ran.outcomes ++ rest) =
    ap (λ n. txns_from 1 ran.outcomes ++ txns_from n rest) (omega arith) ∙ sym (txns_append 1 ran.outcomes rest) in
    subst (λ t. Sends t a e)
    (ap (λ t. t ++ line (codes "durable" ∷ decimal ran.durable ∷ []) ++ faults) all ∙ ap (λ t. txns_from 1 (ran.outcomes ++ rest) ++ line (codes "durable" ∷ decimal ran.durable ∷ []) ++ t) f)
    (sends_then _ faults a d e (sends_then _ (line (codes "durable" ∷ decimal ran.durable ∷ [])) a c d (sends_then _ _ a b c p q) r) s)

-- the replies that a loop over both lists said
pub sends_zipped : (calls : List Call) (replies : List Reply) (yielded : List (Bor Call × Bor Reply)) (a b : Desk)
    → map (λ p. (p.0.now, p.1.now)) yielded ≡ zip calls replies
    → Sends (flat_map (λ p. reply_lines p.0.now p.1.now) yielded) a b
    → Sends (flat_map (λ p. reply_lines p.0 p.1) (zip calls replies)) a b
sends_zipped calls replies yielded a b e p =
    subst (λ t. Sends t a b) (sym (flat_map-map (λ p. reply_lines p.0 p.1) (λ p. (p.0.now, p.1.now)) yielded) ∙ ap (flat_map (λ p. reply_lines p.0 p.1)) e) p
