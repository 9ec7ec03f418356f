-- What the text of a report tells.
use Rattle.std.proofs.Common.{◌≡◌, ◌==◌, false, ℕ, zero, suc, ◌+◌, List, [], ◌∷◌, ◌++◌, length, get_or, drop, map, zip, replicate, Option, Some, None, refl, sym, ap, ◌∙◌, arith, append_assoc}
use Rattle.std.proofs.lemmas.List.{append-nil, append_cancel_left}
use Rattle.std.proofs.lemmas.Bool.{eqb-false}
use Rattle.std.proofs.lemmas.Fmt.{decimal_injective}
use Rattle.std.specs.Prelude.{flat_map, codes, decimal}
use Rattle.std.specs.List.{AllByRecursion}
use Rattle.fine_model.specs.declared.Call.{Call}
use Rattle.fine_model.specs.declared.Reply.{Reply}
use Rattle.fine_model.specs.declared.ScriptTxn.{ScriptTxn}
use Rattle.fine_model.specs.declared.Why.{Why}
use Rattle.fine_model.specs.declared.Outcome.{Outcome}
use Rattle.fine_model.specs.declared.Ran.{Ran}
use Rattle.fine_model.specs.declared.RunFault.{RunFault}
use Rattle.fine_model.specs.declared.Call.TheVariants as call
use Rattle.fine_model.specs.declared.Reply.TheVariants as reply
use Rattle.fine_model.specs.declared.Why.TheVariants as why
use Rattle.fine_model.specs.declared.Outcome.TheVariants as outcome
use Rattle.fine_model.specs.declared.Damage.TheVariants as damage
use Rattle.fine_model.specs.declared.RunFault.TheVariants as run_fault
use Rattle.fine_model.specs.Map.{Pair}
use Rattle.fine_model.specs.NumberText.{number_text}
use Rattle.fine_model.specs.Report.{line, pair_line, reply_lines, why_word, txn_lines, fault_lines, all_outcomes, report}
use Rattle.script_text.specs.Reports.{txns_from}
use Rattle.script_text.specs.Marks.{TxnMark, committed, aborted, refused, not_run, mark_of, PairHasNoFeed, CallHasNoFeed, ReplyHasNoFeed, OutcomeHasNoFeed, FitsMark, IsTold, TextTells}
use Rattle.script_text.proofs.Feeds.{HasNo, has_no, no_append, no_decimal, no_number, split_first, from_t, HasNoT, no_t_line, no_t_append, no_t_each}

-- ---- the lines of replies and of the tail

no_t_pair : (pair : Pair) → PairHasNoFeed pair → HasNoT (pair_line pair)
no_t_pair pair h = no_t_line (codes "pair" ∷ pair.0 ∷ codes "=" ∷ pair.1 ∷ []) refl (has_no 10 (codes "pair") refl, (h.0, (has_no 10 (codes "=") refl, (h.1, tt))))

no_t_reply : (c : Call) (r : Reply) → CallHasNoFeed c → ReplyHasNoFeed r → HasNoT (reply_lines c r)
unfolding reply_lines
no_t_reply (call.Get key) (reply.Value told) c r = no_t_line (codes "get" ∷ key ∷ codes "=" ∷ told ∷ []) refl (has_no 10 (codes "get") refl, (c, (has_no 10 (codes "=") refl, (r, tt))))
no_t_reply (call.Get key) reply.Absent c r = no_t_line (codes "get" ∷ key ∷ codes "none" ∷ []) refl (has_no 10 (codes "get") refl, (c, (has_no 10 (codes "none") refl, tt)))
no_t_reply (call.Put key value) reply.Stored c r = no_t_line (codes "put" ∷ key ∷ []) refl (has_no 10 (codes "put") refl, (c.0, tt))
no_t_reply (call.Del key) reply.Absent c r = no_t_line (codes "del" ∷ key ∷ codes "none" ∷ []) refl (has_no 10 (codes "del") refl, (c, (has_no 10 (codes "none") refl, tt)))
no_t_reply (call.Del key) reply.Removed c r = no_t_line (codes "del" ∷ key ∷ []) refl (has_no 10 (codes "del") refl, (c, tt))
no_t_reply (call.Add key by) (reply.Sum sum) c r = no_t_line (codes "add" ∷ key ∷ codes "=" ∷ number_text sum ∷ []) refl (has_no 10 (codes "add") refl, (c, (has_no 10 (codes "=") refl, (no_number sum, tt))))
no_t_reply (call.Add key by) reply.NotNumber c r = no_t_line (codes "add" ∷ key ∷ codes "text" ∷ []) refl (has_no 10 (codes "add") refl, (c, (has_no 10 (codes "text") refl, tt)))
no_t_reply (call.Add key by) reply.OutOfRange c r = no_t_line (codes "add" ∷ key ∷ codes "range" ∷ []) refl (has_no 10 (codes "add") refl, (c, (has_no 10 (codes "range") refl, tt)))
no_t_reply (call.Scan low high limit) (reply.Found pairs) c r =
    no_t_append (line (codes "scan" ∷ low ∷ high ∷ decimal (length pairs) ∷ [])) (flat_map pair_line pairs)
    (no_t_line (codes "scan" ∷ low ∷ high ∷ decimal (length pairs) ∷ []) refl (has_no 10 (codes "scan") refl, (c.0, (c.1, (no_decimal 10 (length pairs) (omega arith), tt)))))
    (no_t_each pair_line PairHasNoFeed no_t_pair pairs r)
no_t_reply _ _ c r = λ rest. refl

no_t_replies : (calls : List Call) (replies : List Reply) → AllByRecursion CallHasNoFeed calls → AllByRecursion ReplyHasNoFeed replies
    → HasNoT (flat_map (λ p. reply_lines p.0 p.1) (zip calls replies))
no_t_replies [] replies c r = λ rest. refl
no_t_replies (x ∷ xs) [] c r = λ rest. refl
no_t_replies (x ∷ xs) (y ∷ ys) c r =
    no_t_append (reply_lines x y) (flat_map (λ p. reply_lines p.0 p.1) (zip xs ys)) (no_t_reply x y c.0 r.0) (no_t_replies xs ys c.1 r.1)

no_t_fault : (fault : Option RunFault) → HasNoT (fault_lines fault)
unfolding fault_lines
no_t_fault None = λ rest. refl
no_t_fault (Some run_fault.Memory) = λ rest. refl
no_t_fault (Some run_fault.Disk) = λ rest. refl
no_t_fault (Some (run_fault.Damaged (damage.Region region at_))) =
    no_t_line (codes "damaged" ∷ codes "region" ∷ decimal region ∷ codes "at" ∷ decimal at_ ∷ []) refl
    (has_no 10 (codes "damaged") refl, (has_no 10 (codes "region") refl, (no_decimal 10 region (omega arith), (has_no 10 (codes "at") refl, (no_decimal 10 at_ (omega arith), tt)))))
no_t_fault (Some (run_fault.Damaged (damage.Gap after region))) =
    no_t_line (codes "damaged" ∷ codes "region" ∷ decimal region ∷ codes "after" ∷ decimal after ∷ []) refl
    (has_no 10 (codes "damaged") refl, (has_no 10 (codes "region") refl, (no_decimal 10 region (omega arith), (has_no 10 (codes "after") refl, (no_decimal 10 after (omega arith), tt)))))
no_t_fault (Some (run_fault.Damaged (damage.Overlap region other))) =
    no_t_line (codes "damaged" ∷ codes "region" ∷ decimal region ∷ codes "over" ∷ decimal other ∷ []) refl
    (has_no 10 (codes "damaged") refl, (has_no 10 (codes "region") refl, (no_decimal 10 region (omega arith), (has_no 10 (codes "over") refl, (no_decimal 10 other (omega arith), tt)))))
no_t_fault (Some (run_fault.Damaged (damage.Node id))) =
    no_t_line (codes "damaged" ∷ codes "node" ∷ decimal id.bucket ∷ decimal id.number ∷ []) refl
    (has_no 10 (codes "damaged") refl, (has_no 10 (codes "node") refl, (no_decimal 10 id.bucket (omega arith), (no_decimal 10 id.number (omega arith), tt))))

-- what stands behind the transactions' lines
abbrev pub tail : Ran → List ℕ
tail ran = line (codes "durable" ∷ decimal ran.durable ∷ []) ++ fault_lines ran.fault

no_t_tail : (ran : Ran) → from_t false (tail ran) ≡ []
no_t_tail ran =
    ap (from_t false) (sym (append-nil (tail ran)))
    ∙ no_t_append (line (codes "durable" ∷ decimal ran.durable ∷ [])) (fault_lines ran.fault)
    (no_t_line (codes "durable" ∷ decimal ran.durable ∷ []) refl (has_no 10 (codes "durable") refl, (no_decimal 10 ran.durable (omega arith), tt)))
    (no_t_fault ran.fault) []

-- ---- the first line of a transaction

-- what its first line says behind its number
abbrev pub mark_text : TxnMark → List ℕ
mark_text (committed place epoch) = codes "commit" ++ 32 ∷ (decimal place ++ 32 ∷ (codes "epoch" ++ 32 ∷ decimal epoch))
mark_text aborted = codes "abort"
mark_text (refused why) = codes "refused" ++ 32 ∷ why_word why
mark_text not_run = codes "none"

-- texts with other first bytes
other_first : (a b : List ℕ) → a ≡ b → (get_or a 0 0 == get_or b 0 0) ≡ false → ⊥
other_first a b e other = let same : get_or a 0 0 ≡ get_or b 0 0 = ap (λ t. get_or t 0 0) e in eqb-false _ _ other same

same_why : (a b : Why) → why_word a ≡ why_word b → a ≡ b
same_why why.Large why.Large e = refl
same_why why.Bucket why.Bucket e = refl
same_why why.Full why.Full e = refl
same_why why.Number why.Number e = refl
same_why _ _ e = absurd (other_first _ _ e refl)

same_text : (a b : TxnMark) → FitsMark a → FitsMark b → mark_text a ≡ mark_text b → a ≡ b
same_text (committed place epoch) (committed place' epoch') p q e =
    let places : decimal place ++ 32 ∷ (codes "epoch" ++ 32 ∷ decimal epoch) ≡ decimal place' ++ 32 ∷ (codes "epoch" ++ 32 ∷ decimal epoch') = ap (drop 7) e in
    let s = split_first 32 (decimal place) (decimal place') _ _ (no_decimal 32 place (omega arith)) (no_decimal 32 place' (omega arith)) places in
    let one : place ≡ place' = decimal_injective place place' (omega (arith, p.0)) (omega (arith, q.0)) s.0 in
    let two : epoch ≡ epoch' = decimal_injective epoch epoch' (omega (arith, p.1)) (omega (arith, q.1)) (ap (drop 6) s.1) in
    λ i. committed (one i) (two i)
same_text aborted aborted p q e = refl
same_text (refused why) (refused why') p q e = ap refused (same_why why why' (ap (drop 8) e))
same_text not_run not_run p q e = refl
same_text _ _ p q e = absurd (other_first _ _ e refl)

no_feed_why : (why : Why) → HasNo 10 (why_word why)
no_feed_why why.Large = has_no 10 (codes "large") refl
no_feed_why why.Bucket = has_no 10 (codes "bucket") refl
no_feed_why why.Full = has_no 10 (codes "full") refl
no_feed_why why.Number = has_no 10 (codes "number") refl

no_feed_two : (a b : List ℕ) → HasNo 10 a → HasNo 10 b → HasNo 10 (a ++ 32 ∷ b)
no_feed_two a b p q = no_append 10 a (32 ∷ b) p (λ e. omega (arith, e), q)

no_feed_text : (m : TxnMark) → HasNo 10 (mark_text m)
no_feed_text (committed place epoch) =
    no_feed_two (codes "commit") _ (has_no 10 (codes "commit") refl)
    (no_feed_two (decimal place) _ (no_decimal 10 place (omega arith)) (no_feed_two (codes "epoch") (decimal epoch) (has_no 10 (codes "epoch") refl) (no_decimal 10 epoch (omega arith))))
no_feed_text aborted = has_no 10 (codes "abort") refl
no_feed_text (refused why) = no_feed_two (codes "refused") (why_word why) (has_no 10 (codes "refused") refl) (no_feed_why why)
no_feed_text not_run = has_no 10 (codes "none") refl

abbrev pub first_text : ℕ → TxnMark → List ℕ
first_text turn m = codes "txn" ++ 32 ∷ (decimal turn ++ 32 ∷ mark_text m)

no_feed_first : (turn : ℕ) (m : TxnMark) → HasNo 10 (first_text turn m)
no_feed_first turn m =
    no_feed_two (codes "txn") _ (has_no 10 (codes "txn") refl) (no_feed_two (decimal turn) (mark_text m) (no_decimal 10 turn (omega arith)) (no_feed_text m))

same_first : (turn : ℕ) (a b : TxnMark) → FitsMark a → FitsMark b → first_text turn a ≡ first_text turn b → a ≡ b
same_first turn a b p q e =
    let behind : decimal turn ++ 32 ∷ mark_text a ≡ decimal turn ++ 32 ∷ mark_text b = ap (drop 4) e in
    same_text a b p q (ap (drop 1) (append_cancel_left (decimal turn) (32 ∷ mark_text a) (32 ∷ mark_text b) behind))

-- its lines of replies
abbrev pub told_replies : Outcome → List ℕ
told_replies (outcome.Committed place epoch entry) = flat_map (λ p. reply_lines p.0 p.1) (zip entry.calls entry.replies)
told_replies outcome.Aborted = []
told_replies (outcome.Refused why) = []
told_replies outcome.NotRun = []

no_t_told : (o : Outcome) → OutcomeHasNoFeed o → HasNoT (told_replies o)
no_t_told (outcome.Committed place epoch entry) h = no_t_replies entry.calls entry.replies h.0 h.1
no_t_told outcome.Aborted h = λ rest. refl
no_t_told (outcome.Refused why) h = λ rest. refl
no_t_told outcome.NotRun h = λ rest. refl

-- a transaction's lines are its first line and those of its replies
txn_is : (turn : ℕ) (o : Outcome) → txn_lines turn o ≡ first_text turn (mark_of o) ++ 10 ∷ [] ++ told_replies o
unfolding txn_lines
txn_is turn (outcome.Committed place epoch entry) = refl
txn_is turn outcome.Aborted = sym (append-nil _)
txn_is turn (outcome.Refused why) = sym (append-nil _)
txn_is turn outcome.NotRun = sym (append-nil _)

txn_before : (turn : ℕ) (o : Outcome) (rest : List ℕ) → txn_lines turn o ++ rest ≡ first_text turn (mark_of o) ++ 10 ∷ (told_replies o ++ rest)
txn_before turn o rest =
    ap (λ t. t ++ rest) (txn_is turn o)
    ∙ append_assoc (first_text turn (mark_of o) ++ 10 ∷ []) (told_replies o) rest
    ∙ append_assoc (first_text turn (mark_of o)) (10 ∷ []) (told_replies o ++ rest)

-- ---- all transactions

txns_before : (turn : ℕ) (o : Outcome) (os : List Outcome) (rest : List ℕ)
    → from_t false (txns_from turn (o ∷ os) ++ rest) ≡ first_text turn (mark_of o) ++ 10 ∷ (told_replies o ++ (txns_from (turn + 1) os ++ rest))
txns_before turn o os rest =
    ap (from_t false) (append_assoc (txn_lines turn o) (txns_from (turn + 1) os) rest ∙ txn_before turn o (txns_from (turn + 1) os ++ rest))

same_marks : (turn : ℕ) (xs ys : List Outcome) (x y : List ℕ) → from_t false x ≡ [] → from_t false y ≡ [] → AllByRecursion IsTold xs → AllByRecursion IsTold ys
    → from_t false (txns_from turn xs ++ x) ≡ from_t false (txns_from turn ys ++ y) → map mark_of xs ≡ map mark_of ys
same_marks turn [] [] x y no_x no_y p q e = refl
same_marks turn [] (b ∷ bs) x y no_x no_y p q e = absurd (let none = sym no_x ∙ e ∙ txns_before turn b bs y in cc)
same_marks turn (a ∷ cs) [] x y no_x no_y p q e = absurd (let none = sym no_y ∙ sym e ∙ txns_before turn a cs x in cc)
same_marks turn (a ∷ cs) (b ∷ bs) x y no_x no_y p q e =
    let both = sym (txns_before turn a cs x) ∙ e ∙ txns_before turn b bs y in
    let s = split_first 10 (first_text turn (mark_of a)) (first_text turn (mark_of b)) _ _ (no_feed_first turn (mark_of a)) (no_feed_first turn (mark_of b)) both in
    let one : mark_of a ≡ mark_of b = same_first turn (mark_of a) (mark_of b) p.0.1 q.0.1 s.0 in
    let behind = sym (no_t_told a p.0.0 (txns_from (turn + 1) cs ++ x)) ∙ ap (from_t false) s.1 ∙ no_t_told b q.0.0 (txns_from (turn + 1) bs ++ y) in
    let more = same_marks (turn + 1) cs bs x y no_x no_y p.1 q.1 behind in
    λ i. one i ∷ more i

told_not_run : (n : ℕ) → AllByRecursion IsTold (replicate n outcome.NotRun)
told_not_run zero = tt
told_not_run (suc n) = ((tt, tt), told_not_run n)

told_all : (xs ys : List Outcome) → AllByRecursion IsTold xs → AllByRecursion IsTold ys → AllByRecursion IsTold (xs ++ ys)
told_all [] ys p q = q
told_all (x ∷ xs) ys p q = (p.0, told_all xs ys p.1 q)

report_is : (script : List ScriptTxn) (ran : Ran) → report script ran ≡ txns_from 1 (all_outcomes script ran.outcomes) ++ tail ran
unfolding report
report_is script ran = append_assoc (txns_from 1 (all_outcomes script ran.outcomes)) (line (codes "durable" ∷ decimal ran.durable ∷ [])) (fault_lines ran.fault)

pub text_tells : TextTells
text_tells one other r s p q e =
    same_marks 1 (all_outcomes one r.outcomes) (all_outcomes other s.outcomes) (tail r) (tail s) (no_t_tail r) (no_t_tail s)
    (told_all r.outcomes _ p (told_not_run _)) (told_all s.outcomes _ q (told_not_run _))
    (ap (from_t false) (sym (report_is one r) ∙ e ∙ report_is other s))
