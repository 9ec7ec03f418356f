-- A script that bytes spell holds no line feed.
use Rattle.std.proofs.Common.{◌≡◌, ◌≢◌, ◌==◌, ◌&&◌, Bool, true, false, cond, if◌then◌else◌, ℕ, ◌+◌, ◌<◌, ◌≤◌, nat_lt, List, [], ◌∷◌, ◌++◌, length, Option, Some, None, option_map, Ok, IfSome, refl, sym, ◌∙◌, subst, arith, length-append}
use Rattle.std.specs.Prelude.{find, bytes_eq, codes, ⊤}
use Rattle.std.specs.List.{AllByRecursion, list_all}
use Rattle.std.proofs.lemmas.Bool.{eqb-false}
use Rattle.std.proofs.lemmas.Bool.Decides.{nat_tests}
use Rattle.fine_model.specs.declared.Call.{Call}
use Rattle.fine_model.specs.declared.Call.TheVariants as call
use Rattle.fine_model.specs.declared.Ending.TheVariants as ending
use Rattle.fine_model.specs.declared.ScriptTxn.{ScriptTxn}
use Rattle.fine_model.specs.NumberText.{number_of}
use Rattle.fine_model.specs.Script.{lines, onto_first, without_return, pieces, words, natural_of, Line, skipped, begins, calls, ends, faulty, is_key, is_value, line_or_faulty, by_word, when, said, is_comment, is_printable, meaning, Reading, line_added, script_from, script_of}
use Rattle.fine_model.proofs.Ordered.Sets.{all_append, all_filter}
use Rattle.script_text.specs.Marks.{HasNoFeed, CallHasNoFeed}
use Rattle.script_text.proofs.Grammars.{script_step, script_bad, script_long, script_many}

-- ---- lines and words

onto_first_all : (b : ℕ) (ps : List (List ℕ)) → b ≢ 10 → AllByRecursion HasNoFeed ps → AllByRecursion HasNoFeed (onto_first b ps)
onto_first_all b [] n all = ((n, tt), tt)
onto_first_all b (p ∷ ps) n all = ((n, all.0), all.1)

lines_all : (bytes : List ℕ) → AllByRecursion HasNoFeed (lines bytes)
unfolding lines
lines_all [] = tt
lines_all (b ∷ bs) = by (b == 10) refl (lines_all bs)
  where
    by : (t : Bool) → (b == 10) ≡ t → AllByRecursion HasNoFeed (lines bs) → AllByRecursion HasNoFeed (if t then [] ∷ lines bs else onto_first b (lines bs))
    by true e rest = (tt, rest)
    by false e rest = onto_first_all b (lines bs) (eqb-false b 10 e) rest

pieces_all : (line : List ℕ) → HasNoFeed line → AllByRecursion HasNoFeed (pieces line)
unfolding pieces
pieces_all [] h = (tt, tt)
pieces_all (b ∷ bs) h = by (b == 32) (pieces_all bs h.1)
  where
    by : (t : Bool) → AllByRecursion HasNoFeed (pieces bs) → AllByRecursion HasNoFeed (if t then [] ∷ pieces bs else onto_first b (pieces bs))
    by true rest = (tt, rest)
    by false rest = onto_first_all b (pieces bs) h.0 rest

return_all : (line : List ℕ) → HasNoFeed line → HasNoFeed (without_return line)
unfolding without_return
return_all [] h = tt
return_all (b ∷ []) h = by (b == 13)
  where
    by : (t : Bool) → HasNoFeed (if t then [] else b ∷ [])
    by true = tt
    by false = h
return_all (b ∷ c ∷ bs) h = (h.0, return_all (c ∷ bs) h.1)

words_all : (line : List ℕ) → HasNoFeed line → AllByRecursion HasNoFeed (words line)
words_all line h = all_filter HasNoFeed _ (pieces line) (pieces_all line h)

-- ---- what words say

-- a call that a line says
abbrev LineHasNoFeed : Line → Type 0
LineHasNoFeed (calls c) = CallHasNoFeed c
LineHasNoFeed skipped = ⊤
LineHasNoFeed (begins lane) = ⊤
LineHasNoFeed (ends how) = ⊤
LineHasNoFeed faulty = ⊤

when_all : (t : Bool) (line : Line) → LineHasNoFeed line → LineHasNoFeed (when t line)
when_all true line h = h
when_all false line h = tt

some_all : {A : Type 0} (f : A → Line) (o : Option A) → ((x : A) → LineHasNoFeed (f x)) → LineHasNoFeed (line_or_faulty (option_map f o))
some_all f None h = tt
some_all f (Some x) h = h x

by_word_all : (word : List ℕ) (cases : List (List ℕ × Line)) → AllByRecursion (λ c. LineHasNoFeed c.1) cases → LineHasNoFeed (by_word word cases)
by_word_all word [] all = tt
by_word_all word (c ∷ cs) all = by (bytes_eq c.0 word) (by_word_all word cs all.1)
  where
    behind : Option (List ℕ × Line)
    behind = find (λ d. bytes_eq d.0 word) cs

    by : (t : Bool) → LineHasNoFeed (line_or_faulty (option_map (λ d. d.1) behind)) → LineHasNoFeed (line_or_faulty (option_map (λ d. d.1) (cond t (Some c) behind)))
    by true rest = all.0
    by false rest = rest

said_all : (ws : List (List ℕ)) → AllByRecursion HasNoFeed ws → LineHasNoFeed (said ws)
unfolding said
said_all [] h = tt
said_all (w ∷ []) h = by_word_all w ((codes "commit", ends ending.Commit) ∷ (codes "abort", ends ending.Abort) ∷ []) (tt, (tt, tt))
said_all (w ∷ a ∷ []) h =
    let lane : Line = line_or_faulty (option_map begins (natural_of 1 16 a)) in
    by_word_all w ((codes "txn", lane) ∷ (codes "get", when (is_key a) (calls (call.Get a))) ∷ (codes "del", when (is_key a) (calls (call.Del a))) ∷ [])
    (some_all begins (natural_of 1 16 a) (λ n. tt), (when_all (is_key a) (calls (call.Get a)) h.1.0, (when_all (is_key a) (calls (call.Del a)) h.1.0, tt)))
said_all (w ∷ a ∷ b ∷ []) h =
    let add : Line = line_or_faulty (option_map (λ by. calls (call.Add a by)) (number_of b)) in
    by_word_all w ((codes "put", when (is_key a && is_value b) (calls (call.Put a b))) ∷ (codes "add", when (is_key a) add) ∷ [])
    (when_all (is_key a && is_value b) (calls (call.Put a b)) (h.1.0, h.1.1.0), (when_all (is_key a) add (some_all (λ by. calls (call.Add a by)) (number_of b) (λ by. h.1.0)), tt))
said_all (w ∷ a ∷ b ∷ c ∷ []) h =
    let scan : Line = line_or_faulty (option_map (λ limit. calls (call.Scan a b limit)) (natural_of 0 10000 c)) in
    by_word_all w ((codes "scan", when (is_key a && is_key b) scan) ∷ [])
    (when_all (is_key a && is_key b) scan (some_all (λ limit. calls (call.Scan a b limit)) (natural_of 0 10000 c) (λ limit. (h.1.0, h.1.1.0))), tt)
said_all (w ∷ a ∷ b ∷ c ∷ d ∷ ws) h = tt

meaning_all : (line : List ℕ) → HasNoFeed line → LineHasNoFeed (meaning line)
unfolding meaning
meaning_all line h = by (words (without_return line)) refl (words_all (without_return line) (return_all line h))
  where
    by : (ws : List (List ℕ)) → words (without_return line) ≡ ws → AllByRecursion HasNoFeed (words (without_return line)) → LineHasNoFeed (meaning line)
    by [] e all = rw (e, meaning) tt
    by (w ∷ ws) e all = rw (e, meaning) (of (is_comment (w ∷ ws)) (list_all is_printable (without_return line)))
      where
        told : LineHasNoFeed (said (w ∷ ws))
        told = said_all (w ∷ ws) (subst (AllByRecursion HasNoFeed) e all)

        of : (t u : Bool) → LineHasNoFeed (if t then skipped else (if u then said (w ∷ ws) else faulty))
        of true u = tt
        of false true = told
        of false false = tt

-- ---- what was read

-- a transaction whose calls hold none
abbrev pub TxnHasNoFeed : ScriptTxn → Type 0
TxnHasNoFeed txn = AllByRecursion CallHasNoFeed txn.calls

record IsReading (r : Reading) : Type 0 where
  pub done : AllByRecursion TxnHasNoFeed r.done
  pub few : length r.done ≤ 100000
  pub open_txn : IfSome r.open_txn (λ t. AllByRecursion CallHasNoFeed t.1 × (length r.done < 100000))

added_all : (done : List ScriptTxn) (open_txn : Option (ℕ × List Call)) (line : Line) (s : Reading) → IsReading (record { done = done; open_txn = open_txn }) → LineHasNoFeed line
    → line_added (record { done = done; open_txn = open_txn }) line ≡ Some s → IsReading s
unfolding line_added
added_all done open_txn skipped s read h e = let same : record { done = done; open_txn = open_txn } ≡ s = cc in subst IsReading same read
added_all done open_txn faulty s read h e = absurd cc
added_all done (Some t) (begins lane) s read h e = absurd cc
added_all done None (begins lane) s read h e = by (nat_lt (length done) 100000) refl e
  where
    begun : Reading
    begun = record { done = done; open_txn = Some (lane, []) }

    by : (t : Bool) → nat_lt (length done) 100000 ≡ t → (if t then Some begun else None) ≡ Some s → IsReading s
    by true few e = let same : begun ≡ s = cc in subst IsReading same (record { done = read.done; few = read.few; open_txn = (tt, grind (arith, nat_tests)) })
    by false few e = absurd cc
added_all done None (calls c) s read h e = absurd cc
added_all done (Some t) (calls c) s read h e = by (nat_lt (length t.1) 10000) e
  where
    more : Reading
    more = record { done = done; open_txn = Some (t.0, t.1 ++ c ∷ []) }

    by : (t : Bool) → (if t then Some more else None) ≡ Some s → IsReading s
    by true e =
        let same : more ≡ s = cc in
        subst IsReading same (record { done = read.done; few = read.few; open_txn = (all_append CallHasNoFeed t.1 (c ∷ []) read.open_txn.0 (h, tt), read.open_txn.1) })
    by false e = absurd cc
added_all done None (ends how) s read h e = absurd cc
added_all done (Some t) (ends how) s read h e =
    let txn : ScriptTxn = record { lane = t.0; calls = t.1; ending = how } in
    let same : record { done = done ++ txn ∷ []; open_txn = None } ≡ s = cc in
    subst IsReading same
    (record { done = all_append TxnHasNoFeed done (txn ∷ []) read.done (read.open_txn.0, tt); few = omega (arith, read.open_txn.1, length-append done (txn ∷ [])); open_txn = tt })

-- a script with no line feed, of at most so many transactions
abbrev pub IsPlainScript : List ScriptTxn → Type 0
IsPlainScript script = AllByRecursion TxnHasNoFeed script × (length script ≤ 100000)

ended_all : (n : ℕ) (done : List ScriptTxn) (open_txn : Option (ℕ × List Call)) (script : List ScriptTxn) → IsReading (record { done = done; open_txn = open_txn })
    → script_from n (record { done = done; open_txn = open_txn }) [] ≡ Ok script → IsPlainScript script
unfolding script_from
ended_all n done None script read e = let same : done ≡ script = cc in subst IsPlainScript same (read.done, read.few)
ended_all n done (Some t) script read e = absurd cc

script_from_all : (n : ℕ) (r : Reading) (ls : List (List ℕ)) (script : List ScriptTxn) → IsReading r → AllByRecursion HasNoFeed ls
    → script_from n r ls ≡ Ok script → IsPlainScript script
script_from_all n r [] script read all e = ended_all n r.done r.open_txn script read e
script_from_all n r (line ∷ rest) script read all e =
    by (nat_lt 1000000 n) (nat_lt 512 (length line)) (line_added r (meaning line)) refl refl refl
    (λ s read' e'. script_from_all (n + 1) s rest script read' all.1 e')
  where
    by : (t u : Bool) (o : Option Reading) → nat_lt 1000000 n ≡ t → nat_lt 512 (length line) ≡ u → line_added r (meaning line) ≡ o
        → ((s : Reading) → IsReading s → script_from (n + 1) s rest ≡ Ok script → IsPlainScript script) → IsPlainScript script
    by true u o p q is next = absurd (let bad = script_many n r line rest (grind (arith, nat_tests)) in cc)
    by false true o p q is next = absurd (let bad = script_long n r line rest (grind (arith, nat_tests)) (grind (arith, nat_tests)) in cc)
    by false false None p q is next = absurd (let bad = script_bad n r line rest (grind (arith, nat_tests)) (grind (arith, nat_tests)) is in cc)
    by false false (Some s) p q is next =
        let step = script_step n r s line rest (grind (arith, nat_tests)) (grind (arith, nat_tests)) is in
        next s (added_all r.done r.open_txn (meaning line) s read (meaning_all line all.0) is) (sym step ∙ e)

-- a script that bytes spell has at most so many transactions, and no line feed in its calls
pub script_all : (bytes : List ℕ) (script : List ScriptTxn) → script_of bytes ≡ Ok script → IsPlainScript script
unfolding script_of
script_all bytes script e = script_from_all 1 (record { done = []; open_txn = None }) (lines bytes) script (record { done = tt; few = omega arith; open_txn = tt }) (lines_all bytes) e
