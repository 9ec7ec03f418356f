-- Scripts as bytes.
use Rattle.std.specs.Prelude.{ℕ, ◌+◌, ◌==◌, nat_le, nat_lt, Bool, true, false, ◌&&◌, if◌then◌else◌, List, [], ◌∷◌, ◌++◌, length, filter, find, Option, Some, None, option_map, Result, Ok, Err, codes, bytes_eq, decimal}
use Rattle.std.specs.List.{list_all}
use Rattle.fine_model.specs.Types.{Call, Ending, ScriptTxn}
use Rattle.fine_model.specs.Types.call
use Rattle.fine_model.specs.Types.ending
use Rattle.fine_model.specs.NumberText.{digits_worth, number_of}
use Rattle.fine_model.specs.RowBytes.{most_in_key, most_in_value}

-- the ending is a commit
abbrev pub is_commit : Ending → Bool
is_commit ending.Commit = true
is_commit ending.Abort = false

-- b before the first of the pieces
abbrev pub onto_first : ℕ → List (List ℕ) → List (List ℕ)
onto_first b [] = (b ∷ []) ∷ []
onto_first b (piece ∷ pieces) = (b ∷ piece) ∷ pieces

-- The lines, each ended by a line feed or by the end of the input. Behind a last line feed no further line begins.
unfoldable pub lines : List ℕ → List (List ℕ)
lines [] = []
lines (b ∷ bytes) = if b == 10 then [] ∷ lines bytes else onto_first b (lines bytes)

-- a line without one carriage return at its end
unfoldable pub without_return : List ℕ → List ℕ
without_return [] = []
without_return (b ∷ []) = if b == 13 then [] else b ∷ []
without_return (b ∷ c ∷ bytes) = b ∷ without_return (c ∷ bytes)

-- the pieces between spaces, of which some may be empty
unfoldable pub pieces : List ℕ → List (List ℕ)
pieces [] = [] ∷ []
pieces (b ∷ bytes) = if b == 32 then [] ∷ pieces bytes else onto_first b (pieces bytes)

-- the words, with one or more spaces between them
abbrev pub words : List ℕ → List (List ℕ)
words line = filter (λ piece. nat_lt 0 (length piece)) (pieces line)

-- a number in digits without a leading zero, from low to high
abbrev pub natural_of : ℕ → ℕ → List ℕ → Option ℕ
natural_of low high word =
    if bytes_eq (decimal (digits_worth word)) word && nat_le low (digits_worth word) && nat_le (digits_worth word) high
    then Some (digits_worth word) else None

-- what a line says
pub data Line : Type 0 where
  skipped : Line
  begins : ℕ → Line
  calls : Call → Line
  ends : Ending → Line
  faulty : Line

-- a word is short enough for a key
abbrev pub is_key : List ℕ → Bool
is_key word = nat_le (length word) most_in_key

-- a word is short enough for a value
abbrev pub is_value : List ℕ → Bool
is_value word = nat_le (length word) most_in_value

-- a line, or else a faulty one
abbrev pub line_or_faulty : Option Line → Line
line_or_faulty None = faulty
line_or_faulty (Some line) = line

-- the first word that is given among words, with what it stands for
abbrev pub by_word : List ℕ → List (List ℕ × Line) → Line
by_word word cases = line_or_faulty (option_map (λ c. c.1) (find (λ c. bytes_eq c.0 word) cases))

-- a line where a test holds, and else a faulty one
abbrev pub when : Bool → Line → Line
when test line = if test then line else faulty

-- what words say
unfoldable pub said : List (List ℕ) → Line
said (w ∷ []) = by_word w ((codes "commit", ends ending.Commit) ∷ (codes "abort", ends ending.Abort) ∷ [])
said (w ∷ a ∷ []) = by_word w (
    (codes "txn", line_or_faulty (option_map begins (natural_of 1 16 a)))
    ∷ (codes "get", when (is_key a) (calls (call.Get a)))
    ∷ (codes "del", when (is_key a) (calls (call.Del a))) ∷ [])
said (w ∷ a ∷ b ∷ []) = by_word w (
    (codes "put", when (is_key a && is_value b) (calls (call.Put a b)))
    ∷ (codes "add", when (is_key a) (line_or_faulty (option_map (λ by. calls (call.Add a by)) (number_of b)))) ∷ [])
said (w ∷ a ∷ b ∷ c ∷ []) = by_word w (
    (codes "scan", when (is_key a && is_key b) (line_or_faulty (option_map (λ limit. calls (call.Scan a b limit)) (natural_of 0 10000 c)))) ∷ [])
said _ = faulty

-- the first byte that is no space is `#`
abbrev pub is_comment : List (List ℕ) → Bool
is_comment [] = false
is_comment ([] ∷ ws) = false
is_comment ((b ∷ bs) ∷ ws) = b == 35

-- a byte from space to tilde
abbrev pub is_printable : ℕ → Bool
is_printable b = nat_le 32 b && nat_le b 126

-- what a line says: nothing where it is blank or a comment, and else what its words do
unfoldable pub meaning : List ℕ → Line
meaning line = of_words (words (without_return line))
  where
    of_words : List (List ℕ) → Line
    of_words [] = skipped
    of_words (w ∷ ws) =
        if is_comment (w ∷ ws) then skipped
        else (if list_all is_printable (without_return line) then said (w ∷ ws) else faulty)

-- what was read so far: whole transactions, and the lane and the calls of one that is open
pub record Reading : Type 0 where
  pub done : List ScriptTxn
  pub open_txn : Option (ℕ × List Call)

-- what was read once a line is added, if it may stand there
unfoldable pub line_added : Reading → Line → Option Reading
line_added r skipped = Some r
line_added r faulty = None
line_added r (begins lane) = to (r.open_txn)
  where
    to : Option (ℕ × List Call) → Option Reading
    to None = if nat_lt (length r.done) 100000 then Some (record { done = r.done; open_txn = Some (lane, []) }) else None
    to (Some t) = None
line_added r (calls c) = to (r.open_txn)
  where
    to : Option (ℕ × List Call) → Option Reading
    to None = None
    to (Some t) = if nat_lt (length t.1) 10000 then Some (record { done = r.done; open_txn = Some (t.0, t.1 ++ c ∷ []) }) else None
line_added r (ends e) = to (r.open_txn)
  where
    to : Option (ℕ × List Call) → Option Reading
    to None = None
    to (Some t) = Some (record { done = r.done ++ record { lane = t.0; calls = t.1; ending = e } ∷ []; open_txn = None })

-- why a script is refused, and at which line
pub data Refusal : Type 0 where
  many : ℕ → Refusal
  too_long : ℕ → Refusal
  bad_line : ℕ → Refusal

-- The lines from line n on, behind what was read before; the end of the input counts as one line more. A line is bad where it
-- may not stand.
unfoldable pub script_from : ℕ → Reading → List (List ℕ) → Result (List ScriptTxn) Refusal
script_from n r [] = at_end r.open_txn
  where
    at_end : Option (ℕ × List Call) → Result (List ScriptTxn) Refusal
    at_end None = Ok r.done
    at_end (Some t) = Err (bad_line n)
script_from n r (line ∷ rest) =
    if nat_lt 1000000 n then Err (many n)
    else (if nat_lt 512 (length line) then Err (too_long n)
    else go_on (line_added r (meaning line)) (λ s. script_from (n + 1) s rest))
  where
    go_on : Option Reading → (Reading → Result (List ScriptTxn) Refusal) → Result (List ScriptTxn) Refusal
    go_on None next = Err (bad_line n)
    go_on (Some s) next = next s

-- the script that bytes spell, or its first refusal
unfoldable pub script_of : List ℕ → Result (List ScriptTxn) Refusal
script_of bytes = script_from 1 (record { done = []; open_txn = None }) (lines bytes)
