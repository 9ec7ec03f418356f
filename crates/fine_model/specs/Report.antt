-- What the program prints.
use Rattle.std.specs.Prelude.{ℕ, ◌-◌, List, [], ◌∷◌, ◌++◌, length, replicate, flat_map, zip, Option, Some, None, codes, decimal}
use Rattle.std.specs.List.{join_with_byte, enumerate_from}
use Rattle.fine_model.specs.Types.{Call, Reply, ScriptTxn, Why, Outcome, Part, Damage, RunFault, Ran, Reason}
use Rattle.fine_model.specs.Types.call
use Rattle.fine_model.specs.Types.reply
use Rattle.fine_model.specs.Types.why
use Rattle.fine_model.specs.Types.outcome
use Rattle.fine_model.specs.Types.damage
use Rattle.fine_model.specs.Types.run_fault
use Rattle.fine_model.specs.Types.reason
use Rattle.fine_model.specs.Map.{Pair}
use Rattle.fine_model.specs.NumberText.{number_text}
use Rattle.fine_model.specs.Chain.{chain_end}

-- words with a space between each two, and a line feed
abbrev pub line : List (List ℕ) → List ℕ
line words = join_with_byte 32 words ++ 10 ∷ []

-- the line of a pair
abbrev pub pair_line : Pair → List ℕ
pair_line pair = line (codes "pair" ∷ pair.0 ∷ codes "=" ∷ pair.1 ∷ [])

-- the lines of a call and its reply; a call has no other replies than these
unfoldable pub reply_lines : Call → Reply → List ℕ
reply_lines (call.Get key) (reply.Value value) = line (codes "get" ∷ key ∷ codes "=" ∷ value ∷ [])
reply_lines (call.Get key) reply.Absent = line (codes "get" ∷ key ∷ codes "none" ∷ [])
reply_lines (call.Put key value) reply.Stored = line (codes "put" ∷ key ∷ [])
reply_lines (call.Del key) reply.Removed = line (codes "del" ∷ key ∷ [])
reply_lines (call.Del key) reply.Absent = line (codes "del" ∷ key ∷ codes "none" ∷ [])
reply_lines (call.Add key by) (reply.Sum sum) = line (codes "add" ∷ key ∷ codes "=" ∷ number_text sum ∷ [])
reply_lines (call.Add key by) reply.NotNumber = line (codes "add" ∷ key ∷ codes "text" ∷ [])
reply_lines (call.Add key by) reply.OutOfRange = line (codes "add" ∷ key ∷ codes "range" ∷ [])
reply_lines (call.Scan low high limit) (reply.Found pairs) =
    line (codes "scan" ∷ low ∷ high ∷ decimal (length pairs) ∷ []) ++ flat_map pair_line pairs
reply_lines _ _ = []

-- the word for a refusal
abbrev pub why_word : Why → List ℕ
why_word why.Large = codes "large"
why_word why.Bucket = codes "bucket"
why_word why.Full = codes "full"
why_word why.Number = codes "number"

-- the lines of a transaction by its number
unfoldable pub txn_lines : ℕ → Outcome → List ℕ
txn_lines turn (outcome.Committed place epoch entry) =
    line (codes "txn" ∷ decimal turn ∷ codes "commit" ∷ decimal place ∷ codes "epoch" ∷ decimal epoch ∷ [])
    ++ flat_map (λ p. reply_lines p.0 p.1) (zip entry.calls entry.replies)
txn_lines turn outcome.Aborted = line (codes "txn" ∷ decimal turn ∷ codes "abort" ∷ [])
txn_lines turn (outcome.Refused why) = line (codes "txn" ∷ decimal turn ∷ codes "refused" ∷ why_word why ∷ [])
txn_lines turn outcome.NotRun = line (codes "txn" ∷ decimal turn ∷ codes "none" ∷ [])

-- the line of a damage
abbrev pub damage_line : Damage → List ℕ
damage_line (damage.Region region at) = line (codes "damaged" ∷ codes "region" ∷ decimal region ∷ codes "at" ∷ decimal at ∷ [])
damage_line (damage.Gap after region) = line (codes "damaged" ∷ codes "region" ∷ decimal region ∷ codes "after" ∷ decimal after ∷ [])
damage_line (damage.Overlap region other) = line (codes "damaged" ∷ codes "region" ∷ decimal region ∷ codes "over" ∷ decimal other ∷ [])
damage_line (damage.Node id) = line (codes "damaged" ∷ codes "node" ∷ decimal id.bucket ∷ decimal id.number ∷ [])

-- the line of a fault
abbrev pub fault_line : RunFault → List ℕ
fault_line run_fault.Memory = line (codes "memory" ∷ [])
fault_line run_fault.Disk = line (codes "disk" ∷ [])
fault_line (run_fault.Damaged what) = damage_line what

-- the line of a fault, or no line
unfoldable pub fault_lines : Option RunFault → List ℕ
fault_lines None = []
fault_lines (Some fault) = fault_line fault

-- one outcome for each transaction: those that are missing were not run
abbrev pub all_outcomes : List ScriptTxn → List Outcome → List Outcome
all_outcomes script outcomes = outcomes ++ replicate (length script - length outcomes) outcome.NotRun

-- the report of a run: each transaction, the last durable epoch, and why the run ended early
unfoldable pub report : List ScriptTxn → Ran → List ℕ
report script ran =
    flat_map (λ e. txn_lines e.0 e.1) (enumerate_from 1 (all_outcomes script ran.outcomes))
    ++ line (codes "durable" ∷ decimal ran.durable ∷ []) ++ fault_lines ran.fault

-- the pairs of a map and their number
unfoldable pub dump : List Pair → List ℕ
dump m = flat_map pair_line m ++ line (codes "pairs" ∷ decimal (length m) ∷ [])

-- the parts of a chain and its end
abbrev pub part_line : Part → List ℕ
part_line p = line (codes "range" ∷ decimal p.header.range.first ∷ decimal p.header.range.last ∷ codes "region" ∷ decimal p.region ∷ codes "rows" ∷ decimal p.header.rows ∷ [])

-- the parts of a chain and its end
unfoldable pub ranges : List Part → List ℕ
ranges chain = flat_map part_line chain ++ line (codes "end" ∷ decimal (chain_end chain) ∷ [])

-- the line of a call that ends before anything is run
abbrev pub words_line : List ℕ
words_line = codes "words: run [--group N] [--tries N] [--keep N] | dump | ranges | merge | gen START COUNT LANES" ++ 10 ∷ []

-- the line for a script that is refused at a line
abbrev pub script_line : ℕ → List ℕ
script_line n = line (codes "script" ∷ codes "line" ∷ decimal n ∷ [])

-- the line for a source that failed
abbrev pub source_line : List ℕ
source_line = line (codes "source" ∷ [])

-- the line of a reason
unfoldable pub reason_bytes : Reason → List ℕ
reason_bytes reason.Words = words_line
reason_bytes (reason.Script n) = script_line n
reason_bytes reason.Source = source_line
reason_bytes (reason.Fault fault) = fault_line fault
