-- Parts of a generated run's summary.
use Rattle.std.specs.Prelude.{ℕ, ◌-◌, Bool, if◌then◌else◌, List, [], ◌∷◌, ◌++◌, length, option_map, count_by, sum_by, codes, decimal}
use Rattle.std.specs.List.{range_with_len}
use Rattle.fine_model.specs.declared.Outcome.{Outcome}
use Rattle.fine_model.specs.Commands.{small_number, summary}
use Rattle.fine_model.specs.Map.{Pair, get}
use Rattle.fine_model.specs.Outcomes.{is_aborted, is_committed, is_refused}
use Rattle.fine_model.specs.Report.{all_outcomes, fault_lines, line}
use Rattle.script_text.specs.declared.summary.GeneratedRun.{GeneratedRun}

-- what was generated
abbrev pub gen_line : ℕ → ℕ → ℕ → List ℕ
gen_line start count lanes = line (codes "gen" ∷ decimal start ∷ decimal count ∷ decimal lanes ∷ [])

-- how many transactions have each outcome; of all, those that have no other one were not run
abbrev pub counted_lines : List Outcome → ℕ → List ℕ
counted_lines outcomes all =
    line (codes "commits" ∷ decimal (count_by is_committed outcomes) ∷ [])
    ++ line (codes "aborts" ∷ decimal (count_by is_aborted outcomes) ∷ [])
    ++ line (codes "refused" ∷ decimal (count_by is_refused outcomes) ∷ [])
    ++ line (codes "none" ∷ decimal (all - count_by is_committed outcomes - count_by is_aborted outcomes - count_by is_refused outcomes) ∷ [])

-- whether all is durable
abbrev pub durable_line : Bool → List ℕ
durable_line all_durable = line (codes "durable" ∷ (if all_durable then codes "all" else codes "part") ∷ [])

-- the sum of the first n counters
unfoldable pub first_summed : List Pair → ℕ → ℕ
first_summed m n = sum_by (λ i. small_number (get m (codes "c" ++ decimal i))) (range_with_len 0 n)

-- the whole text of a generated run: its summary, and the line of its fault
abbrev pub summary_of : GeneratedRun → List ℕ
summary_of run =
    summary run.start (length run.script.now) run.lanes (all_outcomes run.script.now run.outcomes.now) (option_map (λ pairs. pairs.now) run.map) run.all_durable ++ fault_lines run.fault
