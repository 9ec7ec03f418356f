-- Parts of a report.
use Rattle.std.specs.Prelude.{ℕ, List, flat_map}
use Rattle.std.specs.List.{enumerate_from}
use Rattle.fine_model.specs.declared.Outcome.{Outcome}
use Rattle.fine_model.specs.Report.{txn_lines}

-- the lines of transactions that are numbered from n on
abbrev pub txns_from : ℕ → List Outcome → List ℕ
txns_from n outcomes = flat_map (λ e. txn_lines e.0 e.1) (enumerate_from n outcomes)
