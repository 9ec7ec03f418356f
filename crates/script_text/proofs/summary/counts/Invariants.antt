use Rattle.std.proofs.Common.{◌≡◌, ◌≤◌, take, count_by}
use Rattle.fine_model.specs.Outcomes.{is_aborted, is_committed, is_refused}
use Rattle.script_text.proofs.summary.counts.Given as goal

abbrev pub invariant-loop-outcome : goal.invariant-loop-outcome
invariant-loop-outcome l =
    ((l.commits ≡ count_by is_committed (take l.outcome-index l.outcomes)) × (l.commits ≤ l.outcome-index))
    × ((l.aborts ≡ count_by is_aborted (take l.outcome-index l.outcomes)) × (l.aborts ≤ l.outcome-index))
    × ((l.refusals ≡ count_by is_refused (take l.outcome-index l.outcomes)) × (l.refusals ≤ l.outcome-index))
