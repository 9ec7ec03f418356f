use Rattle.std.proofs.Common.{◌≡◌, ℕ, ◌+◌, ◌≤◌, List, [], ◌∷◌, ◌++◌, drop, sym, ap, ◌∙◌, subst, append_assoc, append-nil, arith}
use Rattle.std.proofs.lemmas.List.{drop_all}
use Rattle.fine_model.specs.Map.{Pair}
use Rattle.fine_model.specs.declared.Ending.{Ending}
use Rattle.fine_model.specs.declared.Ending.TheVariants as ending
use Rattle.fine_model.specs.declared.Outcome.{Outcome}
use Rattle.fine_model.specs.declared.ScriptTxn.{ScriptTxn}
use Rattle.plain_model.specs.Place.{Ascends}
use Rattle.plain_model.specs.Plain.{entry_on, outcome_at, map_behind, place_behind, outcomes_on}
use Rattle.plain_model.proofs.Steps.{drop-at}
use Rattle.plain_model.proofs.run.outcomes_of.Invariants.{RanSoFar}
use Rattle.plain_model.proofs.run.outcomes_of.Goals as goal

next_within : (e : Ending) (next turn : ℕ) → next ≤ turn → place_behind e next ≤ turn + 1
next_within ending.Commit next turn h = omega arith
next_within ending.Abort next turn h = omega arith

-- one more transaction is run
one_more : (pairs pairs' : List Pair) (turn next next' : ℕ) (script : List ScriptTxn) (txn : ScriptTxn) (left : List ScriptTxn) (outcomes : List Outcome)
    → RanSoFar pairs turn next script (txn ∷ left) outcomes → Ascends pairs' → pairs' ≡ map_behind txn.ending pairs txn → next' ≡ place_behind txn.ending next
    → RanSoFar pairs' (turn + 1) next' script left (outcomes ++ outcome_at txn.ending next (entry_on pairs turn txn) ∷ [])
unfolding outcomes_on
one_more pairs pairs' turn next next' script txn left outcomes ran order map place = record {
  order = order;
  place = rw place (next_within txn.ending next turn ran.place);
  so_far =
      rw (map, place) (append_assoc outcomes (outcome_at txn.ending next (entry_on pairs turn txn) ∷ []) (outcomes_on (map_behind txn.ending pairs txn) (turn + 1) (place_behind txn.ending next) left) ∙ ran.so_far);
}

pub loop-i-preserved : goal.loop-i-preserved
loop-i-preserved c =
    let left : List ScriptTxn = drop (c.loop-i.i + 1) c.args.script.now in
    let before : RanSoFar c.loop-i.pairs (c.loop-i.i + 1) c.loop-i.place c.args.script.now (c.at.result.now ∷ left) c.loop-i.outcomes =
    subst (λ l. RanSoFar c.loop-i.pairs (c.loop-i.i + 1) c.loop-i.place c.args.script.now l c.loop-i.outcomes) (drop-at c.args.script.now c.loop-i.i c.at.result.now c.at.ensures) c.loop-i.invariant in
    subst (λ outcomes. RanSoFar c.run_txn.new.pairs (c.loop-i.i + 1 + 1) c.run_txn.new.place c.args.script.now left outcomes)
    (sym (c.in_ok-push.ensures.ok ∙ ap (λ o. c.loop-i.outcomes ++ o ∷ []) c.in_ok-outcome.ensures.outcome))
    (one_more c.loop-i.pairs c.run_txn.new.pairs (c.loop-i.i + 1) c.loop-i.place c.run_txn.new.place c.args.script.now c.at.result.now left c.loop-i.outcomes before
    c.in_ok-outcome.ensures.order c.in_ok-outcome.ensures.map c.in_ok-outcome.ensures.place)

pub returns : goal.returns
unfolding outcomes_on
returns c =
    sym (append-nil c.loop-i.outcomes)
    ∙ ap (λ left. c.loop-i.outcomes ++ outcomes_on c.loop-i.pairs (c.loop-i.i + 1) c.loop-i.place left) (sym (drop_all c.loop-i.i c.args.script.now (omega arith))) ∙ c.loop-i.invariant.so_far
