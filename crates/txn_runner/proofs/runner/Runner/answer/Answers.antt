use Rattle.std.proofs.Common.{◌∙◌, ap}
use Rattle.txn_draft.specs.Drafts.{DraftValue}
use Rattle.txn_runner.proofs.Calls.{answered_cached, answered_then}
use Rattle.txn_runner.proofs.runner.Runner.answer.Goals as goal

pub returns-in-Some-clause-answers : goal.returns-in-Some-clause-answers
returns-in-Some-clause-answers g c = λ group. answered_cached group _ _ _ _ c.answer_cached.result c.in-Some.answered c.in-Some.is (c.answer_cached.ensures.answers group)

pub returns-in-None-clause-place : goal.returns-in-None-clause-place
returns-in-None-clause-place g c = (
  c.answer_loading-in-None.ensures.place.0 ∙ ap (λ (d : DraftValue). d.lane) c.clear.ensures ∙ c.answer_cached.ensures.place.0,
  c.answer_loading-in-None.ensures.place.1 ∙ ap (λ (d : DraftValue). d.turn) c.clear.ensures ∙ c.answer_cached.ensures.place.1,
)

pub returns-in-None-clause-answers : goal.returns-in-None-clause-answers
returns-in-None-clause-answers g c = λ group. answered_then group _ _ _ _ _ c.answer_cached.result c.in-None.is (c.answer_cached.ensures.answers group) _ _ _ _ (c.answer_loading-in-None.ensures.answers group)
