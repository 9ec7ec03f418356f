use Rattle.std.proofs.Common.{rules, ◌≡◌, ◌++◌, ◌∷◌, [], Some, slice_get, subst, sym, ◌∙◌, ap}
use Rattle.merge_policy.specs.Choices.{question}
use Rattle.merge_policy.specs.Steps.{BestSoFar, better}
use Rattle.merge_policy.proofs.Choosing.{with_front, with_one}
use Rattle.merge_policy.proofs.policy.with_pair.Goals as goal

pub returns-in-Some : goal.returns-in-Some
returns-in-Some c pairs best =
    let front : slice_get c.args.behind.now 0 ≡ Some c.in-Some.newer.now = search rules in
    subst (λ two. BestSoFar (question c.args.space c.args.known.now) c.args.aim (pairs ++ two) c.better.result) (sym (with_front c.args.older.now c.in-Some.newer.now c.args.behind.now front))
    (subst (BestSoFar (question c.args.space c.args.known.now) c.args.aim (pairs ++ (c.args.older.now, c.in-Some.newer.now) ∷ [])) (sym (c.better.ensures ∙ ap (λ next. better c.args.best next) c.choice_of.ensures))
    (with_one (question c.args.space c.args.known.now) c.args.aim pairs c.args.best (c.args.older.now, c.in-Some.newer.now) best))
