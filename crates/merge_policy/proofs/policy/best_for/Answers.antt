use Rattle.std.proofs.Common.{rules, ◌≡◌, ◌++◌, ◌∷◌, ap, ◌∙◌, sym, append_assoc}
use Rattle.merge_policy.specs.Choices.{neighbours, with_next}
use Rattle.merge_policy.proofs.policy.best_for.Goals as goal

pub loop-older-preserved : goal.loop-older-preserved
loop-older-preserved c =
    let left : c.loop-older.left.now ≡ c.in-Some.older.now ∷ c.in-Some.behind.now = search rules in
    let seen = c.loop-older.invariant.0 in (
      seen ++ with_next c.in-Some.older.now c.in-Some.behind.now,
      c.loop-older.invariant.1 ∙ ap (λ ps. seen ++ neighbours ps) left ∙ sym (append_assoc seen (with_next c.in-Some.older.now c.in-Some.behind.now) (neighbours c.in-Some.behind.now)),
      c.with_pair-best.ensures seen c.loop-older.invariant.2,
    )
