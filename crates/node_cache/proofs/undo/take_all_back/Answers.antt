use Rattle.std.proofs.Common.{◌≡◌, ◌-◌, ◌++◌, [], ◌∷◌, reverse, sym, ap, subst, ◌∙◌, arith}
use Rattle.node_cache.specs.Undo.{CanTakeAll, all_back}
use Rattle.node_cache.proofs.Poured.{last_one, reverse-push}
use Rattle.node_cache.proofs.undo.take_all_back.Goals as goal

pub take_back-requires : goal.take_back-requires
take_back-requires c =
    let steps = c.loop-alloc.steps in
    let s = c.remove-step.result in
    let is : steps ≡ c.remove-step.new.self ++ s ∷ [] =
    last_one steps (c.len-last.result - 1) s (omega (arith, c.loop-alloc-test.true, c.len.ensures)) (ap (λ n. n - 1) c.len-last.ensures) c.remove-step.ensures.stood ∙ ap (λ qs. qs ++ s ∷ []) (sym c.remove-step.ensures.items) in
    (subst (λ l. CanTakeAll l c.loop-alloc.pairs) (ap reverse is ∙ reverse-push c.remove-step.new.self s) c.loop-alloc.invariant.0).0

pub loop-alloc-preserved : goal.loop-alloc-preserved
loop-alloc-preserved c =
    let steps = c.loop-alloc.steps in
    let s = c.remove-step.result in
    let is : steps ≡ c.remove-step.new.self ++ s ∷ [] =
    last_one steps (c.len-last.result - 1) s (omega (arith, c.loop-alloc-test.true, c.len.ensures)) (ap (λ n. n - 1) c.len-last.ensures) c.remove-step.ensures.stood ∙ ap (λ qs. qs ++ s ∷ []) (sym c.remove-step.ensures.items) in
    let first : reverse steps ≡ s ∷ reverse c.remove-step.new.self = ap reverse is ∙ reverse-push c.remove-step.new.self s in (
      subst (CanTakeAll (reverse c.remove-step.new.self)) (sym c.take_back.ensures) (subst (λ l. CanTakeAll l c.loop-alloc.pairs) first c.loop-alloc.invariant.0).1,
      ap (all_back (reverse c.remove-step.new.self)) c.take_back.ensures ∙ sym (ap (λ l. all_back l c.loop-alloc.pairs) first) ∙ c.loop-alloc.invariant.1,
    )
