use Rattle.std.proofs.Common.{◌≡◌, ◌+◌, true, is_some, sym, ap, subst, ◌∙◌, arith, true≢false}
use Rattle.fine_model.specs.BoundLaws.{FitsNode}
use Rattle.node_cache.proofs.StepLemmas.{changed_fits, steps_back, takes_is}
use Rattle.node_cache.proofs.changing.step_pair.Goals as goal
use Rattle.node_cache.proofs.changing.step_pair.Goals.{then-is_some, else-is_some}

pub invariant_of-kept-then-is_some : goal.invariant_of-kept-then-is_some
invariant_of-kept-then-is_some c =
    let r = c.args.row.now.rec in
    let some : is_some c.in_ok-step.step ≡ true = sym c.if-is_some.ensures in
    record {
      fits = changed_fits c.in-Leaf.pairs c.change_leaf.new.pairs r (subst FitsNode c.in-Leaf.is c.args.kept.now.fits) c.requires.row.rec (sym (c.in_ok-step.ensures).done ∙ some) (takes_is _ _ _ c.in_ok-step.step some (c.in_ok-step.ensures).step) c.change_leaf.ensures.few;
      in_range = c.requires.row.version;
    }

pub returns-clause-step : goal.returns-clause-step
returns-clause-step c =
    let next : c.args.row.now.version ≡ c.args.kept.now.version + 1 = omega (arith, c.if-row-kept-ne1.false, c.if-kept-row.false) in
    elim c.if-is_some.branch [
      | then-is_some w ↦ steps_back c.in_ok-step.step c.args.kept.now c.if-is_some.kept c.in-Leaf.pairs c.change_leaf.new.pairs c.args.row.now c.in-Leaf.is (ap (λ k. k.node) w.kept-is) (ap (λ k. k.epoch) w.kept-is) (λ _. ap (λ k. k.version) w.kept-is) (λ no. absurd (true≢false (w.if-is_some.ensures ∙ no))) next (c.in_ok-step.ensures).done c.change_leaf.ensures.few (c.in_ok-step.ensures).step
      | else-is_some w ↦ steps_back c.in_ok-step.step c.args.kept.now c.if-is_some.kept c.in-Leaf.pairs c.change_leaf.new.pairs c.args.row.now c.in-Leaf.is (ap (λ k. k.node) w.kept-is) (ap (λ k. k.epoch) w.kept-is) (λ some. absurd (true≢false (sym some ∙ sym w.if-is_some.ensures))) (λ _. ap (λ k. k.version) w.kept-is) next (c.in_ok-step.ensures).done c.change_leaf.ensures.few (c.in_ok-step.ensures).step
    ]
