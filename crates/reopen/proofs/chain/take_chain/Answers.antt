-- The longest part that begins at the next epoch is taken, and its last epoch is within bounds.
use Rattle.std.proofs.Common.{◌≡◌, ◌+◌, ℕ, ◌-◌, ◌≤◌, List, ◌∷◌, ◌++◌, [], zero, suc, length, append-nil, IfSome, arith, sym, ap, subst, ◌∙◌, append_assoc}
use Rattle.fine_model.specs.Chain.{taken}
use Rattle.fine_model.specs.RowBytes.{greatest}
use Rattle.fine_model.specs.declared.Part.{Part}
use Rattle.reopen.specs.Opening.{EndsInTime}
use Rattle.reopen.proofs.Taking.{longest_is, taken_some, taken_none, taken_zero}
use Rattle.reopen.proofs.chain.take_chain.Goals as goal
use Rattle.reopen.proofs.chain.take_chain.Goals.{else-loop-test, then-loop-test+in_default}

pub overflow_add-next : goal.overflow_add-next
overflow_add-next c =
    let end : c.in-Some.part.header.range.last ≤ greatest = subst (λ o. IfSome o EndsInTime) (sym c.in-Some.ensures) (longest_is EndsInTime c.loop.next c.args.parts.now c.requires) in
    omega arith

pub loop-preserved : goal.loop-preserved
loop-preserved c = record {
  same =
      let more : length c.args.parts.now - c.loop.counter ≡ suc (length c.args.parts.now - (c.loop.counter + 1)) = omega (arith, c.loop-test.true) in
      c.loop.invariant.same
      ∙ ap (λ more. c.loop.chain ++ more) (taken_some _ _ c.args.parts.now c.loop.next c.in-Some.part more (sym c.in-Some.ensures))
      ∙ sym (append_assoc c.loop.chain (c.in-Some.part ∷ []) (taken (length c.args.parts.now - (c.loop.counter + 1)) c.args.parts.now (c.in-Some.part.header.range.last + 1)))
      ∙ ap (λ chain. chain ++ taken (length c.args.parts.now - (c.loop.counter + 1)) c.args.parts.now (c.in-Some.part.header.range.last + 1)) (sym c.in_ok-push.ensures.ok);
}

-- nothing is left to take: no turn is left, or no part begins at the next epoch
taken_all : (n : ℕ) (parts : List Part) (next : ℕ) (chain whole : List Part) → whole ≡ chain ++ taken n parts next → taken n parts next ≡ [] → chain ≡ whole
taken_all n parts next chain whole same none = sym (same ∙ ap (λ more. chain ++ more) none ∙ append-nil chain)

pub returns : goal.returns
returns c =
    elim c.loop-test.branch [
      | else-loop-test w ↦
          let all : length c.args.parts.now - c.loop.counter ≡ zero = omega (arith, w.loop-test.false) in
          taken_all _ _ _ _ _ c.loop.invariant.same (ap (λ n. taken n c.args.parts.now c.loop.next) all ∙ taken_zero c.args.parts.now c.loop.next)
      | then-loop-test+in_default w ↦ taken_all _ _ _ _ _ c.loop.invariant.same (taken_none _ c.args.parts.now c.loop.next (sym w.in_default.ensures))
    ]
