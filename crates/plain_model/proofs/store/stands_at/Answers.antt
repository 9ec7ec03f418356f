use Rattle.std.proofs.Common.{◌≡◌, ◌⊎◌, ◌<◌, true, false, List, ℕ, Some, sym, ap, ◌∙◌, inl, inr, true≢false, length, arith}
use Rattle.std.proofs.lemmas.Option.{slice_get_within}
use Rattle.fine_model.specs.Map.{Pair, is_below}
use Rattle.fine_model.proofs.Ordered.Order.{order_cases}
use Rattle.plain_model.proofs.store.stands_at.Goals as goal

-- a pair whose key is neither below nor above a key has this key
same_key : (key : List ℕ) (p : Pair) → is_below p.0 key ≡ false → is_below key p.0 ≡ false → p ≡ (key, p.1)
same_key key p low high = by (order_cases p.0 key)
  where
    by : ((is_below p.0 key ≡ true) × (is_below key p.0 ≡ false)) ⊎ (p.0 ≡ key) ⊎ ((is_below key p.0 ≡ true) × (is_below p.0 key ≡ false)) → p ≡ (key, p.1)
    by (inl a) = absurd (true≢false (sym a.0 ∙ low))
    by (inr (inl e)) = ap (λ k. (k, p.1)) e
    by (inr (inr b)) = absurd (true≢false (sym b.0 ∙ high))

pub returns-then-i-len-clause-here : goal.returns-then-i-len-clause-here
returns-then-i-len-clause-here c = λ stands.
    let high : is_below c.args.key.now c.at.result.now.0 ≡ false = grind arith in
    (c.at.result.now.1, c.at.ensures ∙ ap Some (same_key c.args.key.now c.at.result.now (c.requires.here c.at.result.now c.at.ensures) high))

pub returns-else-i-len-clause-above : goal.returns-else-i-len-clause-above
returns-else-i-len-clause-above c = λ none p is. let h : c.args.i < length c.args.pairs.now = slice_get_within c.args.pairs.now c.args.i p is in absurd (omega arith)
