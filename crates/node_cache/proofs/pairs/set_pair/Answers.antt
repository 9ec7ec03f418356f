use Rattle.std.proofs.Common.{◌≡◌, ◌<◌, ◌≤◌, ◌||◌, false, nat_lt, length, sym, ap, subst, ◌∙◌, arith}
use Rattle.std.specs.List.{insert, remove}
use Rattle.std.proofs.lemmas.Bool.{le-ltb}
use Rattle.fine_model.specs.Map.{Pair, set}
use Rattle.node_record.proofs.Changes.{remove_inserted}
use Rattle.node_cache.specs.Undo.{with_value}
use Rattle.node_cache.proofs.PairSteps.{has_it, has_not, set_value_there, set_within, set_again, set_absent, length-insert_one}
use Rattle.node_cache.proofs.pairs.set_pair.Goals as goal

pub returns-then-len-eq-MOST_IN_NODE-clause-done : goal.returns-then-len-eq-MOST_IN_NODE-clause-done
returns-then-len-eq-MOST_IN_NODE-clause-done c =
    let ps = c.args.pairs.now in
    let full : nat_lt (length ps) 32 ≡ false = le-ltb (length ps) 32 (omega (arith, c.len.ensures, c.if-len-eq-MOST_IN_NODE.true)) in
    sym (ap (λ b. b || nat_lt (length ps) 32) (has_not ps c.args.key.now c.in-Err.at c.in-Err.ensures) ∙ full)

pub returns-in_ok-value-in-Ok-clause-done : goal.returns-in_ok-value-in-Ok-clause-done
returns-in_ok-value-in-Ok-clause-done c =
    let ps = c.args.pairs.now in
    sym (ap (λ b. b || nat_lt (length ps) 32) (has_it ps c.args.key.now c.in-Ok.at c.in-Ok.ensures))

pub returns-in_ok-value-in-Ok-clause-step : goal.returns-in_ok-value-in-Ok-clause-step
returns-in_ok-value-in-Ok-clause-step c =
    let ps = c.args.pairs.now in
    let key = c.args.key.now in
    let at = c.in-Ok.at in
    let value = c.in_ok-value-in-Ok.value in
    let is = c.exchange_value-value.ensures.set in
    let same = c.in_ok-value-in-Ok.ensures in (
      is ∙ set_value_there ps key at c.in-Ok.ensures value ∙ ap (set ps key) same,
      subst (λ qs. at < length qs) (sym is) (set_within ps key at c.in-Ok.ensures value),
      ap (λ qs. with_value qs at c.exchange_value-value.result) is ∙ set_again ps key at c.in-Ok.ensures value c.exchange_value-value.result c.exchange_value-value.ensures.stood,
    )

pub returns-in_ok-insert-in-Err-clause-step : goal.returns-in_ok-insert-in-Err-clause-step
returns-in_ok-insert-in-Err-clause-step c =
    let ps = c.args.pairs.now in
    let key = c.args.key.now in
    let at = c.in-Err.at in
    let p : Pair = (c.in_ok-from_slice-in-Err.field-0, c.in_ok-from_slice-in-Err-2.field-0) in
    let is = c.in_ok-insert-in-Err.ensures.ok in
    let within : at ≤ length ps = (c.in-Err.ensures).within in (
      is ∙ (λ i. insert ps at (c.in_ok-from_slice-in-Err.ensures i, c.in_ok-from_slice-in-Err-2.ensures i)) ∙ set_absent ps key at c.in-Err.ensures c.args.value.now,
      omega (arith, ap length is, length-insert_one ps at p within, within),
      ap (λ qs. remove qs at) is ∙ remove_inserted ps at p within,
    )
