use Rattle.std.proofs.Common.{◌≡◌, ◌+◌, ◌∙◌, ◌++◌, codes, decimal, sym, ap, arith}
use Rattle.fine_model.specs.Commands.{small_number}
use Rattle.fine_model.specs.Map.{get}
use Rattle.script_text.specs.Summaries.{first_summed}
use Rattle.script_text.proofs.Summing.{all_summed, none_summed, summed_more}
use Rattle.script_text.proofs.summary.counters_summed.Goals as goal

pub loop-i-init : goal.loop-i-init
loop-i-init c = (sym (none_summed c.args.pairs.now), omega arith, omega arith)

pub loop-i-preserved : goal.loop-i-preserved
loop-i-preserved c =
    let is : c.counted-sum.result ≡ small_number (get c.args.pairs.now (codes "c" ++ decimal c.loop-i.i)) =
    c.counted-sum.ensures.is ∙ ap (λ t. small_number (get c.args.pairs.now (codes "c" ++ t))) (c.as_bytes.ensures.value ∙ c.format.ensures.text) in (
      ap (λ n. n + c.counted-sum.result) c.loop-i.invariant.0 ∙ ap (λ n. first_summed c.args.pairs.now c.loop-i.i + n) is ∙ sym (summed_more c.args.pairs.now c.loop-i.i),
      omega (arith, c.loop-i.invariant.1, c.counted-sum.ensures.small),
      omega (arith, c.loop-i-test.true),
    )

pub returns : goal.returns
returns c =
    let end : c.loop-i.i ≡ 64 = omega (arith, c.loop-i.invariant.2, c.loop-i-test.false) in
    c.loop-i.invariant.0 ∙ ap (first_summed c.args.pairs.now) end ∙ sym (all_summed c.args.pairs.now)
