use Rattle.std.proofs.Common.{Bor, ◌∙◌, List, ℕ}
use Rattle.partition_merge.proofs.Leaves.{body_summed}
use Rattle.partition_merge.proofs.leaf.body_len.Goals as goal

pub returns : goal.returns
returns c leaf spells =
    let show : Bor (List ℕ) → List ℕ = λ t. t.now in
    c.min.ensures ∙ body_summed show c.args.pairs.now leaf c.loop-pair.pair-index c.loop-pair.len spells c.loop-pair-test.false c.loop-pair.invariant
