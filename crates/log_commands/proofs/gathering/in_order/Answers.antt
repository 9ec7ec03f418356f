use Rattle.std.proofs.Common.{rules, subst, sym, List}
use Rattle.std.specs.Prelude.{IsPermutation}
use Rattle.std.proofs.lemmas.List.Sorted.{answers_always}
use Rattle.fine_model.specs.Map.{Pair, is_below}
use Rattle.fine_model.specs.ScanLaws.{IsSorted}
use Rattle.log_commands.proofs.Gathered.{pairs_ranked}
use Rattle.log_commands.proofs.gathering.in_order.Goals as goal

pub returns : goal.returns
returns c = subst (λ (found : List Pair). IsSorted c.args.pairs found) (sym c.from_vec.ensures) (record {
  permuted = subst (λ ps. IsPermutation ps c.sort_unstable_by.new.self.items) c.into_vec-sorted.ensures c.sort_unstable_by.ensures.permutation;
  sorted = c.sort_unstable_by.ensures.sorted (λ a b. is_below a.0 b.0) pairs_ranked (answers_always _ _ _ (λ f a r f' k. search rules));
})
