use Rattle.std.proofs.Common.{rules, ◌∙◌, subst}
use Rattle.std.specs.Prelude.{IsPermutation}
use Rattle.std.proofs.lemmas.List.Sorted.{answers_always}
use Rattle.fine_model.specs.Map.{is_below}
use Rattle.txn_draft.proofs.Gathered.{pairs_ranked}
use Rattle.txn_draft.proofs.scanning.first_of.Goals as goal

pub returns : goal.returns
returns c = record {
  found = c.sort_unstable_by.new.self.items;
  sorted = record {
    permuted = subst (λ ps. IsPermutation ps c.sort_unstable_by.new.self.items) c.into_vec-sorted.ensures c.sort_unstable_by.ensures.permutation;
    sorted = c.sort_unstable_by.ensures.sorted (λ a b. is_below a.0 b.0) pairs_ranked (answers_always _ _ _ (λ f a r f' k. search rules));
  };
  is = c.from_vec.ensures ∙ c.truncate.ensures.items;
}
