-- By whether each key is below the next.
use Rattle.std.proofs.Common.{◌≡◌, Bool, true, false, sym, rules}
use Rattle.std.proofs.lemmas.List.Sorted.{answers_always}
use Rattle.std.specs.List.{IsAllAdjacentAnswer}
use Rattle.node_record.specs.Keys.{is_key_below}
use Rattle.row_gathering.specs.Steps.{are_up}
use Rattle.row_gathering.proofs.Sorting.{not_up, up_from}
use Rattle.row_gathering.proofs.gathering.ascend.Goals as goal

pub returns : goal.returns
returns c = by c.is_sorted_by.result (c.is_sorted_by.ensures.cases is_key_below (answers_always _ _ _ (λ f a r f' k. search rules)))
  where
    by : (up : Bool) → IsAllAdjacentAnswer (λ x y b. b ≡ is_key_below x y) c.args.keys.now up → up ≡ are_up c.args.keys.now
    by true up = sym (up_from c.args.keys.now up)
    by false (k, high, low) = sym (not_up c.args.keys.now k high low)
