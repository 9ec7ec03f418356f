use Rattle.std.proofs.Common.{Bor, ◌<◌, true, ◌≡◌, List, ℕ, length, map, ap, sym, ◌∙◌, rules, arith}
use Rattle.std.proofs.lemmas.List.Sorted.{IsPartitionPoint-from_clause}
use Rattle.fine_model.specs.Map.{is_ascending, is_below}
use Rattle.node_record.proofs.Ordered.{IsParted, parted, stands_at, belongs_before, belongs_last}
use Rattle.partition_merge.specs.Leaves.{key_of}
use Rattle.partition_merge.proofs.leaf.find_pair.Goals.{After-partition_point-i, else-i-len-via-then-i-len+else-not-is_below, else-i-len-via-else-i-len}
use Rattle.partition_merge.proofs.leaf.find_pair.Goals as goal

found : (c : After-partition_point-i) → is_ascending (map (λ t. key_of t.now) c.args.pairs.now) ≡ true → IsParted (λ t. key_of t.now) c.args.key.now c.args.pairs.now c.partition_point-i.result
found c up_to =
    parted (λ t. key_of t.now) c.args.key.now c.args.pairs.now c.as_slice.result.now c.partition_point-i.result c.as_slice.ensures c.partition_point-i.ensures.bound up_to
    (λ p. IsPartitionPoint-from_clause (λ (x : Bor (List ℕ)). is_below (key_of x.now) c.args.key.now) c.args.pairs.now c.partition_point-i.result (rw c.as_slice.ensures at c.partition_point-i.ensures.partitioned) p (λ a r f' k. search rules))

pub returns-then-not-is_below-clause-place : goal.returns-then-not-is_below-clause-place
returns-then-not-is_below-clause-place c up_to =
    let lt : c.partition_point-i.result < length c.args.pairs.now = omega arith in
    stands_at (λ t. key_of t.now) c.args.key.now c.args.pairs.now c.partition_point-i.result (found (goal.at.returns-then-not-is_below-clause-place c).After-partition_point-i up_to) lt c.at.result.now c.at.ensures
    (ap (is_below c.args.key.now) (sym c.key_of.ensures) ∙ sym c.is_below.ensures ∙ c.if-not-is_below.true)

pub returns-else-i-len-clause-place : goal.returns-else-i-len-clause-place
returns-else-i-len-clause-place c up_to =
    let at = found (goal.at.returns-else-i-len-clause-place c).After-partition_point-i up_to in
    elim c.else-i-len.branch [
      | else-i-len-via-then-i-len+else-not-is_below w ↦
          belongs_before (λ t. key_of t.now) c.args.key.now c.args.pairs.now c.partition_point-i.result at w.at.result.now w.at.ensures (ap (is_below c.args.key.now) (sym w.key_of.ensures) ∙ sym w.is_below.ensures ∙ w.if-not-is_below.false)
      | else-i-len-via-else-i-len w ↦ belongs_last (λ t. key_of t.now) c.args.key.now c.args.pairs.now c.partition_point-i.result at (omega arith)
    ]
