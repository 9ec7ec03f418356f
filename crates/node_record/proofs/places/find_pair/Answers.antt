use Rattle.std.proofs.Common.{◌<◌, ℕ, List, length, rules, arith, tests}
use Rattle.std.proofs.lemmas.List.Sorted.{IsPartitionPoint-from_clause}
use Rattle.fine_model.specs.Map.{is_below}
use Rattle.node_record.proofs.Ordered.{IsParted, parted, stands_at, belongs_before, belongs_last}
use Rattle.node_record.proofs.places.find_pair.Goals.{After-partition_point-i, else-i-len-via-then-i-len+else-not-is_below, else-i-len-via-else-i-len}
use Rattle.node_record.proofs.places.find_pair.Goals as goal

found : (c : After-partition_point-i) → IsParted (λ p. p.0) c.args.key.now c.args.pairs.now c.partition_point-i.result
found c =
    parted (λ p. p.0) c.args.key.now c.args.pairs.now c.as_slice.result.now c.partition_point-i.result c.as_slice.ensures c.partition_point-i.ensures.bound c.requires
    (λ p. IsPartitionPoint-from_clause (λ (x : List ℕ × List ℕ). is_below x.0 c.args.key.now) c.args.pairs.now c.partition_point-i.result (rw c.as_slice.ensures at c.partition_point-i.ensures.partitioned) p (λ a r f' k. search rules))

pub returns-then-not-is_below : goal.returns-then-not-is_below
returns-then-not-is_below c =
    let lt : c.partition_point-i.result < length c.args.pairs.now = omega arith in
    stands_at (λ p. p.0) c.args.key.now c.args.pairs.now c.partition_point-i.result (found (goal.at.returns-then-not-is_below c).After-partition_point-i) lt c.at.result.now c.at.ensures (search (rules, tests))

pub returns-else-i-len : goal.returns-else-i-len
returns-else-i-len c =
    let at = found (goal.at.returns-else-i-len c).After-partition_point-i in
    elim c.else-i-len.branch [
      | else-i-len-via-then-i-len+else-not-is_below w ↦ belongs_before (λ p. p.0) c.args.key.now c.args.pairs.now c.partition_point-i.result at w.at.result.now w.at.ensures (search (rules, tests))
      | else-i-len-via-else-i-len w ↦ belongs_last (λ p. p.0) c.args.key.now c.args.pairs.now c.partition_point-i.result at (omega arith)
    ]
