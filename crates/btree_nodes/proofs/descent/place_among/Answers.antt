use Rattle.std.proofs.Common.{◌≡◌, ◌≤◌, true, List, ℕ, length, subst, sym, ap, rules, arith}
use Rattle.std.proofs.lemmas.List.{map-id}
use Rattle.std.proofs.lemmas.List.Sorted.{IsPartitionPoint-from_clause}
use Rattle.fine_model.specs.Map.{is_ascending}
use Rattle.fine_model.proofs.Ordered.InOrder.{AreUp, AreUp-from_ascending}
use Rattle.btree_nodes.proofs.Places.{is_left, point_filter, left_first}
use Rattle.btree_nodes.proofs.descent.place_among.Goals as goal

pub returns : goal.returns
returns c =
    let xs = c.args.seps.now in
    let key = c.args.key.now in
    let i = c.partition_point.result in
    let within : i ≤ length xs = omega (arith, c.partition_point.ensures.bound, ap length c.as_slice.ensures) in
    let up : AreUp (λ k. k) xs = AreUp-from_ascending (λ k. k) xs (subst (λ (ks : List (List ℕ)). is_ascending ks ≡ true) (sym (map-id xs)) c.requires) in
    let point = IsPartitionPoint-from_clause (is_left key) xs i (rw c.as_slice.ensures at c.partition_point.ensures.partitioned) (left_first key xs up) (λ a r f' k. search rules) in
    sym (point_filter (is_left key) xs i within point)
