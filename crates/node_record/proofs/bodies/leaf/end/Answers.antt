use Rattle.std.proofs.Common.{◌≡◌, sym, subst, drop, Some, List, ℕ, Option, rules, arith}
use Rattle.fine_model.specs.RowBytes.{most_in_node}
use Rattle.node_record.specs.Reading.{Passes, only, within, byte_at}
use Rattle.node_record.proofs.Readers.{IsBytes-drop}
use Rattle.node_record.proofs.Passing.{leaf_behind}
use Rattle.node_record.proofs.bodies.leaf.end.Goals as goal

pub returns : goal.returns
returns c =
    let bytes = c.args.bytes.now in
    let read : only (within 0 most_in_node) (byte_at (drop c.args.at bytes)) ≡ Some (c.in_ok-count.count, drop c.in_ok-count.at bytes) = search rules in
    let whole = leaf_behind (drop c.args.at bytes) c.in_ok-count.count (drop c.in_ok-count.at bytes) (IsBytes-drop c.in_ok-count.at bytes (λ i. omega (arith, c.type_inv.bytes i))) read in
    subst (λ (rest : Option (List ℕ)). Passes bytes c.args.start c.pairs_end.result rest) (sym whole) c.pairs_end.ensures
