use Rattle.std.proofs.Common.{◌≡◌, true, not, ◌&&◌, List, [], ◌∷◌, refl, sym, ap, ◌∙◌, Ordering, Less, Equal, Greater, is_lt, nat_cmp}
use Rattle.std.specs.Cmp.{IsTotalOrder}
use Rattle.std.specs.Ordering.{ordering_reverse, ordering_then}
use Rattle.std.proofs.lemmas.Bool.{true≢false}
use Rattle.std.proofs.lemmas.Cmp.{nat_cmp_total, on_total, then_total}
use Rattle.fine_model.specs.declared.Row.{Row}
use Rattle.fine_model.specs.Merge.{node_cmp, is_row_below, is_ordered}
use Rattle.fine_model.proofs.Merging.NodesIn.{nodes_total}
use Rattle.fine_model.proofs.Ordered.Order.{first_of_both}
use Rattle.partition_index.specs.Index.{is_rising}
use Rattle.partition_index.proofs.Bytes.{index_is}
use Rattle.partition_index.proofs.Pieces.{next_node, in_pieces}
use Rattle.partition_index.proofs.built.index_law.Goals as goal

pub returns-clause-bytes : goal.returns-clause-bytes
returns-clause-bytes c = index_is

pub returns-clause-next : goal.returns-clause-next
returns-clause-next c = next_node

pub returns-clause-pieces : goal.returns-clause-pieces
returns-clause-pieces c = in_pieces

rows_total : IsTotalOrder (λ (a : Row) (b : Row). ordering_then (node_cmp a.node b.node) (nat_cmp a.version b.version))
rows_total = then_total (on_total (λ r. r.node) nodes_total) (on_total (λ r. r.version) nat_cmp_total)

less : (o : Ordering) → is_lt o ≡ true → o ≡ Less
less Less h = refl
less Equal h = absurd (true≢false (sym h))
less Greater h = absurd (true≢false (sym h))

not_below : (r s : Row) → is_row_below r s ≡ true → not (is_row_below s r) ≡ true
not_below r s h = ap (λ o. not (is_lt o)) (rows_total.antisymm s r ∙ ap ordering_reverse (less (ordering_then (node_cmp r.node s.node) (nat_cmp r.version s.version)) h))

rising : (rows : List Row) → is_ordered rows ≡ true → is_rising rows ≡ true
rising [] up = refl
rising (r ∷ []) up = refl
rising (r ∷ s ∷ rows) up =
    let both = first_of_both (is_row_below r s) (is_ordered (s ∷ rows)) up in
    ap (λ t. t && is_rising (s ∷ rows)) (not_below r s both.0) ∙ rising (s ∷ rows) both.1

pub returns-clause-strict : goal.returns-clause-strict
returns-clause-strict c rows up = rising rows up
