use Rattle.std.proofs.Common.{◌+◌, ◌<◌, sym, ap, subst, length, take, arith, refl}
use Rattle.fine_model.specs.Merge.{encoded_len, nodes_in}
use Rattle.log_partition.specs.Encoding.{IsGreatestOf, greater}
use Rattle.log_partition.proofs.Counted.{len_more, greatest_more, next_taken}
use Rattle.log_partition.proofs.encoding.encoded_len.Goals as goal

pub loop-i-init : goal.loop-i-init
unfolding nodes_in
loop-i-init c = record { len = refl; greatest = refl }

pub loop-i-preserved : goal.loop-i-preserved
loop-i-preserved c =
    let rows = c.as_slice-rows.result.now in
    let i = c.loop-i.i in
    let row = c.index-rows-i.result in
    let here : i < length rows = omega arith in
    let taken = next_taken rows i row here c.index-rows-i.is in
    record {
      len = omega (arith, c.saturating_add-len.ensures, c.saturating_add-len-in-loop-i.ensures, c.from.ensures, c.row_len.ensures.is, c.loop-i.invariant.len, len_more (take i rows) row c.entry_len.result c.entry_len.ensures, ap encoded_len taken);
      greatest = subst (IsGreatestOf (take (i + 1) rows)) (sym c.greater-greatest.ensures) (subst (λ rs. IsGreatestOf rs (greater c.loop-i.greatest row.node)) (sym taken) (greatest_more (take i rows) row c.loop-i.greatest c.loop-i.invariant.greatest));
    }
