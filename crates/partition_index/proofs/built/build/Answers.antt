use Rattle.std.proofs.Common.{arith, ◌≡◌, ◌<◌, ◌+◌, ◌∙◌, get_or, length, take, ap}
use Rattle.std.proofs.lemmas.List.{take_all}
use Rattle.std.proofs.lemmas.List.Sums.{sum_by-take-le}
use Rattle.fine_model.specs.RowBytes.{row_len}
use Rattle.partition_index.specs.Index.{entries_of}
use Rattle.partition_index.proofs.Opened.{built_next, built_index, last_counts, offset_next}
use Rattle.partition_index.proofs.built.build.Goals as goal

pub next_entry-requires : goal.next_entry-requires
next_entry-requires c =
    let here : c.loop-i.i < length c.args.rows.now = omega (arith, ap length c.as_slice-row-items.ensures) in
    last_counts c.args.rows.now c.loop-i.i c.loop-i.whole.items c.loop-i.last here c.requires.small c.loop-i.invariant.built

pub overflow_add-offset : goal.overflow_add-offset
overflow_add-offset c =
    let here : c.loop-i.i < length c.args.rows.now = omega (arith, ap length c.as_slice-row-items.ensures) in
    omega (arith, offset_next c.args.rows.now c.args.lens.now c.loop-i.i c.loop-i.offset here c.requires.lens c.loop-i.invariant.offset, sum_by-take-le row_len c.args.rows.now (c.loop-i.i + 1), c.requires.small)

pub loop-i-preserved : goal.loop-i-preserved
loop-i-preserved c =
    let here : c.loop-i.i < length c.args.rows.now = omega (arith, ap length c.as_slice-row-items.ensures) in
    record {
      offset = offset_next c.args.rows.now c.args.lens.now c.loop-i.i c.loop-i.offset here c.requires.lens c.loop-i.invariant.offset;
      built = built_next c.args.rows.now c.loop-i.i c.row-item.result c.loop-i.whole.items c.next_entry.new.whole.items c.loop-i.last c.in_ok-next_entry.field-0 c.loop-i.offset here (c.row-item.is ∙ ap (λ rows. get_or rows c.loop-i.i c.row-item.result) c.as_slice-row-items.ensures) c.requires.order c.loop-i.invariant.offset c.loop-i.invariant.built c.in_ok-next_entry.ensures;
    }

pub returns : goal.returns
returns c =
    let all : take c.loop-i.i c.args.rows.now ≡ c.args.rows.now = take_all c.loop-i.i c.args.rows.now (omega (arith, ap length c.as_slice-row-items.ensures)) in
    c.in_ok-close.ensures ∙ built_index (take c.loop-i.i c.args.rows.now) c.loop-i.whole.items c.loop-i.last c.loop-i.invariant.built ∙ ap entries_of all
