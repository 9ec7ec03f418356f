use Rattle.std.proofs.Common.{◌≡◌, ◌<◌, ◌++◌, length, take, sym, ap, ◌∙◌, arith, append-nil, length-append}
use Rattle.std.specs.Prelude.{slice_index_or}
use Rattle.std.proofs.lemmas.List.{take_all}
use Rattle.fine_model.specs.RowBytes.{rows_bytes}
use Rattle.fine_model.proofs.Chain.Grammar.{rows_long}
use Rattle.log_partition.proofs.Keyed.{no_key, as_many, part_within, part_long, put_more, part_of, len_more, len_within}
use Rattle.log_partition.proofs.encoding.put_rows.Goals as goal

pub loop-key-init : goal.loop-key-init
unfolding rows_bytes
loop-key-init c = record { items = λ rows are. sym (append-nil c.args.out.now.items); capacity = omega arith }

pub slice_bounds-put-end : goal.slice_bounds-put-end
slice_bounds-put-end c =
    let here : c.loop-key.key-index < length c.args.keys.now = omega arith in
    part_within c.args.bytes.now c.requires.0 c.args.keys.now c.loop-key.key-index no_key c.requires.1 here

pub put-requires : goal.put-requires
put-requires c =
    let rows = c.requires.0 in
    let are = c.requires.1 in
    let here : c.loop-key.key-index < length c.args.keys.now = omega arith in
    let long = ap length (c.loop-key.invariant.items rows are) ∙ length-append c.args.out.now.items (rows_bytes (take c.loop-key.key-index rows)) in
    omega (
      arith,
      long,
      rows_long (take c.loop-key.key-index rows),
      part_long c.args.bytes.now rows c.args.keys.now c.loop-key.key-index no_key are here,
      len_more c.args.bytes.now rows c.args.keys.now c.loop-key.key-index no_key are here,
      len_within c.args.bytes.now rows c.args.keys.now c.loop-key.key-index no_key are here,
      c.requires.2,
      c.loop-key.invariant.capacity,
    )

pub loop-key-preserved : goal.loop-key-preserved
loop-key-preserved c =
    let here : c.loop-key.key-index < length c.args.keys.now = omega arith in
    record {
      items = λ rows are. c.put.ensures.items ∙ ap (λ xs. xs ++ part_of c.args.bytes.now (slice_index_or c.args.keys.now c.loop-key.key-index no_key)) (c.loop-key.invariant.items rows are) ∙ put_more c.args.bytes.now rows c.args.keys.now c.loop-key.key-index no_key are here c.args.out.now.items;
      capacity = omega (arith, c.put.ensures.capacity, c.loop-key.invariant.capacity);
    }

pub returns-clause-items : goal.returns-clause-items
returns-clause-items c rows are =
    let all : take c.loop-key.key-index rows ≡ rows = take_all c.loop-key.key-index rows (omega (arith, as_many c.args.bytes.now rows c.args.keys.now are)) in
    c.loop-key.invariant.items rows are ∙ ap (λ rs. c.args.out.now.items ++ rows_bytes rs) all
