use Rattle.std.proofs.Common.{◌≡◌, ◌+◌, ◌<◌, ◌≤◌, ◌++◌, List, ℕ, drop, get_or, length, sym, subst, ap, ◌∙◌, arith}
use Rattle.std.proofs.lemmas.Result.{err_from_is_err_and}
use Rattle.fine_model.specs.declared.Mark.TheVariants as mark
use Rattle.fine_model.specs.Regions.{body_bytes, index_bytes}
use Rattle.fine_model.specs.RowBytes.{row_bytes, rows_bytes}
use Rattle.log_partition.proofs.RowsRead.{lengths}
use Rattle.epoch_room.proofs.Merges.LongBodies.{WrittenTo, front_refused, front_written, full_within, index_taken, left_within, not_err, place_now, row_taken, rows_done, written_none}
use Rattle.epoch_room.proofs.Adopting.SealedRows.{body_within}
use Rattle.epoch_room.proofs.row_writes.write_rows.Given.{Over}
use Rattle.epoch_room.proofs.row_writes.write_rows.Goals.{After-as_slice, Else-is_err}
use Rattle.epoch_room.proofs.row_writes.write_rows.Goals as goal

-- the block has the bytes of this row behind those before
with_row : (g : Over) (c : Else-is_err g) → WrittenTo c.args.part.now 0 (body_bytes c.args.rows.now) (g.D.LogDisk.state c.args.disk.now) (g.D.LogDisk.state c.loop-row.disk) c.loop-row.at (c.write_row.new.out.items ++ (rows_bytes (drop (c.loop-row.row-index + 1) c.args.rows.now) ++ index_bytes c.args.rows.now))
with_row g c =
    let rows = c.args.rows.now in
    let i = c.loop-row.row-index in
    let row = c.row-item.result in
    let low : i < length rows = omega (arith, c.loop-row-test.true, ap length c.as_slice-row-items.ensures) in
    let item : row ≡ get_or rows i row = c.row-item.is ∙ ap (λ xs. get_or xs i row) c.as_slice-row-items.ensures in
    let more : c.write_row.new.out.items ≡ c.loop-row.block.items ++ row_bytes row = not_err c.write_row.result (sym c.is_err.ensures.value ∙ c.if-is_err.false) c.write_row.ensures.ok in
    row_taken c.args.part.now (body_bytes c.args.rows.now) (g.D.LogDisk.state c.args.disk.now) (g.D.LogDisk.state c.loop-row.disk) c.loop-row.at rows (index_bytes rows) c.loop-row.block.items c.write_row.new.out.items i row low item more c.loop-row.invariant

-- the block has the bytes of the last rows and of the index
with_index : (g : Over) (c : After-as_slice g) → WrittenTo c.args.part.now 0 (body_bytes c.args.rows.now) (g.D.LogDisk.state c.args.disk.now) (g.D.LogDisk.state c.loop-row.disk) c.loop-row.at c.as_slice.result.now
with_index g c =
    let rows = c.args.rows.now in
    let few : length rows ≤ c.loop-row.row-index = omega (arith, c.loop-row-test.false, ap length c.as_slice-row-items.ensures) in
    let more : c.as_slice.result.now ≡ c.loop-row.block.items ++ index_bytes rows = c.as_slice.ensures.value ∙ not_err c.put_index.result (sym c.is_err-2.ensures.value ∙ c.if-is_err-2.false) c.put_index.ensures in
    index_taken c.args.part.now (body_bytes c.args.rows.now) (g.D.LogDisk.state c.args.disk.now) (g.D.LogDisk.state c.loop-row.disk) c.loop-row.at rows (index_bytes rows) c.loop-row.block.items c.as_slice.result.now c.loop-row.row-index few more c.loop-row.invariant

pub loop-row-init : goal.loop-row-init
loop-row-init g c =
    let start = g.D.LogDisk.state c.args.disk.now in
    let rows = c.args.rows.now in
    subst (λ (xs : List ℕ). WrittenTo c.args.part.now 0 (body_bytes rows) start start 0 (xs ++ (rows_bytes rows ++ index_bytes rows))) (sym c.new-block.ensures.items) (written_none c.args.part.now 0 (body_bytes rows) start c.requires.place.sound)

pub write_full-requires-clause-place : goal.write_full-requires-clause-place
write_full-requires-clause-place g c κs within = place_now c.args.part.now 0 (body_bytes c.args.rows.now) (g.D.LogDisk.state c.args.disk.now) (g.D.LogDisk.state c.loop-row.disk) c.requires.place (body_within c.args.part.now c.args.rows.now c.requires.counted) c.loop-row.at (c.loop-row.block.items ++ (rows_bytes (drop c.loop-row.row-index c.args.rows.now) ++ index_bytes c.args.rows.now)) c.loop-row.invariant

pub write_full-requires-clause-within : goal.write_full-requires-clause-within
write_full-requires-clause-within g c κs within =
    let fits = full_within c.args.part.now (body_bytes c.args.rows.now) (g.D.LogDisk.state c.args.disk.now) (g.D.LogDisk.state c.loop-row.disk) c.requires.place (body_within c.args.part.now c.args.rows.now c.requires.counted) c.loop-row.at c.write_row.new.out.items (rows_bytes (drop (c.loop-row.row-index + 1) c.args.rows.now) ++ index_bytes c.args.rows.now) (with_row g (goal.at.write_full-requires-clause-within g c).Else-is_err) in
    omega (arith, fits)

pub returns-in_err-at : goal.returns-in_err-at
returns-in_err-at g c =
    let new = g.D.LogDisk.state c.write_full.new.disk in
    let p = err_from_is_err_and c.from_residual.result c.from_residual.ensures.1 in
    rw (p.1, p.2) (front_refused c.args.part.now (body_bytes c.args.rows.now) (g.D.LogDisk.state c.args.disk.now) (g.D.LogDisk.state c.loop-row.disk) new c.requires.place (body_within c.args.part.now c.args.rows.now c.requires.counted) c.loop-row.at c.write_row.new.out.items (rows_bytes (drop (c.loop-row.row-index + 1) c.args.rows.now) ++ index_bytes c.args.rows.now) (with_row g (goal.at.returns-in_err-at g c).Else-is_err) c.in_err-at.field-0.0 c.in_err-at.ensures)

pub loop-row-preserved : goal.loop-row-preserved
loop-row-preserved g c =
    let new = g.D.LogDisk.state c.write_full.new.disk in
    front_written c.args.part.now (body_bytes c.args.rows.now) (g.D.LogDisk.state c.args.disk.now) (g.D.LogDisk.state c.loop-row.disk) new c.requires.place (body_within c.args.part.now c.args.rows.now c.requires.counted) c.loop-row.at c.in_ok-at.at c.write_row.new.out.items c.write_full.new.block.items (rows_bytes (drop (c.loop-row.row-index + 1) c.args.rows.now) ++ index_bytes c.args.rows.now) (with_row g (goal.at.loop-row-preserved g c).Else-is_err) c.in_ok-at.ensures

pub put_index-requires-clause-fit : goal.put_index-requires-clause-fit
put_index-requires-clause-fit g c = lengths mark.Two c.args.rows.now c.requires.counted.fit

pub write_long-requires-clause-place : goal.write_long-requires-clause-place
write_long-requires-clause-place g c κs within = place_now c.args.part.now 0 (body_bytes c.args.rows.now) (g.D.LogDisk.state c.args.disk.now) (g.D.LogDisk.state c.loop-row.disk) c.requires.place (body_within c.args.part.now c.args.rows.now c.requires.counted) c.loop-row.at (c.loop-row.block.items ++ (rows_bytes (drop c.loop-row.row-index c.args.rows.now) ++ index_bytes c.args.rows.now)) c.loop-row.invariant

pub write_long-requires-clause-within : goal.write_long-requires-clause-within
write_long-requires-clause-within g c κs within = left_within c.args.part.now 0 (body_bytes c.args.rows.now) (g.D.LogDisk.state c.args.disk.now) (g.D.LogDisk.state c.loop-row.disk) c.requires.place (body_within c.args.part.now c.args.rows.now c.requires.counted) c.loop-row.at c.as_slice.result.now (with_index g (goal.at.write_long-requires-clause-within g c).After-as_slice)

pub returns : goal.returns
returns g c =
    let new = g.D.LogDisk.state c.write_long.new.disk in
    rows_done c.args.part.now (body_bytes c.args.rows.now) (g.D.LogDisk.state c.args.disk.now) (g.D.LogDisk.state c.loop-row.disk) new c.requires.place (body_within c.args.part.now c.args.rows.now c.requires.counted) c.loop-row.at c.as_slice.result.now (with_index g (goal.at.returns g c).After-as_slice) c.write_long.result c.write_long.ensures
