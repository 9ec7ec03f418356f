use Rattle.std.proofs.Common.{◌≡◌, ◌<◌, ◌++◌, Ok, List, ℕ, length, take, sym, subst, ap, ◌∙◌, arith}
use Rattle.std.specs.Prelude.{IsErrOf, OnOk}
use Rattle.std.proofs.lemmas.Result.{err_from_is_err_and}
use Rattle.fine_model.specs.Regions.{body_bytes, header_bytes}
use Rattle.log_disk.specs.Disk.{with_bytes}
use Rattle.log_disk.specs.declared.refusal.DiskRefusal.{DiskRefusal}
use Rattle.log_partition.specs.Headers.{padding}
use Rattle.epoch_room.specs.Gate.{gate, HasBytes, IsUngated, LeavesSealing}
use Rattle.epoch_room.specs.RowWrites.{WritesRows}
use Rattle.epoch_room.proofs.OpenEpochs.Gates.{still_unseen}
use Rattle.epoch_room.proofs.Merges.MergedHeaders.{header_cut}
use Rattle.epoch_room.proofs.Adopting.SealedRows.{header_fits, seals_refused, seals_then}
use Rattle.epoch_room.proofs.row_writes.seal_rows.Given.{Over}
use Rattle.epoch_room.proofs.row_writes.seal_rows.Goals.{After-header_len}
use Rattle.epoch_room.proofs.row_writes.seal_rows.Goals as goal

-- the bytes that are written behind the gate are those of the header
cut_header : (g : Over) (c : After-header_len g) → take c.header_len.result c.header_bytes-bytes.result ≡ header_bytes (g.D.LogDisk.state c.args.disk.now).region_len c.args.part.now.header
cut_header g c =
    let header = c.args.part.now.header in
    header_cut _ header c.header_bytes-bytes.result (padding header.mark) c.header_len.result c.requires.place.lies.listed c.header_len.ensures
    (c.header_bytes-bytes.ensures ∙ ap (λ n. header_bytes n header ++ padding header.mark) (c.region_len.ensures.region_len ∙ c.in_ok-write_rows.ensures.beside.region_len))

pub returns-in_err-write_rows : goal.returns-in_err-write_rows
returns-in_err-write_rows g c =
    let p = err_from_is_err_and c.from_residual.result c.from_residual.ensures.1 in
    rw (p.1, p.2) (seals_refused c.args.part.now c.args.rows.now c.in_err-write_rows.field-0.0 (g.D.LogDisk.state c.args.disk.now) (g.D.LogDisk.state c.write_rows.new.disk) c.in_err-write_rows.ensures)

pub seal_region-requires-clause-sound : goal.seal_region-requires-clause-sound
seal_region-requires-clause-sound g c κs within = c.in_ok-write_rows.ensures.sound

pub seal_region-requires-clause-there : goal.seal_region-requires-clause-there
seal_region-requires-clause-there g c κs within = subst (λ n. c.args.part.now.region < n) (sym c.in_ok-write_rows.ensures.beside.regions) c.requires.place.there.0

pub seal_region-requires-clause-within : goal.seal_region-requires-clause-within
seal_region-requires-clause-within g c κs within =
    let cut = cut_header g (goal.at.seal_region-requires-clause-within g c).After-header_len in
    omega (arith, header_fits c.args.part.now (g.D.LogDisk.state c.args.disk.now) c.requires.place, ap (λ (xs : List ℕ). length xs) cut, c.in_ok-write_rows.ensures.beside.region_len)

pub seal_region-requires-clause-unseen : goal.seal_region-requires-clause-unseen
seal_region-requires-clause-unseen g c κs within =
    still_unseen c.args.part.now.region (g.D.LogDisk.state c.args.disk.now) (g.D.LogDisk.state c.write_rows.new.disk) c.in_ok-write_rows.ensures.beside.eyes (c.requires.place.unseen 0 0 (omega arith))

pub returns : goal.returns
returns g c =
    let old = g.D.LogDisk.state c.args.disk.now in
    let mid = g.D.LogDisk.state c.write_rows.new.disk in
    let new = g.D.LogDisk.state c.seal_region.new.disk in
    let cut = cut_header g (goal.at.returns g c).After-header_len in
    let w : WritesRows c.args.part.now (body_bytes c.args.rows.now) (Ok c.in_ok-write_rows.field-0) old mid = c.in_ok-write_rows.ensures in
    let e = c.seal_region.ensures in
    let lead = c.args.part.now.region in
    let result = c.seal_region.result in
    seals_then c.args.part.now c.args.rows.now old mid new c.requires.place w result e.touches.beside e.touches.counts e.touches.sound e.touches.time e.touches.dirties e.read
    (subst (λ xs. LeavesSealing lead xs mid new) cut e.leaves) e.synced
    (subst (λ xs. OnOk result (HasBytes (λ image. with_bytes (with_bytes image lead 1 xs) lead 0 gate) mid new)) cut e.bytes)
    (subst (λ xs. IsErrOf result DiskRefusal.NoMemory → IsUngated lead xs mid new) cut e.no_memory) e.untouched
