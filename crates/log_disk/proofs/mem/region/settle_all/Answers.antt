use Rattle.std.proofs.Common.{◌<◌, length, sym, arith, ◌∙◌, map}
use Rattle.std.proofs.lemmas.List.{take-map}
use Rattle.log_disk.specs.Region.{bytes_of, synced_of}
use Rattle.log_disk.proofs.Lists.{map_set_same, map_take_set}
use Rattle.log_disk.proofs.Regions.{synced_if_none}
use Rattle.log_disk.proofs.mem.region.settle_all.Goals as goal

pub loop-row-preserved : goal.loop-row-preserved
loop-row-preserved c =
    let rows = c.loop-row.rows in
    let i = c.loop-row.row-index in
    let orig = c.args.rows.now in
    let new = c.settle.new.self in
    let within : i < length rows = omega arith in (
      map_set_same bytes_of rows i new c.row-item.result c.settle.ensures.bytes ∙ c.loop-row.invariant.0,
      map_take_set bytes_of synced_of rows (map bytes_of orig) i new c.row-item.result within c.loop-row.invariant.0
          (c.loop-row.invariant.1 ∙ sym (take-map bytes_of i orig)) (synced_if_none new c.settle.ensures.synced ∙ c.settle.ensures.bytes)
          ∙ take-map bytes_of _ orig,
    )
