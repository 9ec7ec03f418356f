use Rattle.std.proofs.Common.{◌≡◌, ◌+◌, ◌*◌, length, ap, ◌∙◌, arith}
use Rattle.fine_model.specs.Merge.{nodes_in}
use Rattle.fine_model.specs.RowBytes.{rows_len}
use Rattle.log_partition.proofs.Sealed.{rows_most}
use Rattle.epoch_room.proofs.Adopting.AdoptedSizes.{part_made}
use Rattle.epoch_room.proofs.room.adopting.part_over.Goals as goal

pub overflow_cast-result : goal.overflow_cast-result
overflow_cast-result c = omega (arith, c.len.ensures, rows_most c.args.rows.now, c.requires.small)

pub returns-clause-part : goal.returns-clause-part
returns-clause-part c =
    let rows = c.args.rows.now in
    let area : c.area_of-area.result ≡ rows_len rows = c.area_of-area.ensures ∙ ap rows_len c.as_slice.ensures in
    let len : c.args.len ≡ 41 + (c.area_of-area.result + 14 * length (nodes_in rows)) = omega (arith, c.requires.len, area) in
    part_made c.args.range rows c.args.regions c.from.result c.args.free.now c.take_lowest.new.self c.take_into.new.out c.mark_for.result c.unwrap_or-region.result c.take_lowest.result _ _ _
    c.requires.most c.requires.enough c.requires.some c.mark_for.ensures c.from.ensures c.take_lowest.ensures.lowest c.unwrap_or-region.ensures c.take_lowest.ensures.left c.take_into.ensures.taken
    c.len.ensures (c.entries_in-nodes.ensures (length (nodes_in rows)) len) area
