use Rattle.std.proofs.Common.{map, sym, ap, subst, ◌∙◌, arith}
use Rattle.std.proofs.lemmas.List.{length-map}
use Rattle.std.proofs.lemmas.Result.{on_ok_weaker}
use Rattle.log_disk.specs.Disk.{SameOutside}
use Rattle.log_disk.specs.Region.{bytes_of, synced_of}
use Rattle.log_disk.proofs.Lists.{map_set_same}
use Rattle.log_disk.proofs.Regions.{written_image}
use Rattle.log_disk.proofs.Writes.{same_outside_written}
use Rattle.log_disk.proofs.mem.region.write_region.Goals as goal

pub returns-clause-written : goal.returns-clause-written
returns-clause-written c =
    let row = c.index_mut-row in
    on_ok_weaker _ (written_image bytes_of c.args.rows.now.items c.args.region c.args.at c.args.bytes.now c.write.new.self row.result.now c.requires.there row.ensures.value) c.write.ensures.written

pub returns-clause-outside : goal.returns-clause-outside
returns-clause-outside c =
    let row = c.index_mut-row in
    let rows = c.args.rows.now.items in
    on_ok_weaker _ (λ written. subst (SameOutside c.args.region c.args.at _ (map bytes_of rows)) (sym (written_image bytes_of rows c.args.region c.args.at c.args.bytes.now c.write.new.self row.result.now c.requires.there row.ensures.value written))
    (same_outside_written (map bytes_of rows) c.args.region c.args.at c.args.bytes.now (omega (arith, c.requires.there, length-map rows bytes_of)) c.requires.within)) c.write.ensures.written

pub returns-clause-synced : goal.returns-clause-synced
returns-clause-synced c =
    let row = c.index_mut-row in
    map_set_same synced_of c.args.rows.now.items c.args.region c.write.new.self row.result.now (c.write.ensures.synced ∙ ap synced_of row.ensures.value)
