use Rattle.std.proofs.Common.{◌≡◌, ◌<◌, refl, ap, map, length, ◌∙◌, arith, vec_len}
use Rattle.std.specs.Vec.{with_items}
use Rattle.std.proofs.lemmas.List.{with_items_is}
use Rattle.std.proofs.lemmas.Bool.Decides.{nat_tests}
use Rattle.log_disk.specs.Region.{bytes_of}
use Rattle.log_disk.proofs.InMemory.{settled}
use Rattle.log_disk.proofs.mem.MemDiskLogDisk.sync.Goals as goal

pub returns-clause-ok : goal.returns-clause-ok
returns-clause-ok c =
    let rows = c.self.inside.present.regions in
    let there : 0 < vec_len c.self.inside.present.unsynced = grind (arith, nat_tests, c.if-is_empty.ensures) in
    let some : 0 < length c.self.inside.present.unsynced.items = omega (arith, there, c.self.inside.present.unsynced.ok.0) in
    let long : length c.settle_all.new.rows ≡ rows.len = omega (arith, c.settle_all.auto.rows, c.deref_mut.ensures.len) in
    rw (← c.self.view_is) (settled c.self.inside
    (record { alloc = c.self.inside.alloc; region_len = c.self.inside.region_len; present = record { regions = with_items rows c.settle_all.new.rows; unsynced = c.clear.new.self }; past = c.push_reserved.new.self; schedule = c.sync_fails.new.self; eyes = c.self.inside.eyes; faults = c.self.inside.faults })
    c.settle_all.new.rows c.of-before.result some (with_items_is rows c.settle_all.new.rows long)
    (c.settle_all.ensures.bytes ∙ ap (map bytes_of) c.deref_mut.ensures.value) (c.settle_all.ensures.synced ∙ ap (map bytes_of) c.deref_mut.ensures.value)
    c.clear.ensures.items c.push_reserved.ensures.items c.of-before.ensures refl refl refl)
