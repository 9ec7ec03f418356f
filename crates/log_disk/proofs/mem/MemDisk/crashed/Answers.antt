use Rattle.std.proofs.Common.{◌≡◌, ℕ, ◌<◌, List, length, map, refl, sym, ap, subst, ◌∙◌, arith}
use Rattle.std.proofs.lemmas.List.{length-map}
use Rattle.log_disk.specs.declared.mem.Present.{Present}
use Rattle.log_disk.specs.declared.mem.Written.{Written}
use Rattle.log_disk.specs.declared.mem.region.Region.{Region}
use Rattle.log_disk.specs.Disk.{Image}
use Rattle.log_disk.specs.Crash.{crash_image}
use Rattle.log_disk.specs.MemDisk.{told_of, moment_of, range_of}
use Rattle.log_disk.specs.Region.{bytes_of, synced_of}
use Rattle.log_disk.proofs.Crashes.{crash_lengths, length-crash_image}
use Rattle.log_disk.proofs.InMemory.{new_kept, new_disk_is}
use Rattle.log_disk.proofs.mem.MemDisk.crashed.Goals as goal

-- the image that is made of the regions and ranges of the present
crash_of : (present : Present) (rows : List Region) (ranges : List Written) (picks : List ℕ) (made : Image) → rows ≡ present.regions.items → ranges ≡ present.unsynced.items
    → made ≡ crash_image (record { synced = map synced_of rows; unsynced = map range_of ranges }) picks → made ≡ crash_image (moment_of present) picks
crash_of present rows ranges picks made rows_are ranges_are is =
    is ∙ ap (λ rows. crash_image (record { synced = map synced_of rows; unsynced = map range_of ranges }) picks) rows_are
    ∙ ap (λ ranges. crash_image (record { synced = map synced_of present.regions.items; unsynced = map range_of ranges }) picks) ranges_are

pub invariant_of-result : goal.invariant_of-result
invariant_of-result c =
    let m = moment_of c.self.inside.present in
    let picks = c.args.picks.now in
    let bytes = crash_of c.self.inside.present c.deref.result.now c.deref-2.result.now picks (map bytes_of c.in_ok-rows.rows.items) c.deref.ensures.value c.deref-2.ensures.value c.in_ok-rows.ensures.bytes in
    let number : length (crash_image m picks) ≡ length c.self.inside.present.regions.items = length-crash_image m picks ∙ length-map c.self.inside.present.regions.items synced_of in
    new_kept _ (crash_image m picks) (subst (λ n. n < 4294967296) (sym number) c.self.invariant.few)
    (crash_lengths m picks c.self.inside.region_len (λ r h. sym (c.self.invariant.image.lengths r) ∙ c.self.invariant.lengths r (omega (arith, h, length-map c.self.inside.present.regions.items synced_of))))
    bytes (c.in_ok-rows.ensures.synced ∙ bytes) c.new.ensures.len c.none-2.ensures.numbered

pub returns-clause-crash : goal.returns-clause-crash
returns-clause-crash c =
    let m = moment_of c.self.inside.present in
    let picks = c.args.picks.now in
    let bytes = crash_of c.self.inside.present c.deref.result.now c.deref-2.result.now picks (map bytes_of c.in_ok-rows.rows.items) c.deref.ensures.value c.deref-2.ensures.value c.in_ok-rows.ensures.bytes in
    let number : length (crash_image m picks) ≡ length c.self.inside.present.regions.items = length-crash_image m picks ∙ length-map c.self.inside.present.regions.items synced_of in
    rw (← c.self.view_is) (record {
      was = told_of c.self.inside;
      told = refl;
      now =
          new_disk_is
          (record { alloc = c.self.inside.alloc; region_len = c.self.inside.region_len; present = record { regions = c.in_ok-rows.rows; unsynced = c.new.result }; past = c.new-2.result; schedule = c.new-3.result; eyes = c.none-2.result; faults = c.none-3.result })
          (crash_image m picks) _ _ number bytes (c.in_ok-rows.ensures.synced ∙ bytes) c.new.ensures.items c.new-2.ensures.items c.none-2.ensures.eyes c.none-2.ensures.given c.none-3.ensures.all c.none-3.ensures.own refl;
    })
