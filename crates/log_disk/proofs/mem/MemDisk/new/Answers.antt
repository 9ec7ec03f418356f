use Rattle.std.proofs.Common.{◌∙◌, ap, Some, ◌≡◌, ◌<◌, length, replicate, arith, refl, subst, sym}
use Rattle.std.proofs.lemmas.List.{length-replicate}
use Rattle.log_disk.specs.Disk.{zeros, Disk, new_disk, told_anew}
use Rattle.log_disk.specs.MemDisk.{disk_of}
use Rattle.log_disk.specs.Schedule.{plan_of, calls_of}
use Rattle.log_disk.proofs.InMemory.{new_kept, new_disk_is, zeros_length}
use Rattle.log_disk.proofs.mem.MemDisk.new.Goals as goal

pub invariant_of-result : goal.invariant_of-result
invariant_of-result c =
    let few : c.args.regions < 4294967296 = omega arith in
    let number : length (zeros c.args.regions c.args.region_len) ≡ c.args.regions = length-replicate c.args.regions (replicate c.args.region_len 0) in
    new_kept _ (zeros c.args.regions c.args.region_len) (subst (λ n. n < 4294967296) (sym number) few) (λ r h. zeros_length c.args.regions c.args.region_len r (subst (λ n. r < n) number h)) c.in_ok-rows.ensures.bytes c.in_ok-rows.ensures.synced c.new.ensures.len c.none.ensures.numbered

pub returns : goal.returns
returns c =
    let disk : disk_of (record { alloc = c.args.alloc; region_len = c.args.region_len; present = record { regions = c.in_ok-rows.rows; unsynced = c.new.result }; past = c.new-2.result; schedule = c.new-3.result; eyes = c.none.result; faults = c.none-2.result })
    ≡ new_disk c.args.regions c.args.region_len (Some (told_anew (zeros c.args.regions c.args.region_len))) =
    new_disk_is
    (record { alloc = c.args.alloc; region_len = c.args.region_len; present = record { regions = c.in_ok-rows.rows; unsynced = c.new.result }; past = c.new-2.result; schedule = c.new-3.result; eyes = c.none.result; faults = c.none-2.result })
    (zeros c.args.regions c.args.region_len) c.args.regions c.args.region_len (length-replicate c.args.regions (replicate c.args.region_len 0)) c.in_ok-rows.ensures.bytes c.in_ok-rows.ensures.synced c.new.ensures.items c.new-2.ensures.items c.none.ensures.eyes c.none.ensures.given c.none-2.ensures.all c.none-2.ensures.own refl in
    ap (λ (d : Disk). record { disk = d; plan = plan_of c.new-3.result.plan; calls = calls_of c.new-3.result }) disk
    ∙ ap (λ p. record { disk = new_disk c.args.regions c.args.region_len (Some (told_anew (zeros c.args.regions c.args.region_len))); plan = plan_of p; calls = calls_of c.new-3.result }) c.new-3.ensures.plan
    ∙ ap (λ n. record { disk = new_disk c.args.regions c.args.region_len (Some (told_anew (zeros c.args.regions c.args.region_len))); plan = plan_of c.args.plan; calls = n }) c.new-3.ensures.calls
