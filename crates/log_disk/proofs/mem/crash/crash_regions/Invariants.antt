use Rattle.std.proofs.Common.{◌≡◌, map, drop}
use Rattle.std.specs.List.{range_with_len}
use Rattle.log_disk.specs.Crash.{pending_below, crash_region}
use Rattle.log_disk.specs.MemDisk.{range_of}
use Rattle.log_disk.specs.Region.{bytes_of, synced_of}
use Rattle.log_disk.proofs.mem.crash.crash_regions.Given as goal

abbrev pub invariant-loop-region : goal.invariant-loop-region
invariant-loop-region l = record {
  rest : l.rest ≡ drop (pending_below (record { synced = map synced_of l.rows; unsynced = map range_of l.unsynced }) l.region) l.picks;
  bytes : map bytes_of l.left.items ≡ map (crash_region (record { synced = map synced_of l.rows; unsynced = map range_of l.unsynced }) l.picks) (range_with_len 0 l.region);
  synced : map synced_of l.left.items ≡ map bytes_of l.left.items;
}
