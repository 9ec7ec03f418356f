use Rattle.std.proofs.Common.{◌+◌, length, arith, refl}
use Rattle.log_disk.proofs.InMemory.{kept_alike, kept_written}
use Rattle.log_disk.proofs.Writes.{same_outside_same}
use Rattle.log_disk.proofs.mem.MemDiskLogDisk.write.Goals as goal

pub invariant_of-self-then-fails : goal.invariant_of-self-then-fails
invariant_of-self-then-fails c =
    kept_written c.self.inside _ _ (record { region = c.args.region; from = c.args.at; end = c.args.at + length c.args.bytes.now }) c.self.invariant refl refl (same_outside_same c.args.region c.args.at (c.args.at + length c.args.bytes.now) _) refl c.push_reserved-then-fails.ensures.items c.in_ok-reserve-2.ensures.items (λ _. omega (arith, c.in_ok-reserve.ensures.ok)) refl

pub invariant_of-self-in_err-write_region : goal.invariant_of-self-in_err-write_region
invariant_of-self-in_err-write_region c =
    kept_alike c.self.inside _ c.self.invariant c.in_err-write_region.ensures.err c.in_ok-reserve-2.ensures.items refl (λ _. omega (arith, c.in_ok-reserve.ensures.ok)) refl

pub invariant_of-self-2 : goal.invariant_of-self-2
invariant_of-self-2 c =
    kept_written c.self.inside _ _ (record { region = c.args.region; from = c.args.at; end = c.args.at + length c.args.bytes.now }) c.self.invariant c.in_ok-write_region.ensures.len refl c.in_ok-write_region.ensures.outside c.in_ok-write_region.ensures.synced c.push_reserved-3.ensures.items c.in_ok-reserve-2.ensures.items (λ _. omega (arith, c.in_ok-reserve.ensures.ok)) refl
