use Rattle.std.proofs.Common.{◌≡◌, ◌+◌, ◌*◌, ◌∷◌, length, take}
use Rattle.std.specs.Prelude.{flat_map}
use Rattle.std.specs.Int.{to_be_bytes, w32}
use Rattle.log_partition.specs.Headers.{Fills}
use Rattle.log_partition.proofs.write_header.put_regions.Given as goal

-- the regions so far are written
abbrev pub invariant-loop-i : goal.invariant-loop-i
invariant-loop-i l = record {
  long : length l.header.more ≡ 7;
  written : Fills l.fn.bytes l.bytes 40 (l.header.regions ∷ flat_map (to_be_bytes w32) (take l.i l.header.more)) (41 + 4 * l.i);
}
