use Rattle.std.proofs.Common.{◌≡◌, drop}
use Rattle.std.specs.Prelude.{fold}
use Rattle.btree_nodes.specs.Hashes.{low_step}
use Rattle.btree_nodes.proofs.hash.hash_behind.Given as goal

abbrev pub invariant-loop-byte : goal.invariant-loop-byte
invariant-loop-byte l = fold low_step l.hash (drop l.byte-index l.bytes) ≡ fold low_step l.fn.low l.bytes
