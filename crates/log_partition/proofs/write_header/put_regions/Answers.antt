use Rattle.std.proofs.Common.{◌+◌, ◌*◌, ◌∷◌, [], ◌++◌, take, arith}
use Rattle.std.specs.Prelude.{flat_map, slice_index}
use Rattle.std.specs.Int.{to_be_bytes, w32}
use Rattle.log_partition.proofs.Fields.{number_more, all_numbers, spelled}
use Rattle.log_partition.proofs.write_header.put_regions.Goals as goal

pub loop-i-preserved : goal.loop-i-preserved
loop-i-preserved c =
    let more = c.args.header.now.more in
    let front = c.args.header.now.regions ∷ flat_map (to_be_bytes w32) (take c.loop-i.i more) in
    record {
      long = c.loop-i.invariant.long;
      written = λ text h.
          number_more c.loop-i.bytes c.put-in-loop-i.new.bytes text (c.args.header.now.regions ∷ []) more c.loop-i.i (omega (arith, c.loop-i.invariant.long))
          (spelled c.put-in-loop-i.new.bytes (41 + 4 * c.loop-i.i) (text ++ front) c.to_be_bytes.result (to_be_bytes w32 (slice_index more c.loop-i.i)) c.to_be_bytes.ensures (c.put-in-loop-i.ensures (text ++ front) (c.loop-i.invariant.written text h)));
    }

pub returns : goal.returns
returns c =
    λ text h.
    all_numbers c.loop-i.bytes text (c.args.header.now.regions ∷ []) c.args.header.now.more c.loop-i.i c.loop-i.invariant.long (omega arith) (c.loop-i.invariant.written text h)
