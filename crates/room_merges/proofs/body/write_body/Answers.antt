use Rattle.std.proofs.Common.{arith}
use Rattle.room_merges.proofs.Working.{begins, long_regions, none_allocated}
use Rattle.room_merges.proofs.body.write_body.Goals as goal

pub most_in_block-most-requires : goal.most_in_block-most-requires
most_in_block-most-requires g c = let long = long_regions c.args.room.now c.counts-counts.ensures.whole in let len = c.region_len-region_len.ensures in omega (arith, long, len)

pub write_blocks-requires-clause-begun : goal.write_blocks-requires-clause-begun
write_blocks-requires-clause-begun g c κs within = record {
  out = c.requires.out;
  opened = c.requires.open;
  taken = c.requires.taken;
  older = c.requires.older;
  newer = c.requires.newer;
  writing =
      begins c.args.room.now c.args.view.now c.in-Ok.blocks c.args.job.now c.region_len-region_len.result c.most_in_block-most.result
      (record { whole = c.counts-counts.ensures.whole; is_view = c.parts-parts.ensures.whole; posted = c.requires.posted; region_len = c.requires.region_len })
      c.requires.older c.requires.newer c.requires.none c.region_len-region_len.ensures c.most_in_block-most.ensures.few c.in-Ok.ensures.made c.in-Ok.ensures.kept c.in-Ok.ensures.ahead c.in-Ok.ensures.joined;
  within = let none = c.requires.none in omega (arith, none);
}

pub returns-in-Ok : goal.returns-in-Ok
returns-in-Ok g c = c.write_blocks.ensures

pub returns-in-Err : goal.returns-in-Err
returns-in-Err g c = none_allocated c.args.header c.args.room.now c.args.view.now c.args.job.now c.counts-counts.ensures.whole c.requires.out
