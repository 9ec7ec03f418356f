use Rattle.std.proofs.Common.{Err, None, ap}
use Rattle.node_fetch.proofs.PartRows.{bad_within}
use Rattle.partition_merge.proofs.through.read_entry.Goals as goal

pub bad_index-requires-clause-within : goal.bad_index-requires-clause-within
bad_index-requires-clause-within g c =
    let at = c.in-Err-BadIndex.at in bad_within None c.args.part.now at (c.in-Err-BadIndex.ensures.bad None tt at (ap Err c.in-Err-BadIndex.field-0-is))
