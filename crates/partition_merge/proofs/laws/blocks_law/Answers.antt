use Rattle.partition_merge.proofs.Lengths.{handed_len, merged_small}
use Rattle.partition_merge.proofs.laws.blocks_law.Goals as goal

pub returns : goal.returns
returns c = record { handed = handed_len; small = merged_small }
