-- A part that an eye saw is seen as long as the eye is the same but for its counts.
use Rattle.std.proofs.Common.{◌≡◌, sym, subst}
use Rattle.log_disk.specs.Disk.{Eye}
use Rattle.fine_model.specs.declared.Part.{Part}
use Rattle.partition_index.specs.Parts.{IsSeen, SameEye}
use Rattle.partition_index.proofs.Looking.{seen_same}

pub still_seen : (old new : Eye) (was now : Part) → SameEye old new → now ≡ was → IsSeen old was → IsSeen new now
still_seen old new was now same is seen = subst (IsSeen new) (sym is) (seen_same old new was same seen)
