use Rattle.log_disk.proofs.Moments.{synced_now, synced_is_now}
use Rattle.log_disk.proofs.Steps.{all_synced, all_synced_is_now}
use Rattle.log_disk.proofs.Torn.{image_back, torn_before, torn_outside}
use Rattle.log_disk.proofs.Writes.{image_after}
use Rattle.log_disk.proofs.laws.images_law.Goals as goal

pub returns-clause-writes : goal.returns-clause-writes
returns-clause-writes c = λ moment region from end image. (
  λ is. (image_back moment image region from end, torn_before moment image region from end is, torn_outside moment image region from end),
  λ before is same. image_after moment before image region from end same is,
)

pub returns-clause-syncs : goal.returns-clause-syncs
returns-clause-syncs c = λ disk old new image told synced. (synced_now disk old new image told synced, synced_is_now disk old new image told synced)

pub returns-clause-synced : goal.returns-clause-synced
returns-clause-synced c = λ disk told image is none. (all_synced disk told image is none, all_synced_is_now disk told image is none)
