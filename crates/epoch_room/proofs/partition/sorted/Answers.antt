use Rattle.std.proofs.Common.{rules}
use Rattle.std.proofs.lemmas.List.Sorted.{answers_always}
use Rattle.node_record.specs.Keys.{is_key_below}
use Rattle.epoch_room.proofs.OpenEpochs.Arranging.{keys_ranked}
use Rattle.epoch_room.proofs.partition.sorted.Goals as goal

pub returns-clause-sorted : goal.returns-clause-sorted
returns-clause-sorted c = c.sort_unstable_by.ensures.sorted is_key_below keys_ranked (answers_always _ _ _ (λ f a r f' k. search rules))
