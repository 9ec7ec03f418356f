use Rattle.std.proofs.Common.{◌∙◌}
use Rattle.room_steps.proofs.Merges.{named_by}
use Rattle.room_steps.proofs.merging.named.Goals as goal

pub returns : goal.returns
returns g c = named_by c.args.room.now.room c.as_slice.result.now c.space_of.result c.next_merge.result c.space_of.ensures.is (c.as_slice.ensures ∙ c.parts.ensures) c.next_merge.ensures.policy
