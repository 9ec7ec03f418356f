use Rattle.std.proofs.Common.{◌∙◌, ap, ◌++◌}
use Rattle.partition_merge.proofs.Leaves.{pieces}
use Rattle.partition_merge.proofs.leaf.put_front.Goals as goal

pub returns : goal.returns
returns c =
    pieces c.args.out.now.items _ _ _ _ _ c.extend_from_slice.new.self.items c.extend_from_slice-2.new.self.items c.extend_from_slice-3.new.self.items c.extend_from_slice-4.new.self.items c.extend_from_slice-5.new.self.items
    c.in_ok-extend_from_slice.ensures.items
    (c.in_ok-extend_from_slice-2.ensures.items ∙ ap (λ t. c.extend_from_slice.new.self.items ++ t) c.to_be_bytes.ensures)
    (c.in_ok-extend_from_slice-3.ensures.items ∙ ap (λ t. c.extend_from_slice-2.new.self.items ++ t) c.to_be_bytes-2.ensures)
    (c.in_ok-extend_from_slice-4.ensures.items ∙ ap (λ t. c.extend_from_slice-3.new.self.items ++ t) c.to_be_bytes-3.ensures)
    (c.in_ok-extend_from_slice-5.ensures.items ∙ ap (λ t. c.extend_from_slice-4.new.self.items ++ t) c.to_be_bytes-4.ensures)
