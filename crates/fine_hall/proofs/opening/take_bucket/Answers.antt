use Rattle.std.proofs.Common.{sym, ◌∙◌}
use Rattle.fine_places.proofs.Lists.{some_same}
use Rattle.fine_hall.specs.Opening.{bucket_slot}
use Rattle.fine_hall.proofs.Laying.{last_mapped, no_slot}
use Rattle.fine_hall.proofs.opening.take_bucket.Goals as goal

pub unreachable-requires : goal.unreachable-requires
unreachable-requires g c = let t = last_mapped bucket_slot c.requires.0 c.pop.new.self.items c.in_ok-slot.slot (sym c.requires.1 ∙ c.in_ok-slot.ensures.items) in
    no_slot _ (sym c.in_default.is ∙ t.4)

pub unreachable-requires-in_default-load : goal.unreachable-requires-in_default-load
unreachable-requires-in_default-load g c = let t = last_mapped bucket_slot c.requires.0 c.pop.new.self.items c.in_ok-slot.slot (sym c.requires.1 ∙ c.in_ok-slot.ensures.items) in
    c.in_default-load.not-Bucket t.1 (some_same _ _ (sym c.in-Some.is ∙ t.4))
