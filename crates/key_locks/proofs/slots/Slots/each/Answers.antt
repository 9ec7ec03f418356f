use Rattle.std.proofs.Common.{subst, ◌∙◌}
use Rattle.std.specs.Prelude.{vec_capacity}
use Rattle.key_locks.specs.Slots.{EachBy, LeavesAt}
use Rattle.key_locks.proofs.Numbered.{still_numbered}
use Rattle.key_locks.proofs.slots.Slots.each.Goals as goal

pub invariant_of-self : goal.invariant_of-self
invariant_of-self g c = record {
  kept = c.change_each.ensures.capacity ∙ c.self.invariant.kept;
  numbered = still_numbered (LeavesAt g.F.Fn c.args.change) c.self.inside.places.items c.change_each.new.places.items c.self.inside.filled.items (vec_capacity c.self.inside.filled) c.self.invariant.numbered c.change_each.ensures.size c.change_each.ensures.each;
}

pub returns : goal.returns
returns g c = subst (λ l. EachBy (LeavesAt g.F.Fn c.args.change) l c.change_each.new.places.items) c.self.view_is c.change_each.ensures.each
