use Rattle.std.proofs.Common.{Some, refl, slice_set}
use Rattle.std.specs.Prelude.{vec_capacity}
use Rattle.key_locks.proofs.Numbered.{rewritten_now, value_there}
use Rattle.key_locks.proofs.slots.Slots.value.Goals as goal

pub invariant_of-self-lent : goal.invariant_of-self-lent
invariant_of-self-lent g c = λ w. record { kept = c.self.invariant.kept; numbered = rewritten_now c.self.inside.places.items c.args.self.now c.self.inside.filled.items (vec_capacity c.self.inside.filled) c.from.result c.args.number c.requires.filled.1.0 w (Some w) c.self.invariant.numbered c.self.view_is c.requires.filled.1.1 c.from.ensures refl }

pub returns : goal.returns
returns g c = (
  (refl, λ w. λ i. slice_set (c.self.view_is i) (c.from.ensures i) (Some w)),
  record {
    value = value_there c.self.inside.places.items c.args.self.now c.from.result c.args.number c.requires.filled.1.0 c.filled_in.result.now c.index_mut.result.now c.self.view_is c.from.ensures c.requires.filled.1.1 c.index_mut.ensures.value c.filled_in.ensures.value;
    writes_back = tt;
  },
)
