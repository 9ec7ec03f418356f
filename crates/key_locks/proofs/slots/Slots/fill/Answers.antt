use Rattle.std.specs.Prelude.{vec_len, vec_capacity}
use Rattle.key_locks.proofs.Numbered.{filled_now, space_now}
use Rattle.key_locks.proofs.slots.Slots.fill.Goals as goal

pub push_reserved-requires : goal.push_reserved-requires
push_reserved-requires g c = space_now c.self.inside.places.items c.args.self.now c.self.inside.filled.items (vec_len c.self.inside.filled) (vec_capacity c.self.inside.filled) c.args.number c.self.invariant.numbered c.self.view_is c.requires.1 c.self.inside.filled.ok.0

pub invariant_of-self : goal.invariant_of-self
invariant_of-self g c = record {
  kept = c.self.invariant.kept;
  numbered = filled_now c.self.inside.places.items c.args.self.now c.self.inside.filled.items c.push_reserved.new.self.items (vec_capacity c.self.inside.filled) (vec_capacity c.push_reserved.new.self) c.from.result c.args.number c.args.value c.self.invariant.numbered c.self.view_is c.requires.1 c.from.ensures c.push_reserved.ensures.items c.push_reserved.ensures.capacity;
}
