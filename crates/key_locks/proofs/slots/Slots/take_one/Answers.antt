use Rattle.std.specs.Prelude.{vec_len, vec_capacity}
use Rattle.key_locks.proofs.Numbered.{all_empty_now, emptied_is, emptied_now, never_none}
use Rattle.key_locks.proofs.slots.Slots.take_one.Goals as goal

pub returns-in_default : goal.returns-in_default
returns-in_default g c = (
  all_empty_now c.self.inside.places.items c.args.self.now c.self.inside.filled.items (vec_capacity c.self.inside.filled) (vec_len c.self.inside.filled) c.self.invariant.numbered c.self.view_is c.self.inside.filled.ok.0 c.in_default.ensures.cases.0,
  c.self.view_is,
)

pub unreachable-requires : goal.unreachable-requires
unreachable-requires g c = never_none c.self.inside.places.items c.self.inside.filled.items c.pop.new.self.items (vec_capacity c.self.inside.filled) c.in-Some.number c.from.result c.index_mut.result.now c.self.invariant.numbered c.in-Some.ensures.items c.from.ensures c.index_mut.ensures.value c.in-None.ensures.value

pub invariant_of-self-2 : goal.invariant_of-self-2
invariant_of-self-2 g c = record {
  kept = c.self.invariant.kept;
  numbered = emptied_now c.self.inside.places.items c.self.inside.filled.items c.pop.new.self.items (vec_capacity c.self.inside.filled) (vec_capacity c.pop.new.self) c.in-Some.number c.from.result c.replace.new.dest c.self.invariant.numbered c.in-Some.ensures.items c.from.ensures c.replace.ensures.after c.pop.ensures.capacity;
}

pub returns : goal.returns
returns g c = emptied_is c.self.inside.places.items c.args.self.now c.self.inside.filled.items c.pop.new.self.items (vec_capacity c.self.inside.filled) c.in-Some.number c.from.result c.from-in-Some-replace.result c.replace.new.dest c.index_mut.result.now c.in-Some-replace.value c.self.invariant.numbered c.self.view_is c.in-Some.ensures.items c.from.ensures c.from-in-Some-replace.ensures c.replace.ensures.after c.index_mut.ensures.value c.in-Some-replace.ensures.value
