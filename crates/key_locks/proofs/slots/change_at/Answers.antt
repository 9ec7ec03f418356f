use Rattle.std.proofs.Common.{refl}
use Rattle.key_locks.proofs.Numbered.{value_there}
use Rattle.key_locks.proofs.slots.change_at.Goals as goal

pub returns : goal.returns
returns g c = record {
  changes = record {
    old = c.filled_in.result.now;
    new = c.change.new.arg2;
    was = value_there c.args.places.now.items c.args.places.now.items c.args.number c.args.number c.requires.filled.0 c.filled_in.result.now c.index_mut.result.now refl refl c.requires.filled.1 c.index_mut.ensures.value c.filled_in.ensures.value;
    by = record { shown = _; shows = refl; left = _; met = c.change.ensures; leaves = refl };
    is = refl;
  };
  capacity = refl;
}
