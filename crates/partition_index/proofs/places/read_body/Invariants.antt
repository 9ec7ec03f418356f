use Rattle.std.proofs.Common.{◌≡◌, ◌-◌, ◌≤◌, length, take}
use Rattle.partition_index.specs.Parts.{LooksAt}
use Rattle.partition_index.proofs.places.read_body.Given as goal

abbrev pub invariant-loop-done : goal.invariant-loop-done
invariant-loop-done g l = record {
  long : length l.out ≡ length l.initial.out;
  within : l.done ≤ length l.out;
  looks : LooksAt l.part l.at (take l.done l.out) ⊥ (g.E.LogEye.state l.initial.eye) (g.E.LogEye.state l.eye);
}

abbrev pub decreases-loop-done : goal.decreases-loop-done
decreases-loop-done g l = length l.initial.out - l.done
