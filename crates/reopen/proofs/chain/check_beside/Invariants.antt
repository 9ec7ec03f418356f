-- Nothing is wrong with the parts that were looked at.
use Rattle.std.proofs.Common.{◌≡◌, drop}
use Rattle.std.specs.List.{filter_map}
use Rattle.fine_model.specs.Chain.{fault_beside}
use Rattle.reopen.proofs.chain.check_beside.Given as goal

abbrev pub invariant-loop-part : goal.invariant-loop-part
invariant-loop-part l = filter_map (fault_beside l.chain) l.sealed ≡ filter_map (fault_beside l.chain) (drop l.part-index l.sealed)
