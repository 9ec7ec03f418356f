-- No part that was looked at has anything wrong with its regions.
use Rattle.std.proofs.Common.{◌≡◌, drop}
use Rattle.std.specs.List.{filter_map}
use Rattle.fine_model.specs.Chain.{bad_continuation}
use Rattle.reopen.proofs.chain.check_apart.Given as goal

abbrev pub invariant-loop-part : goal.invariant-loop-part
invariant-loop-part l = filter_map (bad_continuation l.parts) l.parts ≡ filter_map (bad_continuation l.parts) (drop l.part-index l.parts)
