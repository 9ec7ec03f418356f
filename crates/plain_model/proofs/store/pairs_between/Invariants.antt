use Rattle.std.proofs.Common.{◌≡◌, take, drop}
use Rattle.fine_model.specs.Map.{between}
use Rattle.plain_model.proofs.Founds.{found_with}
use Rattle.plain_model.proofs.store.pairs_between.Given as goal

abbrev pub invariant-loop-i : goal.invariant-loop-i
invariant-loop-i l = found_with l.low l.high l.limit l.found (drop l.i l.pairs) ≡ take l.limit (between l.low l.high l.pairs)
