use Rattle.std.proofs.Common.{◌≡◌, ◌-◌, map}
use Rattle.std.specs.List.{range_with_len}
use Rattle.fine_model.specs.Regions.{entry_test}
use Rattle.log_partition.specs.Headers.{first_bad, entry_tests}
use Rattle.log_partition.proofs.header.test_entries.Given as goal

-- the tests so far hold
abbrev pub invariant-loop-i : goal.invariant-loop-i
invariant-loop-i l = first_bad (entry_tests l.regions l.region l.header) ≡ first_bad (map (entry_test l.regions l.region l.header) (range_with_len l.i (7 - l.i)))
