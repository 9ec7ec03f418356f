use Rattle.room_merges_tests.specs.Turns.{IsUnderway}
use Rattle.room_merges_tests.proofs.turns.write_part.Given as goal

abbrev pub invariant-loop-number : goal.invariant-loop-number
invariant-loop-number l = IsUnderway l.room l.view l.blocks l.job l.header
