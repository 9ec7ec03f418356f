use Rattle.program_runs.specs.Disks.{IsReady}
use Rattle.fine_top_tests.proofs.tests.commands_go_on_from_one_another.Given as goal

abbrev pub invariant-loop-texts : goal.invariant-loop-texts
invariant-loop-texts g l = IsReady l.disk.disk
