use Rattle.program_runs.specs.Disks.{IsLeft}
use Rattle.worked_logs_tests.proofs.tests.take_steps.Given as goal

-- the log is as a run leaves it
abbrev pub invariant-loop-step : goal.invariant-loop-step
invariant-loop-step g l = IsLeft l.disk.disk
