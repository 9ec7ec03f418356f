use Rattle.program_runs.specs.Disks.{KeepsGeometry}
use Rattle.worked_logs_tests.proofs.tests.has_all.Given as goal

-- the log has its geometry, and no eye is open
abbrev pub invariant-loop-piece : goal.invariant-loop-piece
invariant-loop-piece l = KeepsGeometry l.initial.disk.disk l.disk.disk
