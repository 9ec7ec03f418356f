use Rattle.std.proofs.Common.{◌-◌}
use Rattle.fine_model.specs.Regions.{body_len}
use Rattle.room_merges.proofs.Working.{Writing}
use Rattle.room_merges.proofs.body.write_blocks.Given as goal

-- so far the body is written, and nothing was refused
abbrev pub invariant-loop-progress : goal.invariant-loop-progress
invariant-loop-progress g l = Writing l.header l.fn.room l.room l.fn.view l.view l.blocks l.fn.job l.job

abbrev pub decreases-loop-progress : goal.decreases-loop-progress
decreases-loop-progress g l = body_len l.header - l.job.written
