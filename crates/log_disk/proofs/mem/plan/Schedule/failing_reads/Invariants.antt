use Rattle.std.proofs.Common.{◌≡◌, ◌==◌, map, take}
use Rattle.std.specs.Prelude.{filter}
use Rattle.log_disk.proofs.mem.plan.Schedule.failing_reads.Given as goal

abbrev pub invariant-loop-number : goal.invariant-loop-number
invariant-loop-number l =
    l.reads.items ≡ map (λ p. p.1) (filter (λ p. p.0 == l.eye) (take l.number-index l.number-items))
