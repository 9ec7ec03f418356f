use Rattle.log_disk.proofs.Moments.{now_since, only_now, since_on, since_kept, clock_on, leaves_none, leaves_more, leaves_then}
use Rattle.log_disk.proofs.Times.{continues_none, continues_then, continued_later, continued_kept}
use Rattle.std.proofs.Common.{arith}
use Rattle.log_disk.specs.Laws.{Passes}
use Rattle.log_disk.proofs.laws.moments_law.Goals as goal

pub returns-clause-now_since : goal.returns-clause-now_since
returns-clause-now_since c = now_since

pub returns-clause-only_now : goal.returns-clause-only_now
returns-clause-only_now c = only_now

pub returns-clause-time : goal.returns-clause-time
returns-clause-time c = λ clock old new moment image h gone.
    (since_on clock old new moment image h gone, since_kept clock old new moment image h gone, now_since clock new image (omega (arith, h, clock_on old new moment gone)))

pub returns-clause-runs : goal.returns-clause-runs
returns-clause-runs c = λ test old mid new moment. (leaves_none (Passes test) old, leaves_more (Passes test) old mid new moment, leaves_then (Passes test) old mid new)

pub returns-clause-times : goal.returns-clause-times
returns-clause-times c = λ old mid new. (continues_none old, continues_then old mid new)

pub returns-clause-continued : goal.returns-clause-continued
returns-clause-continued c = λ old new on. (continued_later old new on, continued_kept old new on)
