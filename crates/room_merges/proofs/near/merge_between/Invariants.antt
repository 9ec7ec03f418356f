use Rattle.std.proofs.Common.{◌-◌}
use Rattle.room_merges.proofs.Nearing.{Trying}
use Rattle.room_merges.proofs.near.merge_between.Given as goal

-- so far none fits of those that were tried, and nothing was refused
abbrev pub invariant-loop-at : goal.invariant-loop-at
invariant-loop-at g l = Trying l.fn.from l.at l.fn.room l.room l.fn.view l.view

abbrev pub decreases-loop-at : goal.decreases-loop-at
decreases-loop-at g l = l.until - l.at
