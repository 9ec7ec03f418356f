use Rattle.std.proofs.Common.{ℕ, ◌<◌}
use Rattle.node_cache.specs.Given.{given}
use Rattle.log_commands.specs.Reading.{HasByteKeys}
use Rattle.log_commands.proofs.keys.note_bucket.Given as goal

-- of the numbers so far
abbrev pub invariant-loop-number : goal.invariant-loop-number
invariant-loop-number l = (n : ℕ) → n < l.number → HasByteKeys (given l.bucket n).0
