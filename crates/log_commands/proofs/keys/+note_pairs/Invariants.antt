use Rattle.std.proofs.Common.{length}
use Rattle.log_commands.proofs.keys.+note_pairs.Given as goal

abbrev pub decreases-note_pairs : goal.decreases-note_pairs
decreases-note_pairs l = length l.pairs.now
