use Rattle.std.proofs.Common.{length}
use Rattle.log_commands.proofs.keys.+note_keys.Given as goal

abbrev pub decreases-note_keys : goal.decreases-note_keys
decreases-note_keys l = length l.keys.now
