use Rattle.std.proofs.Common.{length}
use Rattle.log_commands.proofs.keys.+note_bytes.Given as goal

abbrev pub decreases-note_bytes : goal.decreases-note_bytes
decreases-note_bytes l = length l.bytes.now
