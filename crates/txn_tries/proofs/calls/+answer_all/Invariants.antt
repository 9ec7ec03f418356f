use Rattle.std.proofs.Common.{length}
use Rattle.txn_tries.proofs.calls.+answer_all.Given as goal

abbrev pub decreases-answer_all : goal.decreases-answer_all
decreases-answer_all g l = length l.calls.now
