use Rattle.std.proofs.Common.{subst}
use Rattle.room_merges_tests.specs.Turns.{Merges}
use Rattle.room_merges_tests.proofs.Turned.{dropped}
use Rattle.room_merges_tests.proofs.turns.end_merge.Goals as goal

pub merge_drop-requires-clause-out : goal.merge_drop-requires-clause-out
merge_drop-requires-clause-out c = λ _. (subst (λ r. Merges c.write_part.new.room c.write_part.new.view c.write_part.new.job r) c.in-Err.is c.write_part.ensures).out

pub returns-in-Ok-clause-at : goal.returns-in-Ok-clause-at
returns-in-Ok-clause-at c = (subst (λ r. Merges c.write_part.new.room c.write_part.new.view c.write_part.new.job r) c.in-Ok.is c.write_part.ensures).0

pub returns-in-Ok-clause-job : goal.returns-in-Ok-clause-job
returns-in-Ok-clause-job c = (subst (λ r. Merges c.write_part.new.room c.write_part.new.view c.write_part.new.job r) c.in-Ok.is c.write_part.ensures).1

pub returns-in-Err-clause-at : goal.returns-in-Err-clause-at
returns-in-Err-clause-at c = (dropped c.write_part.new.room c.merge_drop.new.self c.write_part.new.view c.write_part.new.job _ c.merge_drop.ensures.room (subst (λ r. Merges c.write_part.new.room c.write_part.new.view c.write_part.new.job r) c.in-Err.is c.write_part.ensures)).0

pub returns-in-Err-clause-job : goal.returns-in-Err-clause-job
returns-in-Err-clause-job c = (dropped c.write_part.new.room c.merge_drop.new.self c.write_part.new.view c.write_part.new.job _ c.merge_drop.ensures.room (subst (λ r. Merges c.write_part.new.room c.write_part.new.view c.write_part.new.job r) c.in-Err.is c.write_part.ensures)).1
