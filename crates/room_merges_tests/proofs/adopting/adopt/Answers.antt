use Rattle.std.proofs.Common.{ap, arith, ◌∙◌}
use Rattle.epoch_room.specs.Fitting.{counts_of}
use Rattle.epoch_room.specs.declared.answers.Counts.{Counts}
use Rattle.room_merges_tests.proofs.Adopted.{keeps_out}
use Rattle.room_merges_tests.proofs.adopting.adopt.Goals as goal

pub adopt-requires-clause-next : goal.adopt-requires-clause-next
unfolding counts_of
adopt-requires-clause-next c = λ _. let e = ap (λ (counts : Counts). counts.sealed) c.counts.ensures.counts in omega (arith, e, c.if-counts-ne0.false)

pub returns-clause-board : goal.returns-clause-board
returns-clause-board c = (keeps_out (record { first = 1; last = 3 }) c.args.rows.now c.args.room.now c.adopt.new.self c.adopt.result c.adopt.ensures.room).board ∙ c.requires.board

pub returns-clause-no_job : goal.returns-clause-no_job
returns-clause-no_job c = (keeps_out (record { first = 1; last = 3 }) c.args.rows.now c.args.room.now c.adopt.new.self c.adopt.result c.adopt.ensures.room).job ∙ c.requires.no_job
