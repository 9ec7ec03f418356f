use Rattle.std.proofs.Common.{sym, ◌∙◌}
use Rattle.room_merges_tests.proofs.Turned.{takes}
use Rattle.room_merges_tests.proofs.turns.take.Goals as goal

pub returns : goal.returns
returns c =
    takes c.args.room.now c.merge_take.new.self c.args.view.now c.measured.new.view c.args.job.now c.merge_take.new.job c.in-Some.header c.in_ok-measure.measure c.measured.ensures.same c.in_ok-measure.ensures.measured
    (sym c.if-not-merge_take.false ∙ c.merge_take.ensures.taken) c.merge_take.ensures.job c.merge_take.ensures.room c.in-Some.is c.requires
