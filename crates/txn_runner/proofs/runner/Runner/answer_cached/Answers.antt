use Rattle.txn_runner.proofs.Calls.{answers_cached, misses_cached, refuses_cached}
use Rattle.txn_runner.proofs.runner.Runner.answer_cached.Goals as goal

pub returns-in-Ok-clause-answers : goal.returns-in-Ok-clause-answers
returns-in-Ok-clause-answers g c = answers_cached _ _ c.self.view_is c.of-nodes.result c.of-nodes.ensures c.sealed-whole.ensures.whole c.requires.shelf c.requires.opened c.args.buckets.now c.answer_all.new.buckets c.answer_all.new.draft c.args.calls.now c.answer_all.result _ c.answer_all.ensures.clean _ c.in-Ok.is
    c.answer_all.ensures.answered c.answer_all.ensures.open

pub returns-in-Source-clause-answers : goal.returns-in-Source-clause-answers
returns-in-Source-clause-answers g c = misses_cached _ _ c.self.view_is c.of-nodes.result c.of-nodes.ensures c.sealed-whole.ensures.whole c.requires.shelf c.requires.opened c.args.buckets.now c.answer_all.new.buckets c.answer_all.new.draft c.args.calls.now c.answer_all.result _ c.answer_all.ensures.clean
    c.in-Err.fault c.in-Err.is c.answer_all.ensures.fails c.answer_all.ensures.refused _ c.take_back.ensures

pub returns-clause-answers : goal.returns-clause-answers
returns-clause-answers g c = refuses_cached _ _ c.self.view_is c.of-nodes.result c.of-nodes.ensures c.sealed-whole.ensures.whole c.requires.shelf c.requires.opened c.args.buckets.now c.answer_all.new.buckets c.answer_all.new.draft c.args.calls.now c.answer_all.result _ c.answer_all.ensures.clean
    c.in-Err.fault c.in-Err.is c.answer_all.ensures.fails c.answer_all.ensures.refused _ c.take_back.ensures _ c.of_tree.ensures
