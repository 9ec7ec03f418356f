use Rattle.txn_runner.proofs.Calls.{answers, lacks, refuses}
use Rattle.txn_runner.proofs.runner.Runner.answer_loading.Goals as goal

pub returns-in-Ok-answer-clause-answers : goal.returns-in-Ok-answer-clause-answers
returns-in-Ok-answer-clause-answers g c = answers _ _ c.look.result c.look.ensures _ c.answer_all-answer.new.draft c.args.calls.now _ c.self.view_is c.in-Ok.view c.in-Ok.is c.answer_all-answer.new.source c.answer_all-answer.ensures.later
    c.answer_all-answer.new.buckets c.answer_all-answer.result c.answer_all-answer.ensures.clean _ c.in-Ok-answer.is c.answer_all-answer.ensures.answered c.answer_all-answer.ensures.open

pub returns-in-Err-answer-clause-answers : goal.returns-in-Err-answer-clause-answers
returns-in-Err-answer-clause-answers g c = refuses _ _ c.look.result c.look.ensures _ c.answer_all-answer.new.draft c.args.calls.now _ c.self.view_is c.in-Ok.view c.in-Ok.is c.answer_all-answer.new.source c.answer_all-answer.ensures.later
    c.answer_all-answer.new.buckets c.answer_all-answer.result c.answer_all-answer.ensures.clean c.in-Err-answer.fault c.in-Err-answer.is c.answer_all-answer.ensures.fails c.answer_all-answer.ensures.refused _ c.take_back.ensures _ c.of_tree.ensures

pub returns-in-Err-clause-answers : goal.returns-in-Err-clause-answers
returns-in-Err-clause-answers g c = lacks _ _ c.look.result c.look.ensures _ c.args.draft.now c.args.calls.now c.in-Err.fault c.in-Err.is _ c.of_fetch.ensures
