use Rattle.txn_runner.proofs.Txns.{aborts, commits, fails, held, is_open, places, refuses, rows}
use Rattle.txn_runner.proofs.runner.Runner.attempt.Goals as goal

pub commit-requires-clause-shelf : goal.commit-requires-clause-shelf
commit-requires-clause-shelf g c κs within = (held _ _ _ _ c.answer.new.draft c.args.txn.now c.args.turn c.as_slice-calls.result.now c.as_slice-calls.ensures c.answer.result c.answer.ensures.answers c.requires.no_job c.in-Ok.refusal c.in-Ok.is c.in-None.is).0

pub commit-requires-clause-no_job : goal.commit-requires-clause-no_job
commit-requires-clause-no_job g c κs within = (held _ _ _ _ c.answer.new.draft c.args.txn.now c.args.turn c.as_slice-calls.result.now c.as_slice-calls.ensures c.answer.result c.answer.ensures.answers c.requires.no_job c.in-Ok.refusal c.in-Ok.is c.in-None.is).1

pub commit-requires-clause-places : goal.commit-requires-clause-places
commit-requires-clause-places g c κs within = places _ _ _ _ c.answer.new.draft c.args.txn.now c.args.turn c.as_slice-calls.result.now c.as_slice-calls.ensures c.answer.result c.answer.ensures.answers c.requires.no_job c.in-Ok.refusal c.in-Ok.is c.in-None.is c.requires.places

pub commit-requires-clause-rows : goal.commit-requires-clause-rows
commit-requires-clause-rows g c κs within = rows _ _ _ _ c.answer.new.draft c.args.txn.now c.args.turn c.as_slice-calls.result.now c.as_slice-calls.ensures c.answer.result c.answer.ensures.answers c.requires.no_job c.in-Ok.refusal c.in-Ok.is c.in-None.is

pub commit-requires-clause-open : goal.commit-requires-clause-open
commit-requires-clause-open g c κs within = is_open _ _ _ _ c.answer.new.draft c.args.txn.now c.args.turn c.as_slice-calls.result.now c.as_slice-calls.ensures c.answer.result c.answer.ensures.answers c.requires.no_job c.in-Ok.refusal c.in-Ok.is c.in-None.is

pub returns-in-Commit : goal.returns-in-Commit
returns-in-Commit g c = commits _ _ _ _ c.answer.new.draft c.args.txn.now c.args.turn c.as_slice-calls.result.now c.as_slice-calls.ensures c.answer.result c.answer.ensures.answers c.requires.no_job c.in-Ok.refusal c.in-Ok.is c.in-None.is c.for_calls-draft.result c.answer.ensures.place c.for_calls-draft.ensures c.in-Commit.is _ _ c.commit.result c.commit.ensures

pub returns-in-Abort : goal.returns-in-Abort
returns-in-Abort g c = aborts _ _ _ _ c.answer.new.draft c.args.txn.now c.args.turn c.as_slice-calls.result.now c.as_slice-calls.ensures c.answer.result c.answer.ensures.answers c.requires.no_job c.in-Ok.refusal c.in-Ok.is c.in-None.is c.in-Abort.is _ c.take_back.ensures

pub returns-in-Some : goal.returns-in-Some
returns-in-Some g c = refuses _ _ _ _ c.answer.new.draft c.args.txn.now c.args.turn c.as_slice-calls.result.now c.as_slice-calls.ensures c.answer.result c.answer.ensures.answers c.requires.no_job c.in-Ok.refusal c.in-Ok.is c.in-Some.why c.in-Some.is _ c.refused.ensures

pub returns-in-Err : goal.returns-in-Err
returns-in-Err g c = fails _ _ _ _ c.answer.new.draft c.args.txn.now c.args.turn c.as_slice-calls.result.now c.as_slice-calls.ensures c.answer.result c.answer.ensures.answers c.requires.no_job c.in-Err.fault c.in-Err.is
