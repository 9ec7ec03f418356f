use Rattle.txn_runner.proofs.Txns.{lane_ended, ran}
use Rattle.txn_runner.proofs.runner.Runner.run_open.Goals as goal

pub end_group-requires-clause-shelf : goal.end_group-requires-clause-shelf
end_group-requires-clause-shelf g c κs within = c.attempt.ensures.0.0

pub end_group-requires-clause-no_job : goal.end_group-requires-clause-no_job
end_group-requires-clause-no_job g c κs within = c.attempt.ensures.0.1

pub returns-in-Ok : goal.returns-in-Ok
returns-in-Ok g c = ran _ _ c.requires.group c.args.txn.now c.requires.txn.lane _ _ _ _ c.requires.goes_on c.attempt.result c.attempt.ensures c.in-Ok.outcome c.in-Ok.is _ c.end_group.ensures

pub returns-in-Err : goal.returns-in-Err
returns-in-Err g c = lane_ended _ _ c.requires.group c.args.txn.now c.requires.txn.lane _ _ _ _ c.requires.goes_on c.attempt.result c.attempt.ensures c.in-Err.fault c.in-Err.is _ c.self.view_is _ c.end.ensures.set c.end.ensures.ends
