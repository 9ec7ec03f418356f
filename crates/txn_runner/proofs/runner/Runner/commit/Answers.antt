use Rattle.txn_runner.proofs.Calls.{commits, fails_it, fits, refuses_it}
use Rattle.txn_runner.proofs.runner.Runner.commit.Goals as goal

pub append-requires-clause-fits : goal.append-requires-clause-fits
append-requires-clause-fits g c κs within = fits _ _ c.cost.result c.args.draft c.cost.ensures c.make_place.result c.make_place.ensures c.args.buckets.now c.in-Ok.refusal c.in-Ok.is c.in-None.is

pub returns-in-None : goal.returns-in-None
returns-in-None g c = commits _ _ c.cost.result c.args.draft c.cost.ensures c.make_place.result c.make_place.ensures c.args.buckets.now c.in-Ok.refusal c.in-Ok.is c.in-None.is _ _ c.append.result c.append.ensures

pub returns-in-Some : goal.returns-in-Some
returns-in-Some g c = refuses_it _ _ c.cost.result c.args.draft c.cost.ensures c.make_place.result c.make_place.ensures c.args.buckets.now c.requires.places _ c.take_back.ensures c.in-Ok.refusal c.in-Ok.is c.in-Some.why c.in-Some.is

pub returns-in-Err : goal.returns-in-Err
returns-in-Err g c = fails_it _ _ c.cost.result c.args.draft c.cost.ensures c.make_place.result c.make_place.ensures c.args.buckets.now c.requires.places _ c.take_back-in-Err.ensures c.in-Err.fault c.in-Err.is
