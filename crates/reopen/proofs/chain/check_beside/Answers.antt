-- The first part that has something wrong is told.
use Rattle.fine_model.specs.Chain.{fault_beside}
use Rattle.reopen.proofs.Taking.{tells_first}
use Rattle.reopen.proofs.chain.check_beside.Goals as goal

pub returns-in-Some-clause-err : goal.returns-in-Some-clause-err
returns-in-Some-clause-err c =
    tells_first (fault_beside c.args.chain.now) c.args.sealed.now c.args.chain.now c.loop-part.part-index _ c.in-Some.fault c.in-Some.ensures.damage c.loop-part-test.true c.in-Some.ensures.is c.loop-part.invariant
