-- The first part that has something wrong is told.
use Rattle.fine_model.specs.Chain.{bad_continuation, apart}
use Rattle.reopen.proofs.Taking.{tells_first}
use Rattle.reopen.proofs.chain.check_apart.Goals as goal

pub returns-in-Some-clause-err : goal.returns-in-Some-clause-err
unfolding apart
returns-in-Some-clause-err c =
    tells_first (bad_continuation c.args.parts.now) c.args.parts.now c.args.parts.now c.loop-part.part-index _ c.in-Some.fault c.in-Some.ensures.damage c.loop-part-test.true c.in-Some.ensures.is c.loop-part.invariant
