-- Each bucket in turn, up to one that is held.
use Rattle.std.proofs.Common.{◌∙◌, ◌<◌, arith}
use Rattle.std.proofs.lemmas.Result.{err_from_is_err_and}
use Rattle.fine_hall.specs.Halls.{begun}
use Rattle.key_locks.proofs.Gathered.{one_more, stops}
use Rattle.key_locks.proofs.LockSet.want_all.Goals as goal

pub loop-bucket-preserved : goal.loop-bucket-preserved
loop-bucket-preserved g c =
    let p = c.in_ok-take.ensures.pass in
    record {
      pass = (p.0, p.1 ∙ c.loop-bucket.invariant.pass.1, p.2);
      so_far = one_more g.B.BucketLaw.bucket g.B.BucketLaw.cached g.B.BucketLaw.is_settled (begun g.R.RoomLaw.state g.R.RoomLaw.origin g.V.ViewLaw.state c.args.hall.now) c.loop-bucket.bucket c.args.self.now c.loop-bucket.self c.take.new.self c.args.pass.now c.loop-bucket.pass c.take.new.pass c.requires.pass.1 c.loop-bucket.invariant.pass.2 c.loop-bucket.invariant.pass.1 c.loop-bucket.invariant.so_far c.in_ok-take.ensures.gathers c.in_ok-take.ensures.there c.in_ok-take.ensures.others;
      stands = λ h. c.in_ok-take.ensures.stands (c.loop-bucket.invariant.stands h);
    }

pub returns-in_err-take-clause-conflict : goal.returns-in_err-take-clause-conflict
returns-in_err-take-clause-conflict g c =
    let p = err_from_is_err_and c.from_residual.result c.from_residual.ensures.1 in
    let found = c.in_err-take.ensures.conflict in
    let low : c.loop-bucket.bucket < 256 = omega (arith, c.loop-bucket-test.true) in
    rw (p.1, p.2)
    (stops g.B.BucketLaw.bucket g.B.BucketLaw.cached g.B.BucketLaw.is_settled (begun g.R.RoomLaw.state g.R.RoomLaw.origin g.V.ViewLaw.state c.args.hall.now) c.loop-bucket.bucket c.in_err-take.field-0.0.bucket c.in_err-take.field-0.0.owner c.args.self.now c.loop-bucket.self c.take.new.self c.args.pass.now c.loop-bucket.pass c.take.new.pass low c.loop-bucket.invariant.pass.1 c.loop-bucket.invariant.so_far c.in_err-take.ensures.same
    found.0 found.1 found.2)

pub returns-in_err-take-clause-stands : goal.returns-in_err-take-clause-stands
returns-in_err-take-clause-stands g c = λ h. c.in_err-take.ensures.stands (c.loop-bucket.invariant.stands h)
