use Rattle.std.proofs.Common.{◌∙◌, ap, slice_get, None, Some}
use Rattle.fine_hall.specs.Halls.{begun}
use Rattle.key_locks.proofs.Held.{near, lacks_place, one_taken, get_same, get_else, stand_still}
use Rattle.key_locks.proofs.Gathered.{gathers_one, stand_taken}
use Rattle.key_locks.proofs.LockSet.take.Goals as goal

pub take_bucket-requires-clause-free : goal.take_bucket-requires-clause-free
take_bucket-requires-clause-free g c κs within = (near c.args.bucket c.requires.bucket, lacks_place c.args.self.now c.args.pass.now c.args.bucket c.requires.bucket c.requires.pass.1 c.if-is_held.ensures)

pub returns-clause-pass : goal.returns-clause-pass
returns-clause-pass g c = let p = c.in_ok-content.ensures.pass in
    (p.0, p.1, one_taken c.args.self.now c.keep.new.self c.args.pass.now c.take_bucket.new.pass c.args.bucket c.in_ok-content.content c.keep.ensures c.requires.bucket c.requires.pass.1 c.if-is_held.ensures c.in_ok-content.ensures.takes)

pub returns-clause-gathers : goal.returns-clause-gathers
returns-clause-gathers g c = gathers_one g.B.BucketLaw.bucket g.B.BucketLaw.cached g.B.BucketLaw.is_settled (begun g.R.RoomLaw.state g.R.RoomLaw.origin g.V.ViewLaw.state c.args.hall.now) c.args.self.now c.keep.new.self c.args.pass.now c.take_bucket.new.pass c.args.bucket c.in_ok-content.content c.requires.bucket c.if-is_held.ensures c.keep.ensures c.in_ok-content.ensures.takes c.in_ok-content.ensures.content

pub returns-clause-there : goal.returns-clause-there
returns-clause-there g c = (c.in_ok-content.content, ap (λ l. slice_get l c.args.bucket) c.keep.ensures ∙ get_same c.args.self.now c.args.bucket None (Some c.in_ok-content.content) c.if-is_held.ensures)

pub returns-clause-others : goal.returns-clause-others
returns-clause-others g c = λ k other. ap (λ l. slice_get l k) c.keep.ensures ∙ get_else c.args.self.now c.args.bucket k (Some c.in_ok-content.content) other

pub returns-clause-stands : goal.returns-clause-stands
returns-clause-stands g c =
    stand_taken g.B.BucketLaw.bucket g.B.BucketLaw.cached g.B.BucketLaw.is_settled (begun g.R.RoomLaw.state g.R.RoomLaw.origin g.V.ViewLaw.state c.args.hall.now) c.args.self.now c.keep.new.self c.args.pass.now c.take_bucket.new.pass c.args.bucket c.in_ok-content.content c.if-is_held.ensures c.requires.pass.1 c.keep.ensures c.in_ok-content.ensures.takes
    c.in_ok-content.ensures.content

pub returns-in_err-content-clause-stands : goal.returns-in_err-content-clause-stands
returns-in_err-content-clause-stands g c = stand_still g.B.BucketLaw.bucket g.B.BucketLaw.cached g.B.BucketLaw.is_settled (begun g.R.RoomLaw.state g.R.RoomLaw.origin g.V.ViewLaw.state c.args.hall.now) c.args.self.now c.args.pass.now c.take_bucket.new.pass c.in_err-content.ensures.conflict.1.places
