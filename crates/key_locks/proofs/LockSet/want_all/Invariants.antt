-- The buckets below this one are in the set.
use Rattle.std.proofs.Common.{◌≡◌}
use Rattle.fine_hall.specs.Halls.{IsPassOf, begun}
use Rattle.key_locks.specs.Locks.{AreLocksOf, AllStand}
use Rattle.key_locks.proofs.Gathered.{SoFar}
use Rattle.key_locks.proofs.LockSet.want_all.Given as goal

abbrev pub invariant-loop-bucket : goal.invariant-loop-bucket
invariant-loop-bucket g l = record {
  pass : IsPassOf g.R.RoomLaw.state g.R.RoomLaw.origin g.V.ViewLaw.state l.hall l.pass × (l.pass.number ≡ l.initial.pass.number) × AreLocksOf l.self l.pass;
  so_far : SoFar g.B.BucketLaw.bucket g.B.BucketLaw.cached g.B.BucketLaw.is_settled (begun g.R.RoomLaw.state g.R.RoomLaw.origin g.V.ViewLaw.state l.hall) l.bucket l.initial.self l.self l.initial.pass l.pass;
  stands : AllStand g.B.BucketLaw.bucket g.B.BucketLaw.cached g.B.BucketLaw.is_settled (begun g.R.RoomLaw.state g.R.RoomLaw.origin g.V.ViewLaw.state l.hall).log l.initial.self l.initial.pass → AllStand g.B.BucketLaw.bucket g.B.BucketLaw.cached g.B.BucketLaw.is_settled (begun g.R.RoomLaw.state g.R.RoomLaw.origin g.V.ViewLaw.state l.hall).log l.self l.pass;
}
