use Rattle.std.proofs.Common.{◌≡◌}
use Rattle.fine_hall.specs.Halls.{IsPassOf, begun}
use Rattle.key_locks.specs.Locks.{AreLocksOf, AllStand, Releases}
use Rattle.key_locks.specs.Slots.{number_filled}
use Rattle.key_locks.proofs.LockSet.release_all.Given as goal

abbrev pub invariant-loop : goal.invariant-loop
invariant-loop g l = record {
  pass : IsPassOf g.R.RoomLaw.state g.R.RoomLaw.origin g.V.ViewLaw.state l.hall l.pass × (l.pass.number ≡ l.initial.pass.number) × AreLocksOf l.self l.pass;
  stands : AllStand g.B.BucketLaw.bucket g.B.BucketLaw.cached g.B.BucketLaw.is_settled (begun g.R.RoomLaw.state g.R.RoomLaw.origin g.V.ViewLaw.state l.hall).log l.self l.pass;
  releases : Releases l.initial.self l.self l.initial.pass l.pass;
}

abbrev pub decreases-loop : goal.decreases-loop
decreases-loop g l = number_filled l.self
