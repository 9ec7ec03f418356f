use Rattle.std.proofs.Common.{◌≡◌, refl, sym, subst}
use Rattle.fine_hall.specs.Halls.{IsPassOf, begun}
use Rattle.key_locks.specs.Locks.{LacksLock, AreLocksOf, AllStand, Releases}
use Rattle.key_locks.proofs.Held.{near, has_place, one_given, others_stand, releases_one, releases_none}
use Rattle.key_locks.proofs.LockSet.release_one.Goals as goal

pub give_bucket-requires-clause-held : goal.give_bucket-requires-clause-held
give_bucket-requires-clause-held g c κs within = let e = c.in-Some.ensures in (near c.in-Some.bucket e.within, has_place c.args.self.now c.args.pass.now c.in-Some.bucket c.in-Some.content e.within c.requires.pass.1 e.was)

pub give_bucket-requires-clause-stands : goal.give_bucket-requires-clause-stands
give_bucket-requires-clause-stands g c κs within = let e = c.in-Some.ensures in c.requires.stands c.in-Some.bucket c.in-Some.content e.within e.was

pub returns : goal.returns
returns g c =
    let p = c.give_bucket.ensures.pass in
    let e = c.in-Some.ensures in
    record {
      pass = (p.0, p.1, one_given c.args.self.now c.take_one.new.self c.args.pass.now c.give_bucket.new.pass c.in-Some.bucket c.in-Some.content e.gone e.within c.requires.pass.1 e.was c.give_bucket.ensures.gives);
      stands = others_stand g.B.BucketLaw.bucket g.B.BucketLaw.cached g.B.BucketLaw.is_settled (begun g.R.RoomLaw.state g.R.RoomLaw.origin g.V.ViewLaw.state c.args.hall.now) c.args.self.now c.take_one.new.self c.args.pass.now c.give_bucket.new.pass c.in-Some.bucket c.in-Some.content e.gone e.was c.give_bucket.ensures.gives c.requires.stands;
      releases = releases_one c.args.self.now c.take_one.new.self c.args.pass.now c.give_bucket.new.pass c.in-Some.bucket c.in-Some.content e.within e.gone e.was c.give_bucket.ensures.gives;
      fewer = e.fewer;
    }

pub returns-in_default : goal.returns-in_default
returns-in_default g c =
    let same = sym c.in_default.ensures.1 in
    record {
      pass = subst (λ l. IsPassOf g.R.RoomLaw.state g.R.RoomLaw.origin g.V.ViewLaw.state c.args.hall.now c.args.pass.now × (c.args.pass.now.number ≡ c.args.pass.now.number) × AreLocksOf l c.args.pass.now) same (c.requires.pass.0, refl, c.requires.pass.1);
      stands = subst (λ l. AllStand g.B.BucketLaw.bucket g.B.BucketLaw.cached g.B.BucketLaw.is_settled (begun g.R.RoomLaw.state g.R.RoomLaw.origin g.V.ViewLaw.state c.args.hall.now).log l c.args.pass.now) same c.requires.stands;
      releases = subst (λ l. Releases c.args.self.now l c.args.pass.now c.args.pass.now) same (releases_none c.args.self.now c.args.pass.now);
      fewer = λ k low. subst (λ l. LacksLock l k) same (c.in_default.ensures.0 k low);
    }
