use Rattle.std.proofs.Common.{◌∙◌, ◌∷◌, [], ◌++◌, ap, arith}
use Rattle.std.proofs.lemmas.Nat.{or_lt, one_shl, pow_below}
use Rattle.fine_model.specs.Boards.{set_of}
use Rattle.partition_hold.proofs.Sets.{inserted}
use Rattle.partition_hold.proofs.regions.RegionSet.insert.Goals as goal

pub returns : goal.returns
returns c = inserted c.self.inside.bits c.args.region c.requires ∙ ap (λ xs. set_of (xs ++ c.args.region ∷ [])) c.self.view_is

pub invariant_of-self : goal.invariant_of-self
invariant_of-self c = or_lt 64 c.self.inside.bits _ c.self.invariant (omega (arith, one_shl c.args.region 64 c.requires, pow_below c.args.region 64 c.requires))
