use Rattle.std.proofs.Common.{◌∙◌, ◌++◌, ap}
use Rattle.std.proofs.lemmas.Nat.{or_lt}
use Rattle.fine_model.specs.Boards.{set_of}
use Rattle.partition_hold.proofs.Sets.{inserted_all}
use Rattle.partition_hold.proofs.regions.RegionSet.insert_all.Goals as goal

pub returns : goal.returns
returns c = inserted_all c.self.inside.bits c.word_of.result c.args.regions.now c.word_of.ensures ∙ ap (λ xs. set_of (xs ++ c.args.regions.now)) c.self.view_is

pub invariant_of-self : goal.invariant_of-self
invariant_of-self c = or_lt 64 c.self.inside.bits c.word_of.result c.self.invariant c.word_of.type_inv
