use Rattle.std.proofs.Common.{◌≡◌, ◌∙◌, arith, length, sym}
use Rattle.std.specs.Prelude.{vec_capacity}
use Rattle.open_txn.proofs.Numbered.{is_cleared, none_left, one_less}
use Rattle.open_txn.proofs.touched.Touched.take.Goals as goal

pub returns-in_default : goal.returns-in_default
returns-in_default c =
    let none : length c.self.inside.numbers.items ≡ 0 = omega (arith, c.self.inside.numbers.ok.0, c.in_default.ensures.cases.0) in
    (c.self.view_is, sym c.self.view_is ∙ none_left c.self.inside.flags.items c.self.inside.numbers.items (vec_capacity c.self.inside.numbers) c.self.invariant none)

pub invariant_of-self-2 : goal.invariant_of-self-2
invariant_of-self-2 c =
    one_less c.self.inside.flags.items c.self.inside.numbers.items (vec_capacity c.self.inside.numbers) c.self.invariant c.pop.new.self.items c.in-Some.number c.in-Some.ensures.items _ c.from-bucket.result c.from-bucket.ensures c.pop.ensures.capacity

pub returns : goal.returns
returns c = is_cleared c.self.inside.flags.items c.self.inside.numbers.items (vec_capacity c.self.inside.numbers) c.self.invariant c.pop.new.self.items c.in-Some.number c.in-Some.ensures.items c.args.self.now c.from-bucket.result c.self.view_is c.from-bucket.ensures
