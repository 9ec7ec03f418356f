use Rattle.std.proofs.Common.{arith}
use Rattle.std.specs.Prelude.{vec_capacity}
use Rattle.open_txn.proofs.Numbered.{clear_at, has_room, one_more}
use Rattle.open_txn.proofs.touched.Touched.add.Goals as goal

pub push_reserved-requires : goal.push_reserved-requires
push_reserved-requires c =
    let clear = clear_at c.self.inside.flags.items c.args.bucket c.index.result.now _ c.requires c.self.invariant.all c.index.ensures c.if-index.false in
    let room = has_room c.self.inside.flags.items c.self.inside.numbers.items (vec_capacity c.self.inside.numbers) c.self.invariant c.args.bucket clear in
    omega (arith, room, c.self.inside.numbers.ok.0)

pub invariant_of-self : goal.invariant_of-self
invariant_of-self c =
    let clear = clear_at c.self.inside.flags.items c.args.bucket c.index.result.now _ c.requires c.self.invariant.all c.index.ensures c.if-index.false in
    one_more c.self.inside.flags.items c.self.inside.numbers.items (vec_capacity c.self.inside.numbers) c.self.invariant c.push_reserved.new.self.items _ c.args.bucket clear c.push_reserved.ensures.items c.push_reserved.ensures.capacity
