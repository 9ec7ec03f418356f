use Rattle.std.proofs.Common.{◌≡◌, ◌-◌, length, drop, take, arith, min}
use Rattle.script_text.proofs.Told.{takes_first}
use Rattle.script_text.proofs.memory.MemSourceSource.take.Goals as goal

pub returns-clause-ok : goal.returns-clause-ok
returns-clause-ok c =
    let items = c.self.inside.bytes.items in
    let at = c.self.inside.at in
    let n = c.min-n.result in
    let small : n ≡ min (length items - at) (length c.args.out.now) = grind arith in
    let same : c.copy_from_slice.new.self ≡ take n (drop at items) = grind arith in
    rw (← c.self.view_is) (takes_first items c.args.out.now c.copy_from_slice.new.self at n small same)
