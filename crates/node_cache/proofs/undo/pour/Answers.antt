use Rattle.std.proofs.Common.{◌≡◌, sym, ◌+◌, ◌-◌, ◌<◌, ◌≤◌, ◌++◌, [], ◌∷◌, length, ap, arith, length-append, ◌∙◌}
use Rattle.node_cache.proofs.Poured.{poured_one, last_one}
use Rattle.node_cache.proofs.undo.pour.Goals as goal

pub loop-pairs-preserved : goal.loop-pairs-preserved
loop-pairs-preserved c =
    let ps = c.loop-pairs.pairs in
    let last = c.len-last.result - 1 in
    let more : 0 < length ps = omega (arith, c.loop-pairs-test.true, c.len.ensures) in
    let place : last ≡ length ps - 1 = ap (λ n. n - 1) c.len-last.ensures in
    let is : ps ≡ c.remove-pair.new.self ++ c.remove-pair.result ∷ [] =
    last_one ps last c.remove-pair.result more place c.remove-pair.ensures.stood ∙ ap (λ qs. qs ++ c.remove-pair.result ∷ []) (sym c.remove-pair.ensures.items) in
    let fewer : length ps ≡ length c.remove-pair.new.self + 1 = omega (arith, ap length is, length-append c.remove-pair.new.self (c.remove-pair.result ∷ [])) in
    let low : c.args.from ≤ length c.remove-pair.new.self = omega (arith, fewer, c.loop-pairs-test.true, c.len.ensures) in (
      poured_one c.args.from c.args.pairs.now ps c.remove-pair.new.self c.args.room.now.items c.loop-pairs.room.items c.push_reserved.new.self.items c.remove-pair.result c.loop-pairs.invariant.0 low is c.push_reserved.ensures.items,
      omega (arith, fewer, low, c.push_reserved.ensures.len, c.push_reserved.ensures.capacity, c.loop-pairs.invariant.1),
      c.push_reserved.ensures.capacity ∙ c.loop-pairs.invariant.2,
    )
