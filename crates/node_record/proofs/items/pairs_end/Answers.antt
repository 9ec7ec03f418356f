use Rattle.std.proofs.Common.{◌≡◌, [], drop, ap, arith, rules, true, false, None, ℕ}
use Rattle.fine_model.specs.Map.{is_below}
use Rattle.node_record.proofs.Passing.{behind_pairs, pairs_go_on, pairs_fail, pairs_fall, pairs_done}
use Rattle.node_record.proofs.items.pairs_end.Goals as goal

pub loop-init : goal.loop-init
loop-init c = record {
  within = c.requires;
  so_far = ap (λ (n : ℕ). behind_pairs [] n (drop c.args.at c.args.bytes.now)) (omega arith);
}

pub returns-in_err-key : goal.returns-in_err-key
returns-in_err-key c =
    let bytes = c.args.bytes.now in
    let none : behind_pairs [] c.args.count (drop c.args.at bytes) ≡ None = pairs_fail c.loop.before.now c.args.count c.loop.counter (drop c.loop.end bytes) (behind_pairs [] c.args.count (drop c.args.at bytes)) c.loop.invariant.so_far c.loop-test.true c.in_err-key.ensures.1 in
    search rules

pub returns-in_err-sure : goal.returns-in_err-sure
returns-in_err-sure c =
    let bytes = c.args.bytes.now in
    let below : is_below c.loop.before.now c.in_ok-key.key.now ≡ false = search rules in
    let none : behind_pairs [] c.args.count (drop c.args.at bytes) ≡ None = pairs_fall c.loop.before.now c.args.count c.loop.counter (drop c.loop.end bytes) (behind_pairs [] c.args.count (drop c.args.at bytes)) c.loop.invariant.so_far
    (c.in_ok-key.key.now, c.in_ok-key.field-0-0-1.now) (drop c.in_ok-key.after bytes) c.loop-test.true c.in_ok-key.ensures.1 below in
    search rules

pub loop-preserved : goal.loop-preserved
loop-preserved c =
    let bytes = c.args.bytes.now in
    let below : is_below c.loop.before.now c.in_ok-key.key.now ≡ true = search rules in
    record {
      within = c.in_ok-key.ensures.0;
      so_far = pairs_go_on c.loop.before.now c.args.count c.loop.counter (drop c.loop.end bytes) (behind_pairs [] c.args.count (drop c.args.at bytes)) c.loop.invariant.so_far
          (c.in_ok-key.key.now, c.in_ok-key.field-0-0-1.now) (drop c.in_ok-key.after bytes) c.loop-test.true c.in_ok-key.ensures.1 below;
    }

pub returns : goal.returns
returns c =
    let bytes = c.args.bytes.now in
    (c.loop.invariant.within, pairs_done c.loop.before.now c.args.count c.loop.counter (drop c.loop.end bytes) (behind_pairs [] c.args.count (drop c.args.at bytes)) c.loop.invariant.so_far c.loop-test.false)
