use Rattle.std.proofs.Common.{drop, arith}
use Rattle.std.proofs.lemmas.Result.{err_from_is_err_and}
use Rattle.node_record.specs.Reading.{items_at}
use Rattle.node_record.proofs.Loop.{goes_on, ends, is_done}
use Rattle.node_record.proofs.items.items.Goals as goal

pub returns-in_err-item : goal.returns-in_err-item
returns-in_err-item g c =
    let p = err_from_is_err_and c.from_residual-in_err-item.result c.from_residual-in_err-item.ensures.1 in
    rw (p.1, p.2)
    (ends g.T.Field.reads c.args.start c.in_err-item.field-0.0 c.loop.items.items c.args.count c.loop.counter (drop c.loop.end c.args.bytes.now) (items_at g.T.Field.reads c.args.count (drop c.args.at c.args.bytes.now)) c.loop-test.true c.in_err-item.ensures c.loop.invariant.so_far)

pub loop-preserved : goal.loop-preserved
loop-preserved g c = record {
  within = c.in_ok-item.ensures.0;
  room = omega (arith, c.push_reserved.ensures.len, c.push_reserved.ensures.capacity, c.loop.invariant.room, c.loop-test.true);
  so_far = rw c.push_reserved.ensures.items (goes_on g.T.Field.reads c.loop.items.items c.args.count c.loop.counter (drop c.loop.end c.args.bytes.now) c.in_ok-item.item (drop c.in_ok-item.after c.args.bytes.now) (items_at g.T.Field.reads c.args.count (drop c.args.at c.args.bytes.now)) c.loop-test.true c.in_ok-item.ensures.1 c.loop.invariant.so_far);
}

pub returns : goal.returns
returns g c = (c.loop.invariant.within, rw c.from_vec.ensures (is_done g.T.Field.reads c.loop.items.items c.args.count c.loop.counter (drop c.loop.end c.args.bytes.now) (items_at g.T.Field.reads c.args.count (drop c.args.at c.args.bytes.now)) c.loop-test.false c.loop.invariant.so_far))
