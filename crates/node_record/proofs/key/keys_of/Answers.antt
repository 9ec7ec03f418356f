-- Each key is that of the row that starts where the rows before it end.
use Rattle.std.proofs.Common.{arith}
use Rattle.node_record.proofs.KeysRead.{keyed_none, starts, key_some, key_within, keyed_more, keyed_all}
use Rattle.node_record.proofs.key.keys_of.Goals as goal

pub loop-at-init : goal.loop-at-init
loop-at-init c rows are = keyed_none rows c.args.bytes.now c.in_ok-keys.keys.items are c.in_ok-keys.ensures.items

pub front_at-key-requires : goal.front_at-key-requires
front_at-key-requires c = starts c.requires.rows.0 c.args.bytes.now c.loop-at.keys.items c.loop-at.at (c.loop-at.invariant c.requires.rows.0 c.requires.rows.1) c.loop-at-test.true

pub overflow_add-at : goal.overflow_add-at
overflow_add-at c =
    let within = key_within c.requires.rows.0 c.args.bytes.now c.loop-at.keys.items c.loop-at.at c.front_at-key.result (c.loop-at.invariant c.requires.rows.0 c.requires.rows.1) c.loop-at-test.true c.front_at-key.ensures.at c.front_at-key.ensures.key in
    omega (arith, within, c.requires.small)

pub loop-at-smaller : goal.loop-at-smaller
loop-at-smaller c =
    let some = key_some c.requires.rows.0 c.args.bytes.now c.loop-at.keys.items c.loop-at.at c.front_at-key.result (c.loop-at.invariant c.requires.rows.0 c.requires.rows.1) c.loop-at-test.true c.front_at-key.ensures.at c.front_at-key.ensures.key in
    omega (arith, some, c.loop-at-test.true)

pub loop-at-preserved : goal.loop-at-preserved
loop-at-preserved c rows are =
    keyed_more rows c.args.bytes.now c.loop-at.keys.items c.loop-at.at c.front_at-key.result (c.loop-at.invariant rows are) c.loop-at-test.true c.front_at-key.ensures.at c.front_at-key.ensures.key
    c.push.new.self.items c.in_ok-push.ensures.items

pub returns : goal.returns
returns c rows are = keyed_all rows c.args.bytes.now c.loop-at.keys.items c.loop-at.at (c.loop-at.invariant rows are) c.loop-at-test.false
