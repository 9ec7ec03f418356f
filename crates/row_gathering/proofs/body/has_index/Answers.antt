-- Entry by entry the index is tested, as it follows from the keys so far.
use Rattle.std.proofs.Common.{◌≡◌, ◌≢◌, ℕ, ◌+◌, ◌<◌, List, length, take, refl, arith, eqb-true, slice_index_or}
use Rattle.std.proofs.lemmas.Bool.{eqb-false}
use Rattle.fine_model.specs.declared.Row.{Row}
use Rattle.log_partition.proofs.Keyed.{no_key}
use Rattle.row_gathering.proofs.Entries.{counts, fewer_nodes, index_is, indexed_more, indexed_none, last_not, not_indexed, offset_small, rows_all}
use Rattle.row_gathering.proofs.body.has_index.Goals as goal

pub loop-key-init : goal.loop-key-init
loop-key-init c start rows are is = indexed_none c.args.header.now c.args.body.now rows c.requires.long are

pub returns-in_default-clause-bad : goal.returns-in_default-clause-bad
returns-in_default-clause-bad c _ some =
    let start : ℕ = c.requires.rows.0 in
    let rows : List Row = c.requires.rows.1 in
    let s = c.loop-key.invariant start rows c.requires.rows.2 c.requires.rows.3 in
    let here : c.loop-key.key-index < length c.args.keys.now = omega arith in
    not_indexed c.args.header.now c.args.body.now rows c.requires.long c.requires.rows.2 start c.args.keys.now c.loop-key.key-index c.loop-key.count c.loop-key.last c.loop-key.offset c.requires.rows.3 here s
    c.ended.result (c.ended.ensures s.whole c.loop-key.offset) c.in_default.ensures some

pub entry_with-requires : goal.entry_with-requires
entry_with-requires c =
    let r = c.requires.rows in
    counts c.args.header.now c.args.body.now r.1 c.requires.long r.2 r.0 c.args.keys.now c.loop-key.key-index c.loop-key.count c.loop-key.last c.loop-key.offset r.3 (omega arith) (c.loop-key.invariant r.0 r.1 r.2 r.3)
    (omega (arith, c.requires.small, r.2.area))

pub overflow_add-offset : goal.overflow_add-offset
overflow_add-offset c =
    let r = c.requires.rows in
    let within = offset_small c.args.header.now c.args.body.now r.1 c.requires.long r.2 r.0 c.args.keys.now c.loop-key.key-index c.loop-key.count c.loop-key.last c.loop-key.offset r.3 (omega arith) (c.loop-key.invariant r.0 r.1 r.2 r.3) in
    omega (arith, within, c.requires.small, r.2.area)

pub loop-key-preserved : goal.loop-key-preserved
loop-key-preserved c start rows are is =
    let s = c.loop-key.invariant start rows are is in
    let here : c.loop-key.key-index < length c.args.keys.now = omega arith in
    indexed_more c.args.header.now c.args.body.now rows c.requires.long are start c.args.keys.now c.loop-key.key-index c.loop-key.count c.loop-key.last c.loop-key.offset is here s
    c.ended.result c.in-Some.next c.entry_with.result (c.loop-key.offset + (slice_index_or c.args.keys.now c.loop-key.key-index no_key).len) (c.ended.ensures s.whole c.loop-key.offset) c.in-Some.ensures (c.entry_with.ensures s.whole) refl

pub returns-in-Some-pass-clause-good : goal.returns-in-Some-pass-clause-good
returns-in-Some-pass-clause-good c end start rows are is =
    let s = c.loop-key.invariant start rows are is in
    let all : take c.loop-key.key-index rows ≡ rows = rows_all start rows c.args.keys.now c.loop-key.key-index is (omega arith) in
    index_is c.args.header.now c.args.body.now rows c.requires.long are c.loop-key.count c.loop-key.key-index c.loop-key.last c.loop-key.offset s all
    c.in-Some-pass.all c.in-Some-pass.ensures (eqb-true c.in-Some-pass.all c.args.header.now.nodes end)

pub returns-in-Some-pass-clause-bad : goal.returns-in-Some-pass-clause-bad
returns-in-Some-pass-clause-bad c other some =
    let start : ℕ = c.requires.rows.0 in
    let rows : List Row = c.requires.rows.1 in
    let s = c.loop-key.invariant start rows c.requires.rows.2 c.requires.rows.3 in
    let all : take c.loop-key.key-index rows ≡ rows = rows_all start rows c.args.keys.now c.loop-key.key-index c.requires.rows.3 (omega arith) in
    let differ : c.in-Some-pass.all ≢ c.args.header.now.nodes = eqb-false c.in-Some-pass.all c.args.header.now.nodes other in
    fewer_nodes c.args.header.now c.args.body.now rows c.requires.long c.requires.rows.2 c.loop-key.count c.loop-key.key-index c.loop-key.last c.loop-key.offset s all c.in-Some-pass.all c.in-Some-pass.ensures differ

pub returns-in-None-clause-bad : goal.returns-in-None-clause-bad
returns-in-None-clause-bad c _ some =
    let start : ℕ = c.requires.rows.0 in
    let rows : List Row = c.requires.rows.1 in
    let s = c.loop-key.invariant start rows c.requires.rows.2 c.requires.rows.3 in
    let all : take c.loop-key.key-index rows ≡ rows = rows_all start rows c.args.keys.now c.loop-key.key-index c.requires.rows.3 (omega arith) in
    last_not c.args.header.now c.args.body.now rows c.requires.long c.requires.rows.2 c.loop-key.count c.loop-key.key-index c.loop-key.last c.loop-key.offset s all c.in-None.ensures some
