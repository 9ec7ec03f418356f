use Rattle.std.proofs.Common.{◌≡◌, ◌*◌, ◌∙◌, sym, ap, subst, length, take, get_or, refl, arith, inr}
use Rattle.std.proofs.lemmas.Bool.{true≢false}
use Rattle.partition_index.specs.Entries.{bytes_of}
use Rattle.fine_model.specs.Regions.{index_area, index_bytes}
use Rattle.log_partition.proofs.Indexed.{no_entry, other_entry, good_entry, no_node_left, node_left, whole_index, some_named}
use Rattle.log_partition.proofs.body.test_index.Goals as goal

pub returns-then-not-stands_at-clause-err : goal.returns-then-not-stands_at-clause-err
returns-then-not-stands_at-clause-err c =
    let many = ap length c.requires.entries in
    inr (other_entry c.args.header.now c.args.body.now c.args.rows.now c.requires.long c.loop-i.i no_entry c.requires.rows (omega (arith, many, c.min-both.ensures)) (omega (arith, c.min-both.ensures)) c.loop-i.invariant
    (λ same. true≢false (sym (c.stands_at.ensures.1 (same ∙ sym (ap (λ es. bytes_of (get_or es c.loop-i.i no_entry)) c.requires.entries))) ∙ c.if-not-stands_at.true)))

pub loop-i-preserved : goal.loop-i-preserved
loop-i-preserved c =
    let many = ap length c.requires.entries in
    good_entry c.args.header.now c.args.body.now c.args.rows.now c.requires.long c.loop-i.i no_entry (omega (arith, many, c.min-both.ensures)) c.loop-i.invariant
    (c.stands_at.ensures.0 c.if-not-stands_at.false ∙ ap (λ es. bytes_of (get_or es c.loop-i.i no_entry)) c.requires.entries)

pub returns-then-both-nodes-clause-err : goal.returns-then-both-nodes-clause-err
returns-then-both-nodes-clause-err c =
    inr (no_node_left c.args.header.now c.args.body.now c.args.rows.now c.requires.long c.min-both.result c.requires.rows (omega (arith, ap length c.requires.entries, c.min-both.ensures)) c.if-both-nodes.true
    (subst (λ i. take (14 * i) (index_area c.args.header.now c.args.body.now) ≡ take (14 * i) (index_bytes c.args.rows.now)) (let e : c.loop-i.i ≡ c.min-both.result = omega arith in e) c.loop-i.invariant))

pub overflow_sub-at : goal.overflow_sub-at
overflow_sub-at c =
    some_named c.args.header.now c.args.body.now c.args.rows.now c.requires.rows c.requires.some (omega (arith, ap length c.requires.entries, c.min-both.ensures))

pub returns-then-both-entries-clause-err : goal.returns-then-both-entries-clause-err
returns-then-both-entries-clause-err c =
    let some = some_named c.args.header.now c.args.body.now c.args.rows.now c.requires.rows c.requires.some (omega (arith, ap length c.requires.entries, c.min-both.ensures)) in
    let all : c.loop-i.i ≡ c.args.header.now.nodes = omega (arith, c.min-both.ensures) in
    inr (node_left c.args.header.now c.args.body.now c.args.rows.now c.requires.long c.args.header.now.nodes c.requires.rows refl some (omega (arith, ap length c.requires.entries, c.min-both.ensures))
    (subst (λ i. take (14 * i) (index_area c.args.header.now c.args.body.now) ≡ take (14 * i) (index_bytes c.args.rows.now)) all c.loop-i.invariant))

pub returns-clause-ok : goal.returns-clause-ok
returns-clause-ok c =
    whole_index c.args.header.now c.args.body.now c.args.rows.now c.requires.long c.loop-i.i (omega (arith, c.min-both.ensures)) (omega (arith, ap length c.requires.entries, c.min-both.ensures)) c.loop-i.invariant
