use Rattle.std.proofs.Common.{◌∙◌, sym, ap, drop, arith}
use Rattle.std.specs.Int.{w64, from_be_bytes}
use Rattle.node_record.proofs.FirstBytes.{decided, eight_decide}
use Rattle.node_record.proofs.places.is_below.Goals as goal

pub returns-then-first_a-first_b : goal.returns-then-first_a-first_b
returns-then-first_a-first_b c =
    let first = eight_decide c.from_be_bytes-first_a.result c.from_be_bytes-first_b.result c.args.a.now c.args.b.now (c.from_be_bytes-first_a.ensures ∙ ap (from_be_bytes w64) c.part.ensures) (c.from_be_bytes-first_b.ensures ∙ ap (from_be_bytes w64) c.part-2.ensures)
    (λ i. omega (arith, c.type_inv.a i)) (λ i. omega (arith, c.type_inv.b i)) (omega (arith, c.if-a-lt-IN_NUMBERS.false)) (omega (arith, c.if-b-lt-IN_NUMBERS.false)) in
    decided c.from_be_bytes-first_a.result c.from_be_bytes-first_b.result c.args.a.now c.args.b.now (drop 8 c.args.a.now) (drop 8 c.args.b.now) first c.if-first_a-first_b.true

pub returns : goal.returns
returns c =
    let first = eight_decide c.from_be_bytes-first_a.result c.from_be_bytes-first_b.result c.args.a.now c.args.b.now (c.from_be_bytes-first_a.ensures ∙ ap (from_be_bytes w64) c.part.ensures) (c.from_be_bytes-first_b.ensures ∙ ap (from_be_bytes w64) c.part-2.ensures)
    (λ i. omega (arith, c.type_inv.a i)) (λ i. omega (arith, c.type_inv.b i)) (omega (arith, c.if-a-lt-IN_NUMBERS.false)) (omega (arith, c.if-b-lt-IN_NUMBERS.false)) in
    c.is_below_from_next.ensures ∙ sym (first.equal c.if-first_a-first_b.false)
