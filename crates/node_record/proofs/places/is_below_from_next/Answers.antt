use Rattle.std.proofs.Common.{◌∙◌, sym, ap, drop, arith}
use Rattle.std.specs.Int.{w32, from_be_bytes}
use Rattle.std.proofs.lemmas.List.{drop-drop}
use Rattle.fine_model.specs.Map.{is_below}
use Rattle.node_record.proofs.FirstBytes.{decided, four_decide, rest_is}
use Rattle.node_record.proofs.places.is_below_from_next.Goals as goal

pub returns-then-next_a-next_b : goal.returns-then-next_a-next_b
returns-then-next_a-next_b c =
    let rest_a = drop 8 c.args.a.now in
    let rest_b = drop 8 c.args.b.now in
    let next = four_decide 8 c.from_be_bytes-next_a.result c.from_be_bytes-next_b.result c.args.a.now c.args.b.now (c.from_be_bytes-next_a.ensures ∙ ap (from_be_bytes w32) c.part.ensures) (c.from_be_bytes-next_b.ensures ∙ ap (from_be_bytes w32) c.part-2.ensures)
    (λ i. omega (arith, c.type_inv.a i)) (λ i. omega (arith, c.type_inv.b i)) c.requires.long_a c.requires.long_b in
    decided c.from_be_bytes-next_a.result c.from_be_bytes-next_b.result rest_a rest_b (drop 4 rest_a) (drop 4 rest_b) next c.if-next_a-next_b.true

pub returns : goal.returns
returns c =
    let a = c.args.a.now in
    let b = c.args.b.now in
    let next = four_decide 8 c.from_be_bytes-next_a.result c.from_be_bytes-next_b.result a b (c.from_be_bytes-next_a.ensures ∙ ap (from_be_bytes w32) c.part.ensures) (c.from_be_bytes-next_b.ensures ∙ ap (from_be_bytes w32) c.part-2.ensures)
    (λ i. omega (arith, c.type_inv.a i)) (λ i. omega (arith, c.type_inv.b i)) c.requires.long_a c.requires.long_b in
    c.is_below_by_bytes.ensures ∙ (λ i. is_below (rest_is 12 a i) (rest_is 12 b i)) ∙ sym (λ i. is_below (drop-drop 4 8 a i) (drop-drop 4 8 b i)) ∙ sym (next.equal c.if-next_a-next_b.false)
