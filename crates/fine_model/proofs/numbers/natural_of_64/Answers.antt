use Rattle.std.proofs.Common.{sym, ◌∙◌, arith}
use Rattle.std.proofs.lemmas.Slice.Eq.{bytes_eq-Decides}
use Rattle.fine_model.proofs.numbers.natural_of_64.Goals as goal
use Rattle.fine_model.proofs.Ordered.Digits.{spelled}

pub returns-then-eq-clause-is : goal.returns-then-eq-clause-is
returns-then-eq-clause-is c =
    let same = (bytes_eq-Decides c.as_bytes.result.now c.args.word.now).0 (sym c.eq.ensures ∙ c.if-eq.true) in
    spelled c.args.low c.args.high c.worth-worth.result c.args.word.now c.worth-worth.ensures (omega (arith, c.if-worth-low.false)) (omega (arith, c.if-high-worth.false)) (sym c.format.ensures.text ∙ sym c.as_bytes.ensures.value ∙ same)
