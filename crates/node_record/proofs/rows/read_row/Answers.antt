-- Each end of the reading gives what reading the list gives, and so a row of the grammar, or none.
use Rattle.std.proofs.Common.{drop, rules, arith}
use Rattle.node_record.specs.Reading.{Gives, row_at}
use Rattle.node_record.proofs.RowLaws.{reads, whole_gives}
use Rattle.node_record.proofs.rows.read_row.Goals as goal

pub returns-in_err-front : goal.returns-in_err-front
unfolding row_at
returns-in_err-front c =
    let given : Gives (λ row. row) c.args.bytes.now c.args.at c.from_residual.result (row_at c.args.mark (drop c.args.at c.args.bytes.now)) = search rules in
    let r = reads c.args.mark c.args.bytes.now c.args.at c.from_residual.result c.requires (λ i. omega (arith, c.type_inv.bytes i)) given in
    record { found = r.found; bad = r.bad; again = r.again }

pub returns-in_err-rec : goal.returns-in_err-rec
unfolding row_at
returns-in_err-rec c =
    let given : Gives (λ row. row) c.args.bytes.now c.args.at c.from_residual-in_err-rec.result (row_at c.args.mark (drop c.args.at c.args.bytes.now)) = search rules in
    let r = reads c.args.mark c.args.bytes.now c.args.at c.from_residual-in_err-rec.result c.requires (λ i. omega (arith, c.type_inv.bytes i)) given in
    record { found = r.found; bad = r.bad; again = r.again }

pub returns : goal.returns
returns c =
    let given = whole_gives c.args.mark c.args.bytes.now c.args.at c.in_ok-front.front c.in_ok-front.body c.in_ok-rec.rec c.in_ok-rec.end c.whole.result c.in_ok-front.ensures c.in_ok-rec.ensures.0 c.in_ok-rec.ensures.1 c.whole.ensures in
    let r = reads c.args.mark c.args.bytes.now c.args.at c.whole.result c.requires (λ i. omega (arith, c.type_inv.bytes i)) given in
    record { found = r.found; bad = r.bad; again = r.again }
