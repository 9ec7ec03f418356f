use Rattle.std.proofs.Common.{◌≡◌, ◌+◌, true, false, eqb, rules, arith}
use Rattle.node_record.proofs.Passing.{if_err, no_front, no_body, no_end, is_frame}
use Rattle.node_record.proofs.frames.frame_at.Goals as goal

pub returns-in_err-front-clause-bad : goal.returns-in_err-front-clause-bad
returns-in_err-front-clause-bad c = if_err c.from_residual.result (no_front c.args.mark c.args.bytes.now c.args.at c.requires (λ i. omega (arith, c.type_inv.bytes i)) c.in_err-front.ensures.1)

pub returns-in_err-end-clause-bad : goal.returns-in_err-end-clause-bad
returns-in_err-end-clause-bad c =
    if_err c.from_residual-in_err-end.result
    (no_body c.args.mark c.args.bytes.now c.args.at c.requires (λ i. omega (arith, c.type_inv.bytes i)) c.in_ok-front.front c.in_ok-front.body c.in_ok-front.ensures c.in_err-end.ensures.1)

pub returns-in_err-sure-clause-bad : goal.returns-in_err-sure-clause-bad
returns-in_err-sure-clause-bad c =
    let other : eqb c.in_ok-end.end (c.in_ok-front.body + c.in_ok-front.front.len) ≡ false = search rules in
    if_err c.from_residual-in_err-sure.result
    (no_end c.args.mark c.args.bytes.now c.args.at c.requires (λ i. omega (arith, c.type_inv.bytes i)) c.in_ok-front.front c.in_ok-front.body c.in_ok-front.ensures c.in_ok-end.end c.in_ok-end.ensures other)

pub returns-clause-found : goal.returns-clause-found
returns-clause-found c =
    let whole : eqb c.in_ok-end.end (c.in_ok-front.body + c.in_ok-front.front.len) ≡ true = search rules in
    is_frame c.args.mark c.args.bytes.now c.args.at c.requires (λ i. omega (arith, c.type_inv.bytes i)) c.in_ok-front.front c.in_ok-front.body c.in_ok-front.ensures c.in_ok-end.end c.in_ok-end.ensures whole
