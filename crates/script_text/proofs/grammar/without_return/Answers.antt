use Rattle.script_text.proofs.Wording.{return_drops_at, return_keeps_at, return_none}
use Rattle.script_text.proofs.grammar.without_return.Goals as goal

pub returns-then-last-eq13 : goal.returns-then-last-eq13
returns-then-last-eq13 c = return_drops_at c.args.line.now c.in-Some.front.now c.in-Some.last.now c.in-Some.ensures.cases.0 c.if-last-eq13.true

pub returns-else-last-eq13 : goal.returns-else-last-eq13
returns-else-last-eq13 c = return_keeps_at c.args.line.now c.in-Some.front.now c.in-Some.last.now c.in-Some.ensures.cases.0 c.if-last-eq13.false

pub returns-in_default : goal.returns-in_default
returns-in_default c = return_none c.args.line.now c.in_default.ensures.cases
