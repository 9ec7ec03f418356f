use Rattle.std.proofs.Common.{refl}
use Rattle.node_fetch.proofs.OfSpan.{held, exact, blamed, never_stops}
use Rattle.node_fetch.proofs.span.frames_of_span.Goals as goal

pub returns-in-Ok-clause-holds : goal.returns-in-Ok-clause-holds
returns-in-Ok-clause-holds c = held c.args.part.now c.args.node c.args.span c.args.bytes.now c.requires.long c.requires.order c.requires.within

pub returns-in-Ok-clause-exact : goal.returns-in-Ok-clause-exact
returns-in-Ok-clause-exact c eye rows seen range t is = (refl, exact c.args.part.now c.args.node c.args.span c.args.bytes.now c.requires.long c.requires.order c.requires.within eye rows seen range t is)

pub returns-in-Err-clause-holds : goal.returns-in-Err-clause-holds
returns-in-Err-clause-holds c = held c.args.part.now c.args.node c.args.span c.args.bytes.now c.requires.long c.requires.order c.requires.within

pub returns-in-Err-clause-bad_row : goal.returns-in-Err-clause-bad_row
returns-in-Err-clause-bad_row c known range region at e =
    blamed c.args.part.now c.args.node c.args.span c.args.bytes.now c.requires.long c.requires.order c.requires.within c.args.region_len known range c.in-Err.at c.in-Err.ensures.bad c.bad_row.result c.bad_row.ensures region at cc

pub returns-in-Err-clause-exact : goal.returns-in-Err-clause-exact
returns-in-Err-clause-exact c eye rows seen range t is =
    absurd (never_stops c.args.part.now c.args.node c.args.span c.args.bytes.now c.requires.long c.requires.order c.requires.within eye rows seen range t is c.in-Err.at c.in-Err.ensures.bad)
