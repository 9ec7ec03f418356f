use Rattle.node_fetch.specs.Spans.{IsStop}
use Rattle.node_fetch.proofs.Reading.{reads_once, reads_on}
use Rattle.node_fetch.proofs.OfSpan.{held, exact, blamed, never_stops}
use Rattle.node_fetch.proofs.span.rows_of_span.Goals as goal

pub returns-in-Ok-clause-holds : goal.returns-in-Ok-clause-holds
returns-in-Ok-clause-holds c known range = held c.args.part.now c.args.node c.args.span c.args.bytes.now c.requires.long c.requires.order c.requires.within known range c.in-Ok.rows c.in-Ok.ensures.found

pub returns-in-Ok-clause-exact : goal.returns-in-Ok-clause-exact
returns-in-Ok-clause-exact c eye rows seen range t is = exact c.args.part.now c.args.node c.args.span c.args.bytes.now c.requires.long c.requires.order c.requires.within eye rows seen range t is c.in-Ok.rows c.in-Ok.ensures.found

pub returns-in-Ok-clause-again : goal.returns-in-Ok-clause-again
returns-in-Ok-clause-again c own read = reads_once c.args.part.now.header.mark c.args.bytes.now c.args.node c.args.span.rows c.in-Ok.rows own c.in-Ok.ensures.found read

stop : (c : goal.After-bad_row) → IsStop c.args.part.now.header.mark c.args.bytes.now c.args.node c.args.span.rows c.in-Err-Bad.at
stop c = rw c.in-Err-Bad.field-0-is at c.in-Err-Bad.ensures.bad

pub returns-in-Err-Bad-clause-bad_row : goal.returns-in-Err-Bad-clause-bad_row
returns-in-Err-Bad-clause-bad_row c known range region at e =
    blamed c.args.part.now c.args.node c.args.span c.args.bytes.now c.requires.long c.requires.order c.requires.within c.args.region_len known range c.in-Err-Bad.at (stop c) c.bad_row.result c.bad_row.ensures region at cc

pub returns-in-Err-Bad-clause-exact : goal.returns-in-Err-Bad-clause-exact
returns-in-Err-Bad-clause-exact c eye rows seen range t is =
    absurd (never_stops c.args.part.now c.args.node c.args.span c.args.bytes.now c.requires.long c.requires.order c.requires.within eye rows seen range t is c.in-Err-Bad.at (stop c))

pub returns-in-Err-Bad-clause-again : goal.returns-in-Err-Bad-clause-again
returns-in-Err-Bad-clause-again c own read = absurd (reads_on c.args.part.now.header.mark c.args.bytes.now c.args.node c.args.span.rows c.in-Err-Bad.at own read (stop c))
