use Rattle.std.proofs.Common.{sym, subst}
use Rattle.partition_index.specs.Search.{IsRangeAt}
use Rattle.node_fetch.proofs.span.read_span.Goals as goal

pub returns-clause-exact : goal.returns-clause-exact
returns-clause-exact g c rows t is =
    let eye = g.E.LogEye.state c.args.eye.now in
    let range : IsRangeAt eye.told c.args.part.now c.args.span.at c.deref.result.now = subst (IsRangeAt eye.told c.args.part.now c.args.span.at) (sym c.deref.ensures.value) c.in_ok-bytes.ensures.read in
    c.rows_of_span.ensures.exact eye rows c.requires.seen range t is
