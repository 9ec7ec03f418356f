use Rattle.std.proofs.Common.{◌≡◌, subst, Err}
use Rattle.fine_model.specs.Seek.{span_at}
use Rattle.partition_index.specs.Search.{IfTold, IsBadAt}
use Rattle.partition_index.proofs.Entry.{empty_span, span_some, span_none}
use Rattle.partition_index.proofs.search.span_in.Goals as goal

pub returns-then-end-entry-clause-bad : goal.returns-then-end-entry-clause-bad
returns-then-end-entry-clause-bad c known entry end at is =
    let p = c.args.part.now in
    let same : c.entry_place.result ≡ at = cc in
    subst (IsBadAt known p) same (span_none known p c.args.i c.entry_place.result c.args.end c.args.entry.now c.requires.there c.entry_place.ensures entry end c.if-end-entry.true)

pub returns-then-end-entry-clause-none : goal.returns-then-end-entry-clause-none
returns-then-end-entry-clause-none c known entry end at is =
    let p = c.args.part.now in
    let same : c.entry_place.result ≡ at = cc in
    subst (λ at. IfTold known p (λ body. span_at p.header body c.args.i ≡ Err at)) same (empty_span known p c.args.i c.entry_place.result c.args.end c.args.entry.now c.entry_place.ensures entry end c.if-end-entry.true)

pub returns-clause-ok : goal.returns-clause-ok
returns-clause-ok c known entry end = span_some known c.args.part.now c.args.i c.args.end c.args.entry.now entry end c.if-end-entry.false
