use Rattle.std.proofs.Common.{◌≡◌, ◌∙◌, ap, subst, inl, inr, Ok, Err, rules, get_or}
use Rattle.fine_model.specs.Merge.{nodes_in}
use Rattle.partition_index.specs.Search.{IsBadAt, IsSpanAt}
use Rattle.partition_index.proofs.Looking.{seen_same}
use Rattle.partition_index.proofs.Exact.{only_failed, entry_exact, span_exact, there_in, get_is}
use Rattle.partition_index.proofs.search.entry_at.Goals as goal

pub returns-in_err-entry-clause-exact : goal.returns-in_err-entry-clause-exact
returns-in_err-entry-clause-exact g c rows t =
    let eye = g.E.LogEye.state c.args.eye.now in
    let same : c.from_residual.result ≡ Err c.in_err-entry.field-0.0 = search rules in
    inl (same ∙ ap Err (only_failed eye c.args.part.now rows c.in_err-entry.field-0.0 c.requires.seen t (λ at is. c.in_err-entry.ensures.bad at (ap Err is))))

pub span_of-requires-clause-asked : goal.span_of-requires-clause-asked
span_of-requires-clause-asked g c =
    let state = g.E.LogEye.state in
    record { seen = seen_same (state c.args.eye.now) (state c.read_entry.new.eye) c.args.part.now c.read_entry.ensures.eye.same c.requires.seen; region_len = search rules; there = search rules }

pub returns-in_err-span-clause-exact : goal.returns-in_err-span-clause-exact
returns-in_err-span-clause-exact g c rows t =
    let eye = g.E.LogEye.state c.args.eye.now in
    let p = c.args.part.now in
    let same : c.from_residual-in_err-span.result ≡ Err c.in_err-span.field-0.0 = search rules in
    inl (same ∙ ap Err (only_failed eye p rows c.in_err-span.field-0.0 c.requires.seen t
    (λ at is. subst (λ known. IsBadAt known p at) c.read_entry.ensures.eye.same.told (c.in_err-span.ensures.bad at (ap Err is)))))

pub returns-clause-exact : goal.returns-clause-exact
returns-clause-exact g c rows t =
    let eye = g.E.LogEye.state c.args.eye.now in
    let p = c.args.part.now in
    let d = c.in_ok-entry.entry.node in
    let seen = c.requires.seen in
    let entry = entry_exact eye p rows c.args.i c.in_ok-entry.entry d seen t c.requires.there c.in_ok-entry.ensures.ok in
    let span = span_exact eye p rows c.args.i c.in_ok-span.span d seen t c.requires.there (subst (λ known. IsSpanAt known p c.args.i c.in_ok-span.span) c.read_entry.ensures.eye.same.told c.in_ok-span.ensures.ok) in
    inr (get_or (nodes_in rows) c.args.i d, get_is (nodes_in rows) c.args.i d (there_in eye p rows c.args.i seen t c.requires.there), λ k. Ok (entry k, span k))
