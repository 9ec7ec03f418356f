use Rattle.std.proofs.Common.{◌∙◌, inl, Ok, Err, sym, ap, arith}
use Rattle.partition_index.proofs.Exact.{never_bad}
use Rattle.partition_index.proofs.Looking.{seen_same}
use Rattle.node_fetch.proofs.PartRows.{none_found, some_found, read_found, tells_same, bad_within, span_taken}
use Rattle.node_fetch.proofs.rebuild.part_rows.Goals as goal

pub returns-in-Ok-None-clause-exact : goal.returns-in-Ok-None-clause-exact
returns-in-Ok-None-clause-exact g c rows t = c.new.ensures ∙ sym (none_found rows c.args.node (rw c.in-Ok-None.field-0-is at (c.in-Ok-None.ensures.exact rows t)))

pub bad_index-requires-clause-within : goal.bad_index-requires-clause-within
bad_index-requires-clause-within g c =
    let within = bad_within (g.E.LogEye.state c.args.eye.now).told c.args.part.now c.in-Err-BadIndex.at (c.in-Err-BadIndex.ensures.bad c.in-Err-BadIndex.at (ap Err c.in-Err-BadIndex.field-0-is)) in
    omega (arith, within, c.in-Err-BadIndex.at-is)

pub returns-in-Err-BadIndex-clause-exact : goal.returns-in-Err-BadIndex-clause-exact
returns-in-Err-BadIndex-clause-exact g c rows t =
    absurd (never_bad (g.E.LogEye.state c.args.eye.now) c.args.part.now rows c.in-Err-BadIndex.at c.requires.seen t (c.in-Err-BadIndex.ensures.bad c.in-Err-BadIndex.at (ap Err c.in-Err-BadIndex.field-0-is)))

pub read_span-requires-clause-seen : goal.read_span-requires-clause-seen
read_span-requires-clause-seen g c = seen_same (g.E.LogEye.state c.args.eye.now) (g.E.LogEye.state c.seek.new.eye) c.args.part.now c.seek.ensures.eye.same c.requires.seen

pub returns-clause-exact : goal.returns-clause-exact
returns-clause-exact g c rows t =
    c.read_span.ensures.exact rows (tells_same (g.E.LogEye.state c.args.eye.now) (g.E.LogEye.state c.seek.new.eye) c.args.part.now rows c.seek.ensures.eye.same t)
    (some_found rows c.args.node c.in-Ok-Some.span (rw c.in-Ok-Some.field-0-is at (c.in-Ok-Some.ensures.exact rows t)))

pub returns-clause-taken : goal.returns-clause-taken
returns-clause-taken g c rows t =
    span_taken (g.E.LogEye.state c.args.eye.now).taken (g.E.LogEye.state c.seek.new.eye).taken (g.E.LogEye.state c.read_span.new.eye).taken _ rows c.args.node c.in-Ok-Some.span
    (some_found rows c.args.node c.in-Ok-Some.span (rw c.in-Ok-Some.field-0-is at (c.in-Ok-Some.ensures.exact rows t))) c.seek.ensures.eye.taken c.read_span.ensures.eye.taken

pub returns-in-Ok-None-clause-read : goal.returns-in-Ok-None-clause-read
returns-in-Ok-None-clause-read g c = record { read = inl (c.new.ensures, c.in-Ok-None.ensures.none (ap Ok c.in-Ok-None.field-0-is)); exact = returns-in-Ok-None-clause-exact g c }

pub returns-clause-read : goal.returns-clause-read
returns-clause-read g c =
    read_found c.read_span.result (g.E.LogEye.state c.args.eye.now) (g.E.LogEye.state c.seek.new.eye) c.args.node c.args.part.now c.in-Ok-Some.span c.seek.ensures.eye.same (rw c.in-Ok-Some.field-0-is at c.in-Ok-Some.ensures.span)
    c.read_span.ensures.holds (returns-clause-exact g c)
