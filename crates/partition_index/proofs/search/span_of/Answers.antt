use Rattle.std.proofs.Common.{◌≡◌, Err, rules, sym, ap, ◌∙◌}
use Rattle.std.specs.Prelude.{Result}
use Rattle.partition_index.specs.declared.entries.SeekFault.{SeekFault}
use Rattle.partition_index.specs.declared.entries.SeekFault.TheVariants as fault
use Rattle.partition_index.specs.declared.entries.Span.{Span}
use Rattle.partition_index.proofs.Entry.{bad_next}
use Rattle.partition_index.proofs.search.span_of.Goals as goal

pub returns-in_err-end-clause-none : goal.returns-in_err-end-clause-none
returns-in_err-end-clause-none g c at is =
    let same : c.from_residual.result ≡ Err c.in_err-end.field-0.0 = search rules in
    let err : ◌≡◌ {A = Result Span SeekFault} (Err c.in_err-end.field-0.0) (Err (fault.BadIndex at)) = sym same ∙ is in
    let bad : c.in_err-end.field-0.0 ≡ fault.BadIndex at = cc in
    let next = c.in_err-end.ensures.next at (ap Err bad) in
    bad_next (g.E.LogEye.state c.args.eye.now).told c.args.part.now c.args.i at c.args.entry.now next.0 c.requires.entry next.1
